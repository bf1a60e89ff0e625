use Rattle.one_exchange.proofs.Alone.{stands}
use Rattle.one_exchange.proofs.Returning.{windows_hold}
use Rattle.one_exchange.proofs.windows_once.Goals as goal

pub returns : goal.returns
returns c known t n = windows_hold known t (stands known t n)
