use Rattle.one_exchange.proofs.Alone.{stands}
use Rattle.one_exchange.proofs.Returning.{floods_hold}
use Rattle.one_exchange.proofs.floods_once.Goals as goal

pub returns : goal.returns
returns c known t n = floods_hold known t (stands known t n)
