use Rattle.one_exchange.proofs.Alone.{stands}
use Rattle.one_exchange.proofs.Offered.{responses_hold}
use Rattle.one_exchange.proofs.responses_once.Goals as goal

pub returns : goal.returns
returns c known t n = responses_hold known t (stands known t n)
