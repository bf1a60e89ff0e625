use Rattle.one_exchange.proofs.Alone.{stands}
use Rattle.one_exchange.proofs.Sent.{requests_hold}
use Rattle.one_exchange.proofs.requests_once.Goals as goal

pub returns : goal.returns
returns c known t n = requests_hold known t (stands known t n) n.requests
