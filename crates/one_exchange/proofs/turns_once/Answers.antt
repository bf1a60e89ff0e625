use Rattle.one_exchange.proofs.Alone.{stands}
use Rattle.one_exchange.proofs.Fair.{are_fair}
use Rattle.one_exchange.proofs.turns_once.Goals as goal

pub returns : goal.returns
returns c known t n = are_fair known t (stands known t n)
