use Rattle.one_exchange.proofs.Alone.{stands}
use Rattle.one_exchange.proofs.Judged.{are_judged}
use Rattle.one_exchange.proofs.failures_once.Goals as goal

pub returns : goal.returns
returns c known t n = are_judged known t (stands known t n)
