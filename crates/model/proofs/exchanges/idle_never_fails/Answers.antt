use Rattle.model.proofs.PastLaws as laws
use Rattle.model.proofs.exchanges.idle_never_fails.Goals as goal

pub returns-clause-octets : goal.returns-clause-octets
returns-clause-octets c known t k piece i = (laws.idle_never_fails known t k i).0 piece

pub returns-clause-ended : goal.returns-clause-ended
returns-clause-ended c known t k i = (laws.idle_never_fails known t k i).1

pub returns-clause-failed : goal.returns-clause-failed
returns-clause-failed c known t k i = (laws.idle_never_fails known t k i).2
