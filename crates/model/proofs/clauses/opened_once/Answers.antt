use Rattle.model.proofs.OpenedLaws as laws
use Rattle.model.proofs.clauses.opened_once.Goals as goal

pub returns-clause-fresh : goal.returns-clause-fresh
returns-clause-fresh c = laws.opens_new

pub returns-clause-not_zero : goal.returns-clause-not_zero
returns-clause-not_zero c = laws.none_zero
