use Rattle.model.proofs.FailureLaws as laws
use Rattle.model.proofs.clauses.later_verdicts.Goals as goal

pub returns : goal.returns
returns c = laws.are_judged_more
