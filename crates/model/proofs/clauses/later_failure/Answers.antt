use Rattle.model.proofs.FailureLaws.{same_course}
use Rattle.model.proofs.clauses.later_failure.Goals as goal

pub returns : goal.returns
returns c = same_course
