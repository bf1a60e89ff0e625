use Rattle.model.proofs.MalformedLaws.{head_holds, head_told, trailers_hold, trailers_told}
use Rattle.model.proofs.clauses.malformed_tests.Goals as goal

pub returns-clause-head : goal.returns-clause-head
returns-clause-head c = head_holds

pub returns-clause-head_passes : goal.returns-clause-head_passes
returns-clause-head_passes c = head_told

pub returns-clause-trailers : goal.returns-clause-trailers
returns-clause-trailers c = trailers_hold

pub returns-clause-trailers_pass : goal.returns-clause-trailers_pass
returns-clause-trailers_pass c = trailers_told
