-- How far the response on a connection is, and what was heard of it, as the rule of requests has them.
use Rattle.theory_requests.specs.Lines.{Answer, Heard}
use Rattle.theory_requests.specs.Lines.Answer.{Pending, Idle, Done}
use Rattle.theory_requests.specs.Lines.Heard.{Partly, Keepable, Finished}
use Rattle.upstream_connections.specs.declared.progress.Progress.{Progress}
use Rattle.upstream_connections.specs.declared.progress.Progress.TheVariants as progress
use Rattle.upstream_connections.specs.declared.progress.ResponseStage.{ResponseStage}
use Rattle.upstream_connections.specs.declared.progress.ResponseStage.TheVariants as verdict

abbrev pub answer_of : Progress → Answer
answer_of progress.Pending = Pending
answer_of progress.Idle = Idle
answer_of progress.Done = Done

abbrev pub heard_of : ResponseStage → Heard
heard_of verdict.Partly = Partly
heard_of verdict.Keepable = Keepable
heard_of verdict.Finished = Finished
