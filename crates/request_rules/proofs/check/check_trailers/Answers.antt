use Rattle.model.proofs.MalformedLaws.{trailers_told}
use Rattle.request_rules.proofs.MalformedTests.{trailers_fail, trailers_kept}
use Rattle.request_rules.proofs.check.check_trailers.Goals as goal

pub returns-in-Some-clause-refused : goal.returns-in-Some-clause-refused
returns-in-Some-clause-refused c = c.in-Some.ensures.0

pub returns-in-Some-clause-malformed : goal.returns-in-Some-clause-malformed
returns-in-Some-clause-malformed c = λ n. trailers_fail c.in-Some.broken c.args.trailers.now c.in-Some.ensures.0 n

pub returns-in-Some-clause-memory : goal.returns-in-Some-clause-memory
returns-in-Some-clause-memory c = λ e. absurd (c.in-Some.ensures.1 e)

pub returns-in-Ok-clause-passes : goal.returns-in-Ok-clause-passes
returns-in-Ok-clause-passes c = trailers_told c.args.trailers.now c.in_default.ensures

pub returns-in-Err-clause-refused : goal.returns-in-Err-clause-refused
returns-in-Err-clause-refused c = trailers_kept c.args.trailers.now c.in_default.ensures

pub returns-in-Err-clause-memory : goal.returns-in-Err-clause-memory
returns-in-Err-clause-memory c = λ e. trailers_told c.args.trailers.now c.in_default.ensures
