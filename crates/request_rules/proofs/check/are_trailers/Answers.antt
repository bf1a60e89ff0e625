use Rattle.model.proofs.MalformedLaws.{trailers_told}
use Rattle.request_rules.proofs.MalformedTests.{trailers_fail}
use Rattle.std.proofs.Common.{sym}
use Rattle.request_rules.proofs.check.are_trailers.Goals as goal

pub returns-in-None : goal.returns-in-None
returns-in-None c = sym (trailers_told c.args.trailers.now c.in-None.ensures)

pub returns-in-Some : goal.returns-in-Some
returns-in-Some c = sym (trailers_fail c.in-Some.field-0 c.args.trailers.now c.in-Some.ensures.0 c.in-Some.ensures.1)
