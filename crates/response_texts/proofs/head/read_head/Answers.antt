use Rattle.std.proofs.Common.{◌∙◌, ap}
use Rattle.std.specs.Prelude.{Err}
use Rattle.httparse.specs.declared.Error.{Error}
use Rattle.response_texts.proofs.Rooms.{head_fits}
use Rattle.response_texts.proofs.FaultReads.{never_head}
use Rattle.response_texts.proofs.head.read_head.Goals as goal

pub returns-in-TooManyHeaders : goal.returns-in-TooManyHeaders
returns-in-TooManyHeaders c = head_fits _ c.args.text.now c.requires (c.parse_response.ensures.too_many (c.in-Err.is ∙ ap (λ (e : Error). Err e) c.in-TooManyHeaders.is))

pub returns-in_default : goal.returns-in_default
returns-in_default c = λ _. never_head c.args.to_head c.args.text.now c.requires (c.in-Err.ensures.invalid c.in_default.not-TooManyHeaders)
