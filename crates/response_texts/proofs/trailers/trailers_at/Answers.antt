use Rattle.std.proofs.Common.{◌∙◌, ap}
use Rattle.std.specs.Prelude.{Err}
use Rattle.httparse.specs.declared.Error.{Error}
use Rattle.response_texts.proofs.Rooms.{section_fits}
use Rattle.response_texts.proofs.FaultReads.{never_trailers}
use Rattle.response_texts.proofs.trailers.trailers_at.Goals as goal

pub returns-in-TooManyHeaders : goal.returns-in-TooManyHeaders
returns-in-TooManyHeaders c = section_fits _ c.args.text.now c.requires (c.parse_headers.ensures.too_many (c.in-Err.is ∙ ap (λ (e : Error). Err e) c.in-TooManyHeaders.is))

pub returns-in_default : goal.returns-in_default
returns-in_default c = λ _. never_trailers c.args.text.now c.requires (c.in-Err.ensures.invalid c.in_default.not-TooManyHeaders)
