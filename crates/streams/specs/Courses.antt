-- The course of a request, as octets of its body come.
use Rattle.std.specs.Prelude.{ℕ, ◌+◌, Bool, List, [], ◌∷◌, length, not, ◌&&◌, nat_lt, is_some}
use Rattle.model.specs.Messages.Item.{Content}
use Rattle.model.specs.Malformed.{is_malformed_content}
use Rattle.model.specs.Causes.{cause_if}
use Rattle.model.specs.Causes.Cause.{LargeBody}
use Rattle.theory_errors.specs.Summary.{Outline, carried_in}
use Rattle.theory_errors.specs.Owing.{outline_behind}

-- Octets of the body make a request malformed to which the gateway doesn't reply itself (RFC 9113, section 8.1.1).
abbrev pub is_malformed_with : List ℕ → Bool → Outline → Bool
is_malformed_with octets ends outline = not (is_some outline.cause) && is_malformed_content (carried_in outline) octets ends

-- The course behind octets of the body, of which the gateway takes at most so many; else it replies itself, with a final head out or not.
abbrev pub outline_with : List ℕ → Bool → ℕ → Bool → Outline → Outline
outline_with octets ends most out outline =
    let cause = cause_if (nat_lt most (outline.octets + length octets)) LargeBody in
    outline_behind outline (is_some cause) (Content octets ends ∷ []) cause out
