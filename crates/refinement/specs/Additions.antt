-- What a frame of the client gains its stream's request, by the answer that the judgement gave.
use Rattle.std.specs.Prelude.{◌≡◌, ℕ, Bool, true, false, List, [], None}
use Rattle.model.specs.Messages.{Field}
use Rattle.model.specs.Messages.Item.{Block, Content}
use Rattle.model.specs.Setup.{Setup}
use Rattle.model.specs.Tapes.{Noted}
use Rattle.theory_errors.specs.Summary.{Summary}
use Rattle.theory.specs.Rule.{added_in, Adds, AddsHead}
use Rattle.connection_state.specs.declared.answers.Judged.{Judged}
use Rattle.connection_state.specs.declared.answers.Judged.TheVariants as judged
use Rattle.connection_state.specs.declared.answers.BlockJudged.{BlockJudged}
use Rattle.connection_state.specs.declared.answers.BlockJudged.TheVariants as block

-- Items of a request may come on a stream: they aren't over, and the gateway doesn't reply itself.
pub record GoesOn (s : Summary) (id : ℕ) : Type 0 where
  pub not_over : (s.stream id).outline.over ≡ false
  pub no_cause : (s.stream id).outline.cause ≡ None

-- What a frame without a fragment of a header block gains: octets of the body, where items may come, and nothing where they are over;
-- nothing by any other answer.
abbrev pub IsPlainAddition : Setup → Summary → Noted → Judged → Type 0
IsPlainAddition setup s noted (judged.Content octets ends) =
    (GoesOn s noted.frame.id → Adds setup s noted (Content octets.now ends)) × ((s.stream noted.frame.id).outline.over ≡ true → added_in setup s noted ≡ [])
IsPlainAddition setup s noted answer = added_in setup s noted ≡ []

-- What one with a fragment gains: the head with which a request begins, or trailers, with the fields of the block; nothing by any other answer.
abbrev pub IsBlockAddition : Setup → Summary → Noted → List Field → Bool → BlockJudged → Type 0
IsBlockAddition setup s noted fields ends (block.Begins head route) = AddsHead setup s noted (Block fields ends)
IsBlockAddition setup s noted fields ends (block.Trailers trailers) = Adds setup s noted (Block fields ends)
IsBlockAddition setup s noted fields ends answer = added_in setup s noted ≡ []
