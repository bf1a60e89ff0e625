-- What frames of the client call for, by the answers of the judgement.
use Rattle.std.proofs.Common.{◌≡◌, ℕ, Bool, true, false, not, ◌&&◌, ◌||◌, ◌==◌, nat_lt, if◌then◌else◌, List, [], ◌∷◌, ◌++◌, append-nil, length, Option, Some, None, refl, ◌∙◌, ap}
use Rattle.std.specs.Prelude.{is_some}
use Rattle.model.specs.Frames.{Frame, goaway, no_error}
use Rattle.model.specs.Setup.{Setup}
use Rattle.model.specs.Tapes.{Noted}
use Rattle.model.specs.Tapes.Entry.{Came}
use Rattle.model.specs.Limits.{most_streams}
use Rattle.model.proofs.OwedSteps.{neither_full}
use Rattle.model.specs.Lifetimes.{opens_by}
use Rattle.model.specs.Errors.{Fault}
use Rattle.model.specs.Errors.Fault.{Connection, Stream, Discarded}
use Rattle.model.specs.Causes.{Cause}
use Rattle.model.specs.Courses.{first_of_both}
use Rattle.model.specs.ErrorClause.{is_fatal, acks, reset_for, rst_stream}
use Rattle.theory_errors.specs.Summary.{Summary, Outline}
use Rattle.theory_errors.specs.Judging.{completed_in}
use Rattle.theory_errors.specs.Owing.{fault_in, owed_first_in, last_goaway_in, opened_after, highest_in, resets_in, owes_in, cause_in}
use Rattle.theory_errors.proofs.Wanted.{bears}
use Rattle.theory_errors.proofs.Seen.{idle_cause}
use Rattle.refinement.specs.Owed.{reset_behind, owed_at_fault}
use Rattle.refinement.proofs.Gaining.{caused}

-- where the cause stays there is no reset
no_reset : (id : ℕ) (out : Bool) (cause : Option Cause) → reset_for id out cause cause ≡ []
no_reset id true None = refl
no_reset id false None = refl
no_reset id true (Some cause) = refl
no_reset id false (Some cause) = refl

pub no_more : (cause : Option Cause) → first_of_both cause None ≡ cause
no_more None = refl
no_more (Some cause) = refl

module _ (setup : Setup) (s : Summary) (noted : Noted) where
  abbrev pub outline : Outline
  outline = (s.stream noted.frame.id).outline

  -- a frame that opens no stream calls for no GOAWAY
  pub no_goaway : opens_by s.drained s.opened (completed_in s.block noted.frame) noted.note ≡ false → last_goaway_in s (Came noted) ≡ []
  no_goaway none =
      ap (λ (b : Bool). if not s.drained && nat_lt (length s.opened) most_streams && (s.drained || length (if b then noted.frame.id ∷ s.opened else s.opened) == most_streams) then goaway (highest_in (opened_after s (Came noted))) no_error ∷ [] else []) none
      ∙ ap (λ (b : Bool). if b then goaway (highest_in (opened_after s (Came noted))) no_error ∷ [] else []) (neither_full s.drained (length s.opened) most_streams)

  -- where the cause stays, no reset of its stream
  pub same_cause : first_of_both outline.cause (caused setup s noted) ≡ outline.cause → resets_in setup false s (Came noted) ≡ []
  same_cause same =
      ap (λ (c : Option Cause). reset_for noted.frame.id (if is_some outline.cause then outline.head_out else is_some (caused setup s noted) && (s.stream noted.frame.id).head_out) outline.cause c) same
      ∙ no_reset noted.frame.id (if is_some outline.cause then outline.head_out else is_some (caused setup s noted) && (s.stream noted.frame.id).head_out) outline.cause

  pub none_reset : caused setup s noted ≡ None → resets_in setup false s (Came noted) ≡ []
  none_reset none = same_cause (ap (λ (c : Option Cause). first_of_both outline.cause c) none ∙ no_more outline.cause)

  -- a frame without a fault that neither completes a header block nor is DATA is no cause
  pub idle_no_cause : fault_in s (Came noted) ≡ None → bears s noted.frame ≡ false → caused setup s noted ≡ None
  idle_no_cause faultless idle = by (noted.frame.id == noted.frame.id && nat_lt 0 noted.frame.id)
    where
      by : (b : Bool) → (if b then cause_in setup false outline s (Came noted) (fault_in s (Came noted)) else None) ≡ None
      by false = refl
      by true = ap (λ (found : Option Fault). cause_in setup false outline s (Came noted) found) faultless ∙ idle_cause setup outline s noted idle

  -- where it is, the reset by whether a final head was out
  pub a_reset : (cause : Cause) → outline.cause ≡ None → caused setup s noted ≡ Some cause → resets_in setup false s (Came noted) ≡ reset_behind noted.frame.id (s.stream noted.frame.id).head_out cause
  a_reset cause none is =
      ap (λ (c : Option Cause). reset_for noted.frame.id (if is_some outline.cause then outline.head_out else is_some c && (s.stream noted.frame.id).head_out) outline.cause (first_of_both outline.cause c)) is
      ∙ ap (λ (b : Option Cause). reset_for noted.frame.id (if is_some b then outline.head_out else (s.stream noted.frame.id).head_out) b (first_of_both b (Some cause))) none

  -- What a frame without a fault calls for: the GOAWAY, its acknowledgement, a reset.
  pub owes_faultless : fault_in s (Came noted) ≡ None → owes_in setup false s (Came noted) ≡ last_goaway_in s (Came noted) ++ (acks (Came noted) None ++ resets_in setup false s (Came noted))
  owes_faultless faultless =
      ap (λ (found : Option Fault). owed_first_in s (Came noted) found ++ (acks (Came noted) found ++ (resets_in setup false s (Came noted) ++ []))) faultless
      ∙ ap (λ (xs : List Frame). last_goaway_in s (Came noted) ++ (acks (Came noted) None ++ xs)) (append-nil (resets_in setup false s (Came noted)))

  -- a frame with a fault is no cause
  pub not_caused : (fault : Fault) → fault_in s (Came noted) ≡ Some fault → caused setup s noted ≡ None
  not_caused fault is = by (noted.frame.id == noted.frame.id && nat_lt 0 noted.frame.id)
    where
      by : (b : Bool) → (if b then cause_in setup false outline s (Came noted) (fault_in s (Came noted)) else None) ≡ None
      by false = refl
      by true = ap (λ (found : Option Fault). cause_in setup false outline s (Came noted) found) is

  -- What one with a fault that isn't one of the connection calls for: the GOAWAY, and the reset of its stream.
  pub owes_at_fault : (fault : Fault) → is_fatal (Some fault) ≡ false → fault_in s (Came noted) ≡ Some fault → owes_in setup false s (Came noted) ≡ last_goaway_in s (Came noted) ++ owed_at_fault noted.frame.id fault
  owes_at_fault (Connection code) mild is = cc
  owes_at_fault (Stream code) mild is =
      ap (λ (found : Option Fault). owed_first_in s (Came noted) found ++ (acks (Came noted) found ++ (resets_in setup false s (Came noted) ++ []))) is
      ∙ ap (λ (xs : List Frame). (last_goaway_in s (Came noted) ++ rst_stream noted.frame.id code ∷ []) ++ (xs ++ [])) (none_reset (not_caused (Stream code) is))
      ∙ append-nil (last_goaway_in s (Came noted) ++ rst_stream noted.frame.id code ∷ [])
  owes_at_fault Discarded mild is =
      ap (λ (found : Option Fault). owed_first_in s (Came noted) found ++ (acks (Came noted) found ++ (resets_in setup false s (Came noted) ++ []))) is
      ∙ ap (λ (xs : List Frame). last_goaway_in s (Came noted) ++ (xs ++ [])) (none_reset (not_caused Discarded is))
