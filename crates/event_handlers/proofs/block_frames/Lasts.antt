-- Where the last stream is opened without a fault, its GOAWAY can go out.
use Rattle.std.proofs.Common.{◌≡◌, ℕ, Bool, true, false, ◌&&◌, if◌then◌else◌, List, [], ◌∷◌, ◌++◌, Option, Some, None, refl, sym, ◌∙◌, ap}
use Rattle.std.specs.Prelude.{is_some}
use Rattle.model.specs.Frames.{goaway, no_error, compression_error, enhance_your_calm}
use Rattle.model.specs.FrameErrors.{fault_if}
use Rattle.model.specs.Tapes.{Noted}
use Rattle.model.specs.Tapes.Entry.{Came}
use Rattle.model.specs.Errors.{Fault, first_of, or_else}
use Rattle.model.specs.Errors.Fault.{Connection, Stream}
use Rattle.model.specs.ErrorTable.{is_undecodable, unless_of_stream}
use Rattle.theory_errors.specs.Summary.{Summary}
use Rattle.theory_errors.specs.Judging.{rows_before_block_in, fault_by_standing_in, stream_update_in, stream_data_in, no_goaway_in, fault_of_rows_in, malformed_in, are_last, opened_with, is_crowded_in}
use Rattle.theory_errors.specs.Owing.{fault_in, highest_in, last_goaway_in}
use Rattle.event_handlers.specs.block_frames.Following.{goaway_frames}

-- the last of rows that give no fault gives none
last_none : (rows : List (Option Fault)) (row : Option Fault) → first_of (rows ++ row ∷ []) ≡ None → row ≡ None
last_none [] None none = refl
last_none [] (Some found) none = none
last_none (None ∷ rows) row none = last_none rows row none
last_none (Some found ∷ rows) row none = absurd (let no : Some found ≡ None = none in cc)

first_none : (a b : Option Fault) → or_else a b ≡ None → a ≡ None
first_none None b none = refl
first_none (Some found) b none = none

module _ (s : Summary) (noted : Noted) (faultless : fault_in s (Came noted) ≡ None) where
  row_none : no_goaway_in s noted ≡ None
  row_none =
      last_none
      (rows_before_block_in s noted.frame ++ (fault_if (is_undecodable noted.note) (Connection compression_error) ∷ unless_of_stream (fault_by_standing_in s noted.frame) ∷ stream_update_in s noted.frame ∷ stream_data_in s noted.frame ∷ fault_by_standing_in s noted.frame ∷ []))
      (no_goaway_in s noted)
      (first_none (fault_of_rows_in s (Came noted)) (malformed_in (s.stream noted.frame.id).outline s (Came noted)) faultless)

  -- The GOAWAY is owed, so not too many octets are untaken.
  pub goaway_free : (last : Option ℕ) → last_goaway_in s (Came noted) ≡ goaway_frames last → is_some last ≡ true → is_crowded_in s ≡ false
  goaway_free None owed some = absurd (let no : false ≡ true = some in cc)
  goaway_free (Some last) owed some = by (are_last s s.drained (opened_with s noted)) refl (is_crowded_in s) refl
    where
      by : (a : Bool) → are_last s s.drained (opened_with s noted) ≡ a → (b : Bool) → is_crowded_in s ≡ b → is_crowded_in s ≡ false
      by a is false free = free
      by false is true crowded = absurd (
          let no : [] ≡ goaway last no_error ∷ [] = ap (λ c. if c then goaway (highest_in (opened_with s noted)) no_error ∷ [] else []) (sym is) ∙ owed in
          cc
          )
      by true is true crowded = absurd (
          let no : Some (Stream enhance_your_calm) ≡ None =
          ap (λ c. fault_if (c && true) (Stream enhance_your_calm)) (sym is)
          ∙ ap (λ c. fault_if (are_last s s.drained (opened_with s noted) && c) (Stream enhance_your_calm)) (sym crowded)
          ∙ row_none in
          cc
          )
