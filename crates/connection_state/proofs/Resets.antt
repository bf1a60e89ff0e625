-- RST_STREAM: its fault, and what is left behind it.
use Rattle.std.proofs.Common.{◌≡◌, ℕ, Bool, true, false, not, ◌&&◌, ◌==◌, if◌then◌else◌, List, [], ◌∷◌, length, Option, Some, None, refl, sym, ◌∙◌, ap, suc}
use Rattle.std.proofs.lemmas.Bool.{and_right, and_parts}
use Rattle.std.specs.Prelude.{pos, ◌+ℤ◌, is_some, nat_le}
use Rattle.model.specs.Frames.{Frame, protocol_error, flow_control_error}
use Rattle.model.specs.Setup.{Setup}
use Rattle.model.specs.Errors.{Fault, first_of, or_else}
use Rattle.model.specs.Errors.Fault.{Connection, Stream, Discarded}
use Rattle.model.specs.FrameErrors.{fault_if}
use Rattle.model.specs.WindowsOnTape.{increment, is_past}
use Rattle.model.specs.ErrorTable.{fault_of, unless_of_stream, is_idle}
use Rattle.model.specs.Limits.{most_resets}
use Rattle.model.specs.ErrorClause.{is_fatal}
use Rattle.theory_errors.specs.Summary.{Outline, Summary}
use Rattle.theory_errors.specs.Judging.{frame_rows_in, is_active_in, is_over_in, standing_in, window_in, fault_by_standing_in, stream_update_in, stream_data_in, malformed_in, fault_for, resets_row_in, no_goaway_in}
use Rattle.theory_errors.specs.Rows.{find}
use Rattle.theory_errors.specs.Rows.Slot.{Over}
use Rattle.theory_errors.specs.Book.{Book, summary_in}
use Rattle.theory_errors.specs.Tidy.{AreKept}
use Rattle.theory_errors.specs.Quiet.{coming, heard, noted_of}
use Rattle.theory_errors.proofs.Elsewhere.{none_less}
use Rattle.streams.specs.Asked as asked
use Rattle.streams.specs.Asked.{standing, active_in, is_active, changed, with_slot}
use Rattle.streams.proofs.Changes.{slot_left}
use Rattle.connection_state.specs.Judgement.{IsPlain, reset, behind, is_of_stream}
use Rattle.connection_state.proofs.Rows.{skip, later_rows, fault_later, rows_behind, opens_no_last}
use Rattle.connection_state.proofs.Controls.{both_none}
use Rattle.connection_state.proofs.Standings.{active_passes, reset_inactive}
use Rattle.connection_state.proofs.Streams.{reset_mild, rows_stay, reset_row, begun, stream_behind}

module _ (setup : Setup) (b : Book) (flags id : ℕ) (payload : List ℕ) (of_stream : (id == 0) ≡ false) (sound : first_of (frame_rows_in (summary_in b) (reset flags id payload)) ≡ None) (kept : AreKept b.rows) where
  -- what is kept before it
  abbrev s : Summary
  s = summary_in b

  abbrev frame : Frame
  frame = reset flags id payload

  plain : IsPlain (reset flags id payload)
  plain = record { no_headers = refl; no_continuation = refl }

  -- one reset too many
  abbrev pub too_many : Option Fault
  too_many = resets_row_in s frame

  -- what comes of it by its stream's standing
  abbrev pub standing_fault : Option Fault
  standing_fault = fault_of (asked.verdict b.drained b.rows id 3)

  -- where its stream isn't active, it isn't one
  not_too_many : is_active b.rows id ≡ false → too_many ≡ None
  not_too_many idle = ap (λ x. fault_if (x && nat_le most_resets b.resets) (Connection 11)) idle

  none_where_wrong : (f : Fault) → standing_fault ≡ Some f → too_many ≡ None
  none_where_wrong f is = not_too_many (reset_inactive b.drained b.rows id of_stream f is)

  abbrev last_rows : List (Option Fault)
  last_rows = stream_update_in s frame ∷ stream_data_in s frame ∷ fault_by_standing_in s frame ∷ no_goaway_in s (noted_of frame) ∷ []

  -- rows of which that on the stream's standing decides first
  decides : (x : Bool) (o r : Option Fault) (rest : List (Option Fault)) → is_of_stream o ≡ false → ((f : Fault) → o ≡ Some f → r ≡ None) → first_of ((if x then o else None) ∷ r ∷ None ∷ None ∷ unless_of_stream o ∷ rest) ≡ or_else o (or_else r (first_of rest))
  decides true None None rest mild none = refl
  decides false None None rest mild none = refl
  decides true None (Some f) rest mild none = refl
  decides false None (Some f) rest mild none = refl
  decides x (Some (Stream code)) r rest mild none = absurd (let no : true ≡ false = mild in cc)
  decides true (Some (Connection code)) r rest mild none = refl
  decides false (Some (Connection code)) r rest mild none = ap (λ (y : Option Fault). first_of (None ∷ y ∷ None ∷ None ∷ Some (Connection code) ∷ rest)) (none (Connection code) refl)
  decides true (Some Discarded) r rest mild none = refl
  decides false (Some Discarded) r rest mild none = ap (λ (y : Option Fault). first_of (None ∷ y ∷ None ∷ None ∷ Some Discarded ∷ rest)) (none Discarded refl)

  -- its fault is that by its stream's standing, or that it is one too many
  reset_rows : first_of (later_rows s frame) ≡ or_else standing_fault (or_else too_many (first_of last_rows))
  reset_rows =
      ap (λ x. first_of (first_of (fault_if (x && (false && increment frame == 0)) (Connection protocol_error) ∷ fault_if (x && (false && is_past (b.window +ℤ pos (increment frame)))) (Connection flow_control_error) ∷ []) ∷ (if is_idle (standing_in s id) && true then standing_fault else None) ∷ too_many ∷ None ∷ None ∷ unless_of_stream standing_fault ∷ last_rows)) of_stream
      ∙ decides (is_idle (standing_in s id) && true) standing_fault too_many last_rows (reset_mild (length (active_in b.rows)) (standing b.drained b.rows id)) none_where_wrong

  pub reset_fault : (outline : Outline) → fault_for outline s (coming frame) ≡ or_else standing_fault too_many
  reset_fault outline =
      fault_later s frame sound outline
      ∙ ap (λ (o : Option Fault). or_else o (malformed_in outline s (coming frame))) reset_rows
      ∙ ap (λ x. or_else (or_else standing_fault (or_else too_many (first_of last_rows))) (fault_if x (Stream protocol_error))) (and_right (not (is_some outline.cause)) false refl)
      ∙ ap (λ (o : Option Fault). or_else (or_else standing_fault (or_else too_many o)) None) (
      skip (stream_update_in s frame) (stream_data_in s frame ∷ fault_by_standing_in s frame ∷ no_goaway_in s (noted_of frame) ∷ []) (both_none (is_active_in id s) (increment frame == 0) (is_past (window_in s.first_size (s.stream id) +ℤ pos (increment frame))) (Stream protocol_error) (Stream flow_control_error))
      ∙ skip (stream_data_in s frame) (fault_by_standing_in s frame ∷ no_goaway_in s (noted_of frame) ∷ []) (ap (λ x. fault_if x (Stream flow_control_error)) (and_right (is_active_in id s) false refl))
      ∙ ap (λ (n : Option Fault). first_of (fault_by_standing_in s frame ∷ n ∷ [])) (opens_no_last s frame)
      )
      ∙ itself standing_fault too_many
    where
      itself : (o r : Option Fault) → or_else (or_else o (or_else r (first_of (o ∷ None ∷ [])))) None ≡ or_else o r
      itself None None = refl
      itself None (Some f) = refl
      itself (Some f) r = refl

  -- An active stream is over behind it, unless it is one too many.
  pub reset_behind_active : is_active b.rows id ≡ true → nat_le most_resets b.resets ≡ false → behind setup b frame ≡ record (heard b frame) { rows = changed id (Over false) b.rows; resets = suc b.resets }
  reset_behind_active active few =
      let passes : standing_fault ≡ None = (active_passes b.drained b.rows id of_stream active).0 in
      let none : or_else standing_fault too_many ≡ None =
      ap (λ (o : Option Fault). or_else o too_many) passes ∙ ap (λ x. fault_if (is_active b.rows id && x) (Connection 11)) few ∙ ap (λ x. fault_if x (Connection 11)) (and_right (is_active b.rows id) false refl) in
      let parts = and_parts (asked.has b.rows id) (not (is_over_in (find b.rows id))) active in
      stream_behind setup b frame plain of_stream sound kept b.room (changed id (Over false) b.rows) refl
      (none_less b.room 0 refl)
      (rows_behind setup b frame (with_slot id (Over false)) kept plain (begun setup b frame plain of_stream sound kept)
      (λ outline. ap is_fatal (reset_fault outline ∙ none))
      (λ row is found same. reset_row setup s flags id payload row (find b.rows row.id) same (sym found.1) (ap (λ n. is_over_in (find b.rows n)) same ∙ back (is_over_in (find b.rows id)) parts.1))
      (λ row apart. slot_left id (Over false) row apart))
      (ap is_fatal (reset_fault (find b.rows id).outline ∙ none))
      ∙ ap (λ x. record (heard b frame) { rows = changed id (Over false) b.rows; resets = if x then suc b.resets else b.resets }) active
    where
      back : (x : Bool) → not x ≡ true → x ≡ false
      back true is = absurd (let no : false ≡ true = is in cc)
      back false is = refl

  -- Of any other nothing comes.
  pub reset_behind_none : is_active b.rows id ≡ false → is_fatal standing_fault ≡ false → behind setup b frame ≡ heard b frame
  reset_behind_none idle mild =
      let mild_too : is_fatal (or_else standing_fault too_many) ≡ false = ap (λ (r : Option Fault). is_fatal (or_else standing_fault r)) (not_too_many idle) ∙ ap is_fatal (alone standing_fault) ∙ mild in
      stream_behind setup b frame plain of_stream sound kept b.room b.rows refl
      (none_less b.room 0 refl)
      (rows_stay setup b frame kept plain (begun setup b frame plain of_stream sound kept) (λ outline. ap is_fatal (reset_fault outline) ∙ mild_too) idle)
      (ap is_fatal (reset_fault (find b.rows id).outline) ∙ mild_too)
      ∙ ap (λ x. record (heard b frame) { resets = if x then suc b.resets else b.resets }) idle
    where
      alone : (o : Option Fault) → or_else o None ≡ o
      alone None = refl
      alone (Some f) = refl
