-- WINDOW_UPDATE on a stream: its fault, and what is left behind it.
use Rattle.std.proofs.Common.{◌≡◌, ℕ, Bool, true, false, not, ◌&&◌, ◌||◌, ◌==◌, nat_lt, if◌then◌else◌, List, [], ◌∷◌, length, Option, Some, None, refl, sym, ◌∙◌, ap}
use Rattle.std.proofs.lemmas.Bool.{and_right, and_parts, eq-eqb}
use Rattle.std.specs.Prelude.{pos, ◌+ℤ◌, is_some, is_none}
use Rattle.model.specs.Frames.{Frame, protocol_error, flow_control_error}
use Rattle.model.specs.Setup.{Setup}
use Rattle.model.specs.Errors.{Fault, first_of, or_else}
use Rattle.model.specs.Errors.Fault.{Connection, Stream}
use Rattle.model.specs.FrameErrors.{fault_if}
use Rattle.model.specs.WindowsOnTape.{increment, is_past}
use Rattle.model.specs.ErrorTable.{fault_of, unless_of_stream, is_idle}
use Rattle.model.specs.ErrorClause.{is_fatal}
use Rattle.theory_errors.specs.Summary.{Outline, Summary, Stream as Kept}
use Rattle.theory_errors.specs.Judging.{frame_rows_in, is_active_in, is_over_in, standing_in, window_in, fault_by_standing_in, stream_update_in, stream_data_in, malformed_in, fault_for, no_goaway_in}
use Rattle.theory_errors.specs.After.{stream_from}
use Rattle.theory_errors.specs.Rows.{Row, Slot, find, kept_in, row_behind, slot_of}
use Rattle.theory_errors.specs.Rows.Slot.{Live, Over}
use Rattle.theory_errors.specs.Book.{Book, summary_in}
use Rattle.theory_errors.specs.Tidy.{IsTidy, IsSteady, IsRow, AreKept}
use Rattle.theory_errors.specs.Quiet.{coming, heard, noted_of}
use Rattle.theory_errors.proofs.Elsewhere.{none_less, kept_same, course_same}
use Rattle.theory_errors.proofs.Idle.{no_cause_if}
use Rattle.theory_errors.proofs.Quiet.{no_items_if}
use Rattle.streams.specs.Asked as asked
use Rattle.streams.specs.Asked.{standing, active_in, is_active, changed, with_slot}
use Rattle.streams.specs.Steps.{granted}
use Rattle.streams.proofs.Searches.{IsFound}
use Rattle.streams.proofs.Changes.{slot_left, slot_given}
use Rattle.connection_state.specs.Judgement.{IsPlain, update, behind, reset_behind}
use Rattle.connection_state.proofs.Rows.{later_rows, fault_later, rows_behind, opens_no_last}
use Rattle.connection_state.proofs.Standings.{active_passes}
use Rattle.connection_state.proofs.Streams.{update_mild, standing_rows, rows_stay, begun, stream_behind, reset_left}

module _ (setup : Setup) (b : Book) (flags id : ℕ) (payload : List ℕ) (of_stream : (id == 0) ≡ false) (sound : first_of (frame_rows_in (summary_in b) (update flags id payload)) ≡ None) (kept : AreKept b.rows) where
  -- what is kept before it, and how much it grants
  abbrev s : Summary
  s = summary_in b

  abbrev frame : Frame
  frame = update flags id payload

  abbrev count : ℕ
  count = increment (update flags id payload)

  plain : IsPlain (update flags id payload)
  plain = record { no_headers = refl; no_continuation = refl }

  -- the rows on the stream's window
  abbrev window_rows : Bool → Option Fault
  window_rows active =
      first_of (
      fault_if (active && count == 0) (Stream protocol_error)
      ∷ fault_if (active && is_past (window_in b.first_size (find b.rows id) +ℤ pos count)) (Stream flow_control_error)
      ∷ []
      )

  -- its fault is that by its stream's standing, else by these
  update_rows : first_of (later_rows s frame) ≡ or_else (fault_of (asked.verdict b.drained b.rows id 8)) (first_of (window_rows (is_active b.rows id) ∷ stream_data_in s frame ∷ fault_by_standing_in s frame ∷ no_goaway_in s (noted_of frame) ∷ []))
  update_rows =
      ap (λ x. first_of (first_of (fault_if (x && count == 0) (Connection protocol_error) ∷ fault_if (x && is_past (b.window +ℤ pos count)) (Connection flow_control_error) ∷ []) ∷ (if is_idle (standing_in s id) && true then fault_of (asked.verdict b.drained b.rows id 8) else None) ∷ None ∷ None ∷ None ∷ unless_of_stream (fault_of (asked.verdict b.drained b.rows id 8)) ∷ stream_update_in s frame ∷ stream_data_in s frame ∷ fault_by_standing_in s frame ∷ no_goaway_in s (noted_of frame) ∷ [])) of_stream
      ∙ standing_rows (is_idle (standing_in s id) && true) (fault_of (asked.verdict b.drained b.rows id 8)) (stream_update_in s frame ∷ stream_data_in s frame ∷ fault_by_standing_in s frame ∷ no_goaway_in s (noted_of frame) ∷ []) (update_mild (length (active_in b.rows)) (standing b.drained b.rows id))

  all_rows : (outline : Outline) → fault_for outline s (coming frame) ≡ or_else (fault_of (asked.verdict b.drained b.rows id 8)) (first_of (window_rows (is_active b.rows id) ∷ None ∷ fault_of (asked.verdict b.drained b.rows id 8) ∷ []))
  all_rows outline =
      fault_later s frame sound outline
      ∙ ap (λ (o : Option Fault). or_else o (malformed_in outline s (coming frame))) update_rows
      ∙ ap (λ x. or_else (or_else (fault_of (asked.verdict b.drained b.rows id 8)) (first_of (window_rows (is_active b.rows id) ∷ stream_data_in s frame ∷ fault_by_standing_in s frame ∷ no_goaway_in s (noted_of frame) ∷ []))) (fault_if x (Stream protocol_error))) (and_right (not (is_some outline.cause)) false refl)
      ∙ ap (λ x. or_else (or_else (fault_of (asked.verdict b.drained b.rows id 8)) (first_of (window_rows (is_active b.rows id) ∷ fault_if x (Stream flow_control_error) ∷ fault_by_standing_in s frame ∷ no_goaway_in s (noted_of frame) ∷ []))) None) (and_right (is_active_in id s) false refl)
      ∙ ap (λ (n : Option Fault). or_else (or_else (fault_of (asked.verdict b.drained b.rows id 8)) (first_of (window_rows (is_active b.rows id) ∷ None ∷ fault_by_standing_in s frame ∷ n ∷ []))) None) (opens_no_last s frame)
      ∙ ap (λ (o : Option Fault). or_else (or_else (fault_of (asked.verdict b.drained b.rows id 8)) o) None) (last_left (window_rows (is_active b.rows id)) (fault_of (asked.verdict b.drained b.rows id 8)))
      ∙ itself (or_else (fault_of (asked.verdict b.drained b.rows id 8)) (first_of (window_rows (is_active b.rows id) ∷ None ∷ fault_of (asked.verdict b.drained b.rows id 8) ∷ [])))
    where
      last_left : (w o : Option Fault) → first_of (w ∷ None ∷ o ∷ None ∷ []) ≡ first_of (w ∷ None ∷ o ∷ [])
      last_left None None = refl
      last_left None (Some f) = refl
      last_left (Some f) o = refl

      itself : (o : Option Fault) → or_else o None ≡ o
      itself None = refl
      itself (Some f) = refl

  -- on a stream that isn't active
  pub update_idle : (f : Fault) → fault_of (asked.verdict b.drained b.rows id 8) ≡ Some f → (outline : Outline) → fault_for outline s (coming frame) ≡ Some f
  update_idle f is outline = all_rows outline ∙ ap (λ (o : Option Fault). or_else o (first_of (window_rows (is_active b.rows id) ∷ None ∷ o ∷ []))) is

  pub update_behind_none : is_active b.rows id ≡ false → (f : Fault) → fault_of (asked.verdict b.drained b.rows id 8) ≡ Some f → is_fatal (Some f) ≡ false → behind setup b frame ≡ heard b frame
  update_behind_none idle f is mild =
      stream_behind setup b frame plain of_stream sound kept b.room b.rows refl
      (none_less b.room 0 refl)
      (rows_stay setup b frame kept plain (begun setup b frame plain of_stream sound kept) (λ outline. ap is_fatal (update_idle f is outline) ∙ mild) idle)
      (ap is_fatal (update_idle f is (find b.rows id).outline) ∙ mild)

  module _ (active : is_active b.rows id ≡ true) where
    -- on an active one the window decides
    pub by_window : (outline : Outline) → fault_for outline s (coming frame) ≡ first_of (fault_if (count == 0) (Stream protocol_error) ∷ fault_if (is_past (window_in b.first_size (find b.rows id) +ℤ pos count)) (Stream flow_control_error) ∷ [])
    by_window outline =
        all_rows outline
        ∙ ap (λ (o : Option Fault). or_else o (first_of (window_rows (is_active b.rows id) ∷ None ∷ o ∷ []))) (active_passes b.drained b.rows id of_stream active).1
        ∙ ap (λ x. first_of (window_rows x ∷ None ∷ None ∷ [])) active
        ∙ itself (first_of (fault_if (count == 0) (Stream protocol_error) ∷ fault_if (is_past (window_in b.first_size (find b.rows id) +ℤ pos count)) (Stream flow_control_error) ∷ []))
      where
        itself : (o : Option Fault) → first_of (o ∷ None ∷ None ∷ []) ≡ o
        itself None = refl
        itself (Some f) = refl

    -- an increment of nothing
    pub update_nothing : count ≡ 0 → (outline : Outline) → fault_for outline s (coming frame) ≡ Some (Stream protocol_error)
    update_nothing none outline = by_window outline ∙ ap (λ n. first_of (fault_if (n == 0) (Stream protocol_error) ∷ fault_if (is_past (window_in b.first_size (find b.rows id) +ℤ pos count)) (Stream flow_control_error) ∷ [])) none

    -- one that makes the window too large
    pub update_past : (count == 0) ≡ false → is_past (window_in b.first_size (find b.rows id) +ℤ pos count) ≡ true → (outline : Outline) → fault_for outline s (coming frame) ≡ Some (Stream flow_control_error)
    update_past some past outline =
        by_window outline
        ∙ ap (λ x. first_of (fault_if x (Stream protocol_error) ∷ fault_if (is_past (window_in b.first_size (find b.rows id) +ℤ pos count)) (Stream flow_control_error) ∷ [])) some
        ∙ ap (λ x. first_of (fault_if x (Stream flow_control_error) ∷ [])) past

    -- Behind these the stream is reset.
    pub update_reset : (code : ℕ) → b.block_out ≡ None → b.closed ≡ false → ((outline : Outline) → fault_for outline s (coming frame) ≡ Some (Stream code)) → reset_behind setup b frame code ≡ record (heard b frame) { rows = changed id (Over true) b.rows }
    update_reset code none_out open_yet is =
        reset_left setup b frame code plain of_stream sound kept b.room none_out open_yet refl (none_less b.room 0 refl) (λ outline. ap is_fatal (is outline))

    module _ (some : (count == 0) ≡ false) (within : is_past (window_in b.first_size (find b.rows id) +ℤ pos count) ≡ false) where
      -- and any other
      pub update_right : (outline : Outline) → fault_for outline s (coming frame) ≡ None
      update_right outline =
          by_window outline
          ∙ ap (λ x. first_of (fault_if x (Stream protocol_error) ∷ fault_if (is_past (window_in b.first_size (find b.rows id) +ℤ pos count)) (Stream flow_control_error) ∷ [])) some
          ∙ ap (λ x. first_of (fault_if x (Stream flow_control_error) ∷ [])) within

      -- the stream with the octets
      gives : (k : Kept) → IsSteady k.outline → stream_from setup false s (coming frame) id k None ≡ granted count k
      gives k steady = kept_same (granted count k) _
          (ap (λ x. x || k.ended_by_client) (and_right (id == id) false refl)) refl refl refl
          (ap (λ (o : Option Fault). if is_none o then k.balance +ℤ pos (if id == id then count else 0) else k.balance) sound ∙ ap (λ x. k.balance +ℤ pos (if x then count else 0)) (eq-eqb id id refl))
          (none_less k.room 0 refl)
          refl
          (course_same setup false s (coming frame) id k None steady (no_cause_if (id == id && nat_lt 0 id) None refl) refl (no_items_if (id == id)))

      own_slot : (slot : Slot) → IsTidy slot → find b.rows id ≡ kept_in slot → slot_of (stream_from setup false s (coming frame) id (kept_in slot) (fault_for (kept_in slot).outline s (coming frame))) ≡ Live (granted count (find b.rows id))
      own_slot (Live k) tidy found =
          ap (λ (o : Option Fault). slot_of (stream_from setup false s (coming frame) id k o)) (update_right k.outline)
          ∙ ap slot_of (gives k tidy.1)
          ∙ ap (λ x. if x then Over k.reset_by_gateway else Live (granted count k)) tidy.0
          ∙ ap (λ (k : Kept). Live (granted count k)) (sym found)
      own_slot (Over by_us) tidy found =
          let on : is_over_in (find b.rows id) ≡ false = back (is_over_in (find b.rows id)) (and_parts (asked.has b.rows id) (not (is_over_in (find b.rows id))) active).1 in
          absurd (let no : true ≡ false = sym (closed by_us) ∙ ap is_over_in (sym found) ∙ on in cc)
        where
          closed : (x : Bool) → is_over_in (kept_in (Over x)) ≡ true
          closed true = refl
          closed false = refl

          back : (x : Bool) → not x ≡ true → x ≡ false
          back true is = absurd (let no : false ≡ true = is in cc)
          back false is = refl

      own : (row : Row) → IsRow row → IsFound b.rows row → row.id ≡ id → row_behind setup false s (coming frame) row ≡ with_slot id (Live (granted count (find b.rows id))) row
      own row is found same =
          ap (λ (n : ℕ). record { id = row.id; slot = slot_of (stream_from setup false s (coming frame) n (kept_in row.slot) (fault_for (kept_in row.slot).outline s (coming frame))) }) same
          ∙ ap (λ (x : Slot). record { id = row.id; slot = x }) (own_slot row.slot is.tidy (ap (find b.rows) (sym same) ∙ found.1))
          ∙ sym (slot_given id (Live (granted count (find b.rows id))) row same)

      -- Its window grows by it.
      pub update_granted : behind setup b frame ≡ record (heard b frame) { rows = changed id (Live (granted count (find b.rows id))) b.rows }
      update_granted =
          stream_behind setup b frame plain of_stream sound kept b.room (changed id (Live (granted count (find b.rows id))) b.rows) refl
          (none_less b.room 0 refl)
          (rows_behind setup b frame (with_slot id (Live (granted count (find b.rows id)))) kept plain (begun setup b frame plain of_stream sound kept)
          (λ outline. ap is_fatal (update_right outline))
          own
          (λ row apart. slot_left id (Live (granted count (find b.rows id))) row apart))
          (ap is_fatal (update_right (find b.rows id).outline))
