-- A summary with other views of the streams that will do: the rows of the error table are the same.
use Rattle.std.proofs.Common.{◌≡◌, ℕ, Bool, true, false, not, ◌&&◌, ◌==◌, if◌then◌else◌, List, [], ◌∷◌, ◌++◌, length, Option, Some, None, refl, sym, ◌∙◌, ap}
use Rattle.std.specs.Prelude.{is_none, nat_le}
use Rattle.std.specs.List.{list_any}
use Rattle.model.specs.Frames.{Frame, rst_stream_kind, protocol_error, flow_control_error, enhance_your_calm}
use Rattle.model.specs.Tapes.{Noted, Entry}
use Rattle.model.specs.Tapes.Breach.{WrongPreface, TooLong}
use Rattle.model.specs.Tapes.Entry.{Came, Breached, Happened, Sent, Did}
use Rattle.model.specs.SettingValues.{settings_in, settings_fault, initial_window_after}
use Rattle.model.specs.StreamStates.{verdict}
use Rattle.model.specs.Errors.{Fault, first_of, or_else}
use Rattle.model.specs.Errors.Fault.{Connection, Stream}
use Rattle.model.specs.FrameErrors.{fault_if}
use Rattle.model.specs.WindowsOnTape.{has_settings, is_past}
use Rattle.model.specs.ErrorTable.{grants_nothing, grants_past, is_past_room, fault_of, is_idle, is_headers, judged, unless_of_stream}
use Rattle.model.specs.Limits.{most_resets}
use Rattle.theory_errors.specs.Summary.{Outline, Stream as Kept, Summary}
use Rattle.theory_errors.specs.Judging.{window_in, is_over_in, is_active_in, active_in, shifts_past_in, standing_in, completed_in, shift_in, fault_on_in, fault_by_standing_in, idle_in, resets_row_in, stream_update_in, stream_data_in, malformed_in, rows_before_block_in, rows_behind_block_in, rows_in, fault_for, room_in}
use Rattle.theory_errors.specs.After.{are_taken_in}
use Rattle.theory_errors.specs.Rows.{WillDo, with_streams}
use Rattle.theory_errors.proofs.Standings.{AreAlike, each_alike, standing_verdict, standing_idle, actives_same, any_active_same}

-- lists with one first element and one rest
on : {x y : Option Fault} {xs ys : List (Option Fault)} → x ≡ y → xs ≡ ys → x ∷ xs ≡ y ∷ ys
on {x} {y} {xs} {ys} p q = ap (λ z. z ∷ xs) p ∙ ap (λ zs. y ∷ zs) q

module _ (f : ℕ → Kept) (s : Summary) (will : WillDo f s) where
  -- the summary with these views
  abbrev pub seen : Summary
  seen = with_streams f s

  all_alike : AreAlike f s.stream s.opened
  all_alike = each_alike f s.stream s.opened will.alike

  pub active_same : active_in seen ≡ active_in s
  active_same = actives_same f s.stream s.opened all_alike

  pub shifts_seen : (first : ℕ) → shifts_past_in first seen ≡ shifts_past_in first s
  shifts_seen first = any_active_same (λ kept. is_past (window_in first kept)) f s.stream s.opened all_alike

  fault_on_seen : (id : ℕ) (kind : Option ℕ) → fault_on_in seen id kind ≡ fault_on_in s id kind
  fault_on_seen id None = refl
  fault_on_seen id (Some kind) =
      ap fault_of (standing_verdict s.drained (length (active_in seen)) kind f s.stream s.opened all_alike id)
      ∙ ap (λ (ids : List ℕ). fault_of (verdict (length ids) (standing_in s id) kind)) active_same

  pub by_standing_seen : (frame : Frame) → fault_by_standing_in seen frame ≡ fault_by_standing_in s frame
  by_standing_seen frame = fault_on_seen frame.id (judged (completed_in s.block frame) frame)

  idle_seen : (frame : Frame) → idle_in seen frame ≡ idle_in s frame
  idle_seen frame =
      let no_headers : Bool = not (is_headers (judged (completed_in s.block frame) frame)) in
      ap (λ b. if b && no_headers then fault_by_standing_in seen frame else None) (standing_idle s.drained f s.stream s.opened frame.id)
      ∙ ap (λ (x : Option Fault). if is_idle (standing_in s frame.id) && no_headers then x else None) (by_standing_seen frame)

  -- a test of a stream where it is active
  pub when_active : (test : Kept → Bool) (id : ℕ) → (is_active_in id seen && test (f id)) ≡ (is_active_in id s && test (s.stream id))
  when_active test id = cases (list_any (λ other. other == id) s.opened) refl (is_over_in (s.stream id)) refl
    where
      cases : (a : Bool) → list_any (λ other. other == id) s.opened ≡ a → (b : Bool) → is_over_in (s.stream id) ≡ b → ((a && not (is_over_in (f id))) && test (f id)) ≡ ((a && not b) && test (s.stream id))
      cases false p b q = refl
      cases true p true q = ap (λ x. not x && test (f id)) ((will.alike id p).over ∙ q)
      cases true p false q = ap (λ (k : Kept). not (is_over_in k) && test k) ((will.alike id p).live q) ∙ ap (λ x. not x && test (s.stream id)) q

  -- whether a stream is active
  pub active_seen : (id : ℕ) → is_active_in id seen ≡ is_active_in id s
  active_seen id = sym (with_true (is_active_in id seen)) ∙ when_active (λ kept. true) id ∙ with_true (is_active_in id s)
    where
      with_true : (b : Bool) → (b && true) ≡ b
      with_true true = refl
      with_true false = refl

  resets_seen : (frame : Frame) → resets_row_in seen frame ≡ resets_row_in s frame
  resets_seen frame =
      ap (λ b. fault_if (frame.kind == rst_stream_kind && b && nat_le most_resets s.resets) (Connection enhance_your_calm)) (active_seen frame.id)

  shift_seen : (frame : Frame) → shift_in seen frame ≡ shift_in s frame
  shift_seen frame = ap (λ b. fault_if (has_settings frame && b) (Connection flow_control_error)) (shifts_seen (initial_window_after s.first_size (settings_in frame.payload)))

  update_seen : (frame : Frame) → stream_update_in seen frame ≡ stream_update_in s frame
  update_seen frame =
      let past : Kept → Bool = λ kept. grants_past (window_in s.first_size kept) frame in
      ap (λ b. first_of (fault_if b (Stream protocol_error) ∷ fault_if (is_active_in frame.id seen && past (f frame.id)) (Stream flow_control_error) ∷ [])) (when_active (λ kept. grants_nothing frame) frame.id)
      ∙ ap (λ b. first_of (fault_if (is_active_in frame.id s && grants_nothing frame) (Stream protocol_error) ∷ fault_if b (Stream flow_control_error) ∷ [])) (when_active past frame.id)

  data_seen : (frame : Frame) → stream_data_in seen frame ≡ stream_data_in s frame
  data_seen frame = ap (λ b. fault_if b (Stream flow_control_error)) (when_active (λ kept. is_past_room (room_in s.own kept) frame) frame.id)

  pub before_seen : (frame : Frame) → rows_before_block_in seen frame ≡ rows_before_block_in s frame
  before_seen frame =
      on refl (on refl (on refl (on refl (on refl (on refl (on refl
      (on (shift_seen frame)
      (on refl
      (on (idle_seen frame)
      (on (resets_seen frame) refl))))))))))

  behind_seen : (noted : Noted) → rows_behind_block_in seen noted ≡ rows_behind_block_in s noted
  behind_seen noted =
      on refl
      (on (ap unless_of_stream (by_standing_seen noted.frame))
      (on (update_seen noted.frame)
      (on (data_seen noted.frame)
      (on (by_standing_seen noted.frame)
      (on refl refl)))))

  rows_seen : (noted : Noted) → rows_in seen noted ≡ rows_in s noted
  rows_seen noted =
      ap (λ (rows : List (Option Fault)). rows ++ rows_behind_block_in seen noted) (before_seen noted.frame)
      ∙ ap (λ (rows : List (Option Fault)). rows_before_block_in s noted.frame ++ rows) (behind_seen noted)

  -- whether settings are taken
  pub taken_seen : (frame : Frame) → are_taken_in seen frame ≡ are_taken_in s frame
  taken_seen frame =
      ap (λ b. has_settings frame && is_none (settings_fault frame.payload) && not b) (shifts_seen (initial_window_after s.first_size (settings_in frame.payload)))

  -- The fault of an entry, where its stream has this course.
  pub fault_for_seen : (outline : Outline) (e : Entry) → fault_for outline seen e ≡ fault_for outline s e
  fault_for_seen outline (Came noted) = ap (λ (rows : List (Option Fault)). or_else (first_of rows) (malformed_in outline s (Came noted))) (rows_seen noted)
  fault_for_seen outline (Breached WrongPreface) = refl
  fault_for_seen outline (Breached TooLong) = refl
  fault_for_seen outline (Happened event) = refl
  fault_for_seen outline (Sent noted) = refl
  fault_for_seen outline (Did act) = refl
