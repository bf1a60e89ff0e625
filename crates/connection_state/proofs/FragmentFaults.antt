-- HEADERS and CONTINUATION: their fault, by what is noted of the header block that they complete (RFC 9113, sections 4.3, 5.1, 5.1.1 and 8.1.1).
use Rattle.std.proofs.Common.{◌≡◌, ℕ, Bool, true, false, not, ◌&&◌, ◌||◌, ◌==◌, if◌then◌else◌, List, [], ◌∷◌, length, Option, Some, None, refl, ◌∙◌, ap}
use Rattle.std.proofs.lemmas.Bool.{and_right}
use Rattle.std.specs.Prelude.{pos, ◌+ℤ◌, is_some, int_lt, nat_le, option_map}
use Rattle.model.specs.Frames.{Frame, is_ack, content, ends_stream, headers_kind, rst_stream_kind, window_update_kind, protocol_error, flow_control_error, compression_error, enhance_your_calm}
use Rattle.model.specs.Tapes.{Noted}
use Rattle.model.specs.Tapes.Entry.{Came}
use Rattle.model.specs.Decoding.{Partial}
use Rattle.model.specs.Errors.{Fault, first_of, or_else}
use Rattle.model.specs.Errors.Fault.{Connection, Stream, Discarded}
use Rattle.model.specs.FrameErrors.{fault_if}
use Rattle.model.specs.Malformed.{is_malformed_content}
use Rattle.model.specs.SettingValues.{settings_in, settings_fault, code_of_fault, initial_window_after}
use Rattle.model.specs.Limits.{most_streams, most_resets}
use Rattle.model.specs.Lifetimes.{opens_by}
use Rattle.model.proofs.OwedSteps.{neither_full}
use Rattle.model.specs.WindowsOnTape.{has_settings, increment, is_past}
use Rattle.model.specs.ErrorTable.{judged, is_idle, is_headers, is_undecodable, is_malformed, is_bad_block, unless_of_stream}
use Rattle.theory_errors.specs.Summary.{Outline, carried_in, Summary}
use Rattle.theory_errors.specs.Judging.{completed_in, frame_rows_in, rows_before_block_in, values_in, shift_in, shifts_past_in, connection_update_in, idle_in, connection_data_in, fault_on_in, fault_by_standing_in, standing_in, stream_update_in, stream_data_in, is_active_in, window_in, malformed_in, fault_for, resets_row_in, no_goaway_in, are_last, is_crowded_in, room_in}
use Rattle.connection_state.specs.Fragments.{IsFragment}
use Rattle.connection_state.proofs.Rows.{first_past, skip, no_fault}
use Rattle.connection_state.proofs.Controls.{both_none}

none_if : (b : Bool) → (let none : Option Fault = None in if b then none else none) ≡ None
none_if true = refl
none_if false = refl

-- the rows behind those of the frame itself
abbrev pub rows_from : Summary → Noted → List (Option Fault)
rows_from s noted =
    values_in noted.frame
    ∷ shift_in s noted.frame
    ∷ connection_update_in s noted.frame
    ∷ idle_in s noted.frame
    ∷ resets_row_in s noted.frame
    ∷ connection_data_in s noted.frame
    ∷ fault_if (is_undecodable noted.note) (Connection compression_error)
    ∷ unless_of_stream (fault_by_standing_in s noted.frame)
    ∷ stream_update_in s noted.frame
    ∷ stream_data_in s noted.frame
    ∷ fault_by_standing_in s noted.frame
    ∷ no_goaway_in s noted
    ∷ []

module _ (s : Summary) (noted : Noted) (of : IsFragment noted.frame) where
  abbrev frame : Frame
  frame = noted.frame

  no_settings : has_settings frame ≡ false
  no_settings = ap (λ b. b && not (is_ack frame)) of.no_settings

  no_values : values_in frame ≡ None
  no_values = ap (λ b. if b then option_map (λ fault. Connection (code_of_fault fault)) (settings_fault frame.payload) else None) no_settings

  no_shift : shift_in s frame ≡ None
  no_shift = ap (λ b. fault_if (b && shifts_past_in (initial_window_after s.first_size (settings_in frame.payload)) s) (Connection flow_control_error)) no_settings

  no_update : connection_update_in s frame ≡ None
  no_update =
      ap (λ b. first_of (fault_if (frame.id == 0 && (b && increment frame == 0)) (Connection protocol_error) ∷ fault_if (frame.id == 0 && (b && is_past (s.window +ℤ pos (increment frame)))) (Connection flow_control_error) ∷ [])) of.no_update
      ∙ both_none (frame.id == 0) (increment frame == 0) (is_past (s.window +ℤ pos (increment frame))) (Connection protocol_error) (Connection flow_control_error)

  no_data : connection_data_in s frame ≡ None
  no_data = no_fault _ _ (ap (λ b. b && int_lt s.room (pos (length frame.payload))) of.no_data)

  no_resets : resets_row_in s frame ≡ None
  no_resets = no_fault _ _ (ap (λ b. b && is_active_in frame.id s && nat_le most_resets s.resets) of.no_reset)

  no_stream_update : stream_update_in s frame ≡ None
  no_stream_update =
      ap (λ b. first_of (fault_if (is_active_in frame.id s && (b && increment frame == 0)) (Stream protocol_error) ∷ fault_if (is_active_in frame.id s && (b && is_past (window_in s.first_size (s.stream frame.id) +ℤ pos (increment frame)))) (Stream flow_control_error) ∷ [])) of.no_update
      ∙ both_none (is_active_in frame.id s) (increment frame == 0) (is_past (window_in s.first_size (s.stream frame.id) +ℤ pos (increment frame))) (Stream protocol_error) (Stream flow_control_error)

  no_stream_data : stream_data_in s frame ≡ None
  no_stream_data = no_fault _ _ (ap (λ b. is_active_in frame.id s && (b && int_lt (room_in s.own (s.stream frame.id)) (pos (length frame.payload)))) of.no_data ∙ and_right (is_active_in frame.id s) false refl)

  -- it is judged as no type where it completes no block
  as_none : judged None frame ≡ None
  as_none =
      ap (λ b. if b || frame.kind == rst_stream_kind || frame.kind == window_update_kind then Some frame.kind else None) of.no_data
      ∙ ap (λ b. if b || frame.kind == window_update_kind then Some frame.kind else None) of.no_reset
      ∙ ap (λ b. if b then Some frame.kind else None) of.no_update

  -- an idle stream is nothing to it
  idle_none : (o : Option Partial) → completed_in s.block frame ≡ o → idle_in s frame ≡ None
  idle_none (Some block) is =
      ap (λ (o : Option Partial). if is_idle (standing_in s frame.id) && not (is_headers (judged o frame)) then fault_on_in s frame.id (judged o frame) else None) is
      ∙ ap (λ x. if x then fault_on_in s frame.id (Some headers_kind) else None) (and_right (is_idle (standing_in s frame.id)) false refl)
  idle_none None is =
      ap (λ (o : Option Partial). if is_idle (standing_in s frame.id) && not (is_headers (judged o frame)) then fault_on_in s frame.id (judged o frame) else None) is
      ∙ ap (λ (k : Option ℕ). if is_idle (standing_in s frame.id) && not (is_headers k) then fault_on_in s frame.id k else None) as_none
      ∙ none_if (is_idle (standing_in s frame.id) && true)

  -- what is left where its stream is judged so
  rows_left : first_of (rows_from s noted) ≡ first_of (idle_in s frame ∷ fault_if (is_undecodable noted.note) (Connection compression_error) ∷ unless_of_stream (fault_by_standing_in s frame) ∷ fault_by_standing_in s frame ∷ no_goaway_in s noted ∷ [])
  rows_left =
      skip _ _ no_values
      ∙ skip _ _ no_shift
      ∙ skip _ _ no_update
      ∙ ap (λ (row : Option Fault). first_of (idle_in s frame ∷ row ∷ connection_data_in s frame ∷ fault_if (is_undecodable noted.note) (Connection compression_error) ∷ unless_of_stream (fault_by_standing_in s frame) ∷ stream_update_in s frame ∷ stream_data_in s frame ∷ fault_by_standing_in s frame ∷ no_goaway_in s noted ∷ [])) no_resets
      ∙ ap (λ (row : Option Fault). first_of (idle_in s frame ∷ None ∷ row ∷ fault_if (is_undecodable noted.note) (Connection compression_error) ∷ unless_of_stream (fault_by_standing_in s frame) ∷ stream_update_in s frame ∷ stream_data_in s frame ∷ fault_by_standing_in s frame ∷ no_goaway_in s noted ∷ [])) no_data
      ∙ ap (λ (row : Option Fault). first_of (idle_in s frame ∷ None ∷ None ∷ fault_if (is_undecodable noted.note) (Connection compression_error) ∷ unless_of_stream (fault_by_standing_in s frame) ∷ row ∷ stream_data_in s frame ∷ fault_by_standing_in s frame ∷ no_goaway_in s noted ∷ [])) no_stream_update
      ∙ ap (λ (row : Option Fault). first_of (idle_in s frame ∷ None ∷ None ∷ fault_if (is_undecodable noted.note) (Connection compression_error) ∷ unless_of_stream (fault_by_standing_in s frame) ∷ None ∷ row ∷ fault_by_standing_in s frame ∷ no_goaway_in s noted ∷ [])) no_stream_data
      ∙ without_four (idle_in s frame) (fault_if (is_undecodable noted.note) (Connection compression_error)) (unless_of_stream (fault_by_standing_in s frame)) (fault_by_standing_in s frame) (no_goaway_in s noted)
    where
      without_four : (a b c d e : Option Fault) → first_of (a ∷ None ∷ None ∷ b ∷ c ∷ None ∷ None ∷ d ∷ e ∷ []) ≡ first_of (a ∷ b ∷ c ∷ d ∷ e ∷ [])
      without_four (Some f) b c d e = refl
      without_four None (Some f) c d e = refl
      without_four None None (Some f) d e = refl
      without_four None None None (Some f) e = refl
      without_four None None None None e = refl

  module _ (sound : first_of (frame_rows_in s frame) ≡ None) where
    fault_left : (outline : Outline) → fault_for outline s (Came noted) ≡ or_else (first_of (idle_in s frame ∷ fault_if (is_undecodable noted.note) (Connection compression_error) ∷ unless_of_stream (fault_by_standing_in s frame) ∷ fault_by_standing_in s frame ∷ no_goaway_in s noted ∷ [])) (malformed_in outline s (Came noted))
    fault_left outline = ap (λ (o : Option Fault). or_else o (malformed_in outline s (Came noted))) (first_past (frame_rows_in s frame) (rows_from s noted) sound ∙ rows_left)

    -- A frame that completes a block: the block can't be read, its stream is against it, or it is malformed.
    pub block_fault : (block : Partial) → completed_in s.block frame ≡ Some block → (outline : Outline)
        → fault_for outline s (Came noted) ≡ or_else (first_of (fault_if (is_undecodable noted.note) (Connection compression_error) ∷ fault_on_in s frame.id (Some headers_kind) ∷ no_goaway_in s noted ∷ [])) (fault_if (not (is_some outline.cause) && is_bad_block (carried_in outline) block.ends noted.note) (Stream protocol_error))
    block_fault block is outline =
        fault_left outline
        ∙ ap (λ (o : Option Partial). or_else (first_of ((if is_idle (standing_in s frame.id) && not (is_headers (judged o frame)) then fault_on_in s frame.id (judged o frame) else None) ∷ fault_if (is_undecodable noted.note) (Connection compression_error) ∷ unless_of_stream (fault_on_in s frame.id (judged o frame)) ∷ fault_on_in s frame.id (judged o frame) ∷ no_goaway_in s noted ∷ [])) (fault_if (not (is_some outline.cause) && is_malformed (carried_in outline) o noted) (Stream protocol_error))) is
        ∙ ap (λ x. or_else (first_of ((if x then fault_on_in s frame.id (Some headers_kind) else None) ∷ fault_if (is_undecodable noted.note) (Connection compression_error) ∷ unless_of_stream (fault_on_in s frame.id (Some headers_kind)) ∷ fault_on_in s frame.id (Some headers_kind) ∷ no_goaway_in s noted ∷ [])) (fault_if (not (is_some outline.cause) && is_bad_block (carried_in outline) block.ends noted.note) (Stream protocol_error))) (and_right (is_idle (standing_in s frame.id)) false refl)
        ∙ ap (λ (o : Option Fault). or_else o (fault_if (not (is_some outline.cause) && is_bad_block (carried_in outline) block.ends noted.note) (Stream protocol_error))) (one_of (fault_if (is_undecodable noted.note) (Connection compression_error)) (fault_on_in s frame.id (Some headers_kind)) (no_goaway_in s noted))
      where
        one_of : (a o e : Option Fault) → first_of (None ∷ a ∷ unless_of_stream o ∷ o ∷ e ∷ []) ≡ first_of (a ∷ o ∷ e ∷ [])
        one_of (Some f) o e = refl
        one_of None None e = refl
        one_of None (Some (Connection code)) e = refl
        one_of None (Some (Stream code)) e = refl
        one_of None (Some Discarded) e = refl

    -- It opens no stream then.
    opens_none : completed_in s.block frame ≡ None → no_goaway_in s noted ≡ None
    opens_none none =
        ap (λ (o : Option Partial). fault_if (are_last s s.drained (if opens_by s.drained s.opened o noted.note then frame.id ∷ s.opened else s.opened) && is_crowded_in s) (Stream enhance_your_calm)) none
        ∙ ap (λ b. fault_if (b && is_crowded_in s) (Stream enhance_your_calm)) (neither_full s.drained (length s.opened) most_streams)

    -- One with which the block goes on has none.
    pub fragment_fault : completed_in s.block frame ≡ None → is_undecodable noted.note ≡ false → (outline : Outline) → fault_for outline s (Came noted) ≡ None
    fragment_fault none read outline =
        fault_left outline
        ∙ ap (λ (o : Option Partial). or_else (first_of ((if is_idle (standing_in s frame.id) && not (is_headers (judged o frame)) then fault_on_in s frame.id (judged o frame) else None) ∷ fault_if (is_undecodable noted.note) (Connection compression_error) ∷ unless_of_stream (fault_on_in s frame.id (judged o frame)) ∷ fault_on_in s frame.id (judged o frame) ∷ no_goaway_in s noted ∷ [])) (fault_if (not (is_some outline.cause) && is_malformed (carried_in outline) o noted) (Stream protocol_error))) none
        ∙ ap (λ (k : Option ℕ). or_else (first_of ((if is_idle (standing_in s frame.id) && not (is_headers k) then fault_on_in s frame.id k else None) ∷ fault_if (is_undecodable noted.note) (Connection compression_error) ∷ unless_of_stream (fault_on_in s frame.id k) ∷ fault_on_in s frame.id k ∷ no_goaway_in s noted ∷ [])) (fault_if (not (is_some outline.cause) && is_malformed (carried_in outline) None noted) (Stream protocol_error))) as_none
        ∙ ap (λ (o : Option Fault). or_else (first_of (o ∷ fault_if (is_undecodable noted.note) (Connection compression_error) ∷ None ∷ None ∷ no_goaway_in s noted ∷ [])) (fault_if (not (is_some outline.cause) && is_malformed (carried_in outline) None noted) (Stream protocol_error))) (none_if (is_idle (standing_in s frame.id) && true))
        ∙ ap (λ b. or_else (first_of (None ∷ fault_if b (Connection compression_error) ∷ None ∷ None ∷ no_goaway_in s noted ∷ [])) (fault_if (not (is_some outline.cause) && is_malformed (carried_in outline) None noted) (Stream protocol_error))) read
        ∙ ap (λ (o : Option Fault). or_else (first_of (None ∷ None ∷ None ∷ None ∷ o ∷ [])) (fault_if (not (is_some outline.cause) && is_malformed (carried_in outline) None noted) (Stream protocol_error))) (opens_none none)
        ∙ no_fault _ _ (ap (λ b. not (is_some outline.cause) && (b && is_malformed_content (carried_in outline) (content frame) (ends_stream frame))) of.no_data ∙ and_right (not (is_some outline.cause)) false refl)

    -- Where it is right by itself, nothing is wrong before its block is read.
    pub none_before : first_of (rows_before_block_in s frame) ≡ None
    none_before =
        first_past (frame_rows_in s frame) (values_in frame ∷ shift_in s frame ∷ connection_update_in s frame ∷ idle_in s frame ∷ resets_row_in s frame ∷ connection_data_in s frame ∷ []) sound
        ∙ skip _ _ no_values
        ∙ skip _ _ no_shift
        ∙ skip _ _ no_update
        ∙ skip _ _ (idle_none (completed_in s.block frame) refl)
        ∙ skip _ _ no_resets
        ∙ skip _ _ no_data
