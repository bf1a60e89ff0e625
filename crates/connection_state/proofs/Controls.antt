-- Frames that are of no stream's message, reset none and grant nothing: settings, PING, GOAWAY, PRIORITY, and what isn't known; and
-- increments of the connection's window.
use Rattle.std.proofs.Common.{◌≡◌, ℕ, Bool, true, false, not, ◌&&◌, ◌||◌, ◌==◌, if◌then◌else◌, List, [], ◌∷◌, length, Option, Some, None, refl, sym, ◌∙◌, ap, suc}
use Rattle.std.proofs.lemmas.Bool.{and_right, and_parts, eqb-true}
use Rattle.std.proofs.lemmas.List.{map-id}
use Rattle.std.specs.Prelude.{pos, ◌+ℤ◌, is_some, is_none, option_map, int_lt, nat_le}
use Rattle.model.specs.Frames.{Frame, data_kind, rst_stream_kind, settings_kind, window_update_kind, protocol_error, flow_control_error, is_ack}
use Rattle.model.specs.Setup.{Setup}
use Rattle.model.specs.Decoding.{Partial}
use Rattle.model.specs.Errors.{Fault, first_of, or_else}
use Rattle.model.specs.Errors.Fault.{Connection, Stream}
use Rattle.model.specs.FrameErrors.{fault_if, is_misplaced}
use Rattle.model.specs.SettingValues.{settings_in, settings_fault, SettingsFault, code_of_fault, initial_window_after}
use Rattle.model.specs.WindowsOnTape.{has_settings, increment, is_past}
use Rattle.model.specs.ErrorTable.{judged, is_idle, is_headers, unless_of_stream}
use Rattle.model.specs.Limits.{most_resets}
use Rattle.model.specs.ErrorClause.{is_fatal}
use Rattle.theory_errors.specs.Summary.{Outline, Summary}
use Rattle.theory_errors.specs.Judging.{completed_in, frame_rows_in, values_in, shift_in, shifts_past_in, connection_update_in, idle_in, connection_data_in, fault_on_in, fault_by_standing_in, standing_in, stream_update_in, stream_data_in, is_active_in, window_in, malformed_in, fault_for, resets_row_in, no_goaway_in, room_in}
use Rattle.theory_errors.specs.Owing.{fault_in}
use Rattle.theory_errors.specs.After.{is_sound, grant}
use Rattle.theory_errors.specs.Rows.{Row, ids_of, find}
use Rattle.theory_errors.specs.Judging.{is_over_in}
use Rattle.std.specs.List.{list_any}
use Rattle.theory_errors.specs.Book.{Book, summary_in}
use Rattle.theory_errors.specs.Tidy.{AreKept}
use Rattle.theory_errors.specs.Quiet.{IsControl, IsQuiet, noted_of, coming, heard}
use Rattle.theory_errors.proofs.Elsewhere.{none_more, none_less}
use Rattle.theory_errors.proofs.Quiet.{fault_none, quiet_book}
use Rattle.theory_errors.proofs.Seen.{idle_frame}
use Rattle.theory_errors.proofs.Turns.{completes_none}
use Rattle.theory_errors.proofs.Wanted.{bears}
use Rattle.connection_state.specs.Judgement.{IsPlain, update, behind}
use Rattle.connection_state.proofs.Rows.{skip, two_left, no_fault, later_rows, fault_later, IsRight, is_right, none_begun, in_order, rows_behind, book_behind, opens_no_last}

-- ---- quiet frames

-- A quiet frame that is right by itself has no fault, and changes nothing but that it was heard.
pub quiet_fault : (b : Book) (frame : Frame) → IsQuiet frame → first_of (frame_rows_in (summary_in b) frame) ≡ None → fault_in (summary_in b) (coming frame) ≡ None
quiet_fault b frame quiet sound =
    let s : Summary = summary_in b in
    let plain : IsPlain frame = record { no_headers = quiet.control.no_headers; no_continuation = quiet.control.no_continuation } in
    fault_none s frame quiet (in_order s frame plain quiet.no_settings (is_right s frame sound)) (s.stream frame.id).outline

pub quiet_behind : (setup : Setup) (b : Book) (frame : Frame) → IsQuiet frame → first_of (frame_rows_in (summary_in b) frame) ≡ None → AreKept b.rows → behind setup b frame ≡ heard b frame
quiet_behind setup b frame quiet sound kept =
    let s : Summary = summary_in b in
    let plain : IsPlain frame = record { no_headers = quiet.control.no_headers; no_continuation = quiet.control.no_continuation } in
    quiet_book setup b frame quiet (in_order s frame plain quiet.no_settings (is_right s frame sound)) kept

-- ---- control frames: their rows

none_if : (b : Bool) → (let none : Option Fault = None in if b then none else none) ≡ None
none_if true = refl
none_if false = refl

-- a test of a frame on two parts
pub both_none : (x y z : Bool) (a b : Fault) → first_of (fault_if (x && (false && y)) a ∷ fault_if (x && (false && z)) b ∷ []) ≡ None
both_none true y z a b = refl
both_none false y z a b = refl

module _ (s : Summary) (frame : Frame) (control : IsControl frame) where
  completes : completed_in s.block frame ≡ None
  completes = completes_none s.block frame control.no_headers control.no_continuation

  -- it is judged as no type
  judged_none : fault_by_standing_in s frame ≡ None
  judged_none =
      ap (λ (block : Option Partial). fault_on_in s frame.id (judged block frame)) completes
      ∙ ap (λ b. fault_on_in s frame.id (if b || frame.kind == rst_stream_kind || frame.kind == window_update_kind then Some frame.kind else None)) control.no_data
      ∙ ap (λ b. fault_on_in s frame.id (if b || frame.kind == window_update_kind then Some frame.kind else None)) control.no_reset
      ∙ ap (λ b. fault_on_in s frame.id (if b then Some frame.kind else None)) control.no_update

  -- the rows on settings alone decide
  control_rows : first_of (later_rows s frame) ≡ first_of (values_in frame ∷ shift_in s frame ∷ [])
  control_rows = two_left (values_in frame) (shift_in s frame) (
      connection_update_in s frame
      ∷ idle_in s frame
      ∷ resets_row_in s frame
      ∷ connection_data_in s frame
      ∷ None
      ∷ unless_of_stream (fault_by_standing_in s frame)
      ∷ stream_update_in s frame
      ∷ stream_data_in s frame
      ∷ fault_by_standing_in s frame
      ∷ no_goaway_in s (noted_of frame)
      ∷ []
      ) (
      skip _ _ (ap (λ b. first_of (fault_if (frame.id == 0 && (b && increment frame == 0)) (Connection protocol_error) ∷ fault_if (frame.id == 0 && (b && is_past (s.window +ℤ pos (increment frame)))) (Connection flow_control_error) ∷ [])) control.no_update
      ∙ both_none (frame.id == 0) (increment frame == 0) (is_past (s.window +ℤ pos (increment frame))) (Connection protocol_error) (Connection flow_control_error))
      ∙ skip _ _ (ap (λ (f : Option Fault). if is_idle (standing_in s frame.id) && not (is_headers (judged (completed_in s.block frame) frame)) then f else None) judged_none ∙ none_if _)
      ∙ skip _ _ (no_fault _ _ (ap (λ b. b && is_active_in frame.id s && nat_le most_resets s.resets) control.no_reset))
      ∙ skip _ _ (no_fault _ _ (ap (λ b. b && int_lt s.room (pos (length frame.payload))) control.no_data))
      ∙ skip _ _ (ap unless_of_stream judged_none)
      ∙ skip _ _ (ap (λ b. first_of (fault_if (is_active_in frame.id s && (b && increment frame == 0)) (Stream protocol_error) ∷ fault_if (is_active_in frame.id s && (b && is_past (window_in s.first_size (s.stream frame.id) +ℤ pos (increment frame)))) (Stream flow_control_error) ∷ [])) control.no_update
      ∙ both_none (is_active_in frame.id s) (increment frame == 0) (is_past (window_in s.first_size (s.stream frame.id) +ℤ pos (increment frame))) (Stream protocol_error) (Stream flow_control_error))
      ∙ skip _ _ (no_fault _ _ (ap (λ b. is_active_in frame.id s && (b && int_lt (room_in s.own (s.stream frame.id)) (pos (length frame.payload)))) control.no_data ∙ and_right (is_active_in frame.id s) false refl))
      ∙ skip _ _ judged_none
      ∙ skip _ _ (opens_no_last s frame)
      )

  -- it brings its stream nothing
  bears_none : bears s frame ≡ false
  bears_none = ap (λ (block : Option Partial). is_some block || frame.kind == data_kind) completes ∙ control.no_data

  -- So its fault is that by these rows, whatever its stream carried.
  pub control_fault : first_of (frame_rows_in s frame) ≡ None → (outline : Outline) → fault_for outline s (coming frame) ≡ first_of (values_in frame ∷ shift_in s frame ∷ [])
  control_fault sound outline =
      fault_later s frame sound outline
      ∙ ap (λ (o : Option Fault). or_else o (malformed_in outline s (coming frame))) control_rows
      ∙ ap (λ (o : Option Fault). or_else (first_of (values_in frame ∷ shift_in s frame ∷ [])) o) (idle_frame outline s (noted_of frame) bears_none)
      ∙ itself (first_of (values_in frame ∷ shift_in s frame ∷ []))
    where
      itself : (o : Option Fault) → or_else o None ≡ o
      itself None = refl
      itself (Some f) = refl

-- ---- settings

-- settings are a control frame, and plain
pub settings_control : (frame : Frame) → has_settings frame ≡ true → IsControl frame
settings_control frame has =
    let kind : frame.kind ≡ 4 = eqb-true frame.kind 4 (and_parts (frame.kind == settings_kind) (not (is_ack frame)) has).0 in
    record {
      no_data = ap (λ k. k == 0) kind;
      no_headers = ap (λ k. k == 1) kind;
      no_reset = ap (λ k. k == 3) kind;
      no_update = ap (λ k. k == 8) kind;
      no_continuation = ap (λ k. k == 9) kind;
    }

pub control_plain : (frame : Frame) → IsControl frame → IsPlain frame
control_plain frame control = record { no_headers = control.no_headers; no_continuation = control.no_continuation }

-- they stand on 0
on_zero : (s : Summary) (frame : Frame) → has_settings frame ≡ true → IsRight s frame → frame.id ≡ 0
on_zero s frame has right = cases (frame.id == 0) refl
  where
    kind : frame.kind ≡ 4
    kind = eqb-true frame.kind 4 (and_parts (frame.kind == settings_kind) (not (is_ack frame)) has).0

    cases : (b : Bool) → (frame.id == 0) ≡ b → frame.id ≡ 0
    cases true is = eqb-true frame.id 0 is
    cases false is =
        let at : is_misplaced (record { kind = 4; flags = frame.flags; id = frame.id; payload = frame.payload }) ≡ false =
        ap (λ k. is_misplaced (record { kind = k; flags = frame.flags; id = frame.id; payload = frame.payload })) (sym kind) ∙ right.placed in
        absurd (let no : true ≡ false = sym (ap (λ b. not b || false || false) is) ∙ at in cc)

module _ (setup : Setup) (b : Book) (frame : Frame) (has : has_settings frame ≡ true) (sound : first_of (frame_rows_in (summary_in b) frame) ≡ None) where
  -- what is kept before them
  abbrev s : Summary
  s = summary_in b

  control : IsControl frame
  control = settings_control frame has

  -- values that aren't allowed
  pub settings_wrong : (fault : SettingsFault) → settings_fault frame.payload ≡ Some fault → fault_in s (coming frame) ≡ Some (Connection (code_of_fault fault))
  settings_wrong fault is =
      control_fault s frame control sound (s.stream frame.id).outline
      ∙ ap (λ (o : Option Fault). first_of (o ∷ shift_in s frame ∷ [])) (
      ap (λ x. if x then option_map (λ fault. Connection (code_of_fault fault)) (settings_fault frame.payload) else None) has
      ∙ ap (λ (o : Option SettingsFault). option_map (λ fault. Connection (code_of_fault fault)) o) is
      )

  -- values that are
  allowed : settings_fault frame.payload ≡ None → values_in frame ≡ None
  allowed none =
      ap (λ x. if x then option_map (λ fault. Connection (code_of_fault fault)) (settings_fault frame.payload) else None) has
      ∙ ap (λ (o : Option SettingsFault). option_map (λ fault. Connection (code_of_fault fault)) o) none

  -- and make a window too large
  pub settings_past : settings_fault frame.payload ≡ None → shifts_past_in (initial_window_after b.first_size (settings_in frame.payload)) s ≡ true → fault_in s (coming frame) ≡ Some (Connection flow_control_error)
  settings_past none past =
      control_fault s frame control sound (s.stream frame.id).outline
      ∙ skip _ _ (allowed none)
      ∙ ap (λ x. first_of (fault_if (x && shifts_past_in (initial_window_after b.first_size (settings_in frame.payload)) s) (Connection flow_control_error) ∷ [])) has
      ∙ ap (λ x. first_of (fault_if x (Connection flow_control_error) ∷ [])) past

  module _ (none : settings_fault frame.payload ≡ None) (within : shifts_past_in (initial_window_after b.first_size (settings_in frame.payload)) s ≡ false) where
    -- or don't
    settings_right : (outline : Outline) → fault_for outline s (coming frame) ≡ None
    settings_right outline =
        control_fault s frame control sound outline
        ∙ skip _ _ (allowed none)
        ∙ ap (λ x. first_of (fault_if (x && shifts_past_in (initial_window_after b.first_size (settings_in frame.payload)) s) (Connection flow_control_error) ∷ [])) has
        ∙ ap (λ x. first_of (fault_if x (Connection flow_control_error) ∷ [])) within

    pub settings_fault_none : fault_in s (coming frame) ≡ None
    settings_fault_none = settings_right (s.stream frame.id).outline

    -- Then they are taken: the first size of windows is the one that they leave.
    pub settings_behind : AreKept b.rows → behind setup b frame ≡ record (heard b frame) { first_size = initial_window_after b.first_size (settings_in frame.payload) }
    settings_behind kept =
        let right = is_right s frame sound in
        let after : ℕ = initial_window_after b.first_size (settings_in frame.payload) in
        let zero : frame.id ≡ 0 = on_zero s frame has right in
        let plain : IsPlain frame = control_plain frame control in
        let begun : b.block ≡ None = none_begun s frame plain right in
        book_behind setup b frame after b.window b.room b.rows plain begun
        (ap (λ (o : Option Fault). if is_none o && (has_settings frame && is_none (settings_fault frame.payload) && not (shifts_past_in after s)) then after else b.first_size) sound
        ∙ ap (λ x. if x && is_none (settings_fault frame.payload) && not (shifts_past_in after s) then after else b.first_size) has
        ∙ ap (λ (o : Option SettingsFault). if is_none o && not (shifts_past_in after s) then after else b.first_size) none
        ∙ ap (λ x. if not x then after else b.first_size) within)
        (none_more (is_sound s frame) b.window (grant 0 frame) (ap (λ x. if x && frame.id == 0 then increment frame else 0) control.no_update))
        (none_less b.room _ (ap (λ x. if x && true then length frame.payload else 0) control.no_data))
        (rows_behind setup b frame (λ (row : Row). row) kept plain begun
        (λ outline. ap is_fatal (settings_right outline))
        (λ row is found same. absurd (let clash : true ≡ false = sym (ap (λ n. n == 0) (same ∙ zero)) ∙ is.of_stream in cc))
        (λ row apart. refl) ∙ map-id b.rows)
        (ap is_fatal settings_fault_none)
        ∙ ap (λ x. record (heard b frame) { first_size = initial_window_after b.first_size (settings_in frame.payload); resets = if x && is_active_in frame.id s then suc b.resets else b.resets }) control.no_reset

-- ---- increments of the connection's window

-- no stream is the whole connection
pub none_whole : (rows : List Row) → AreKept rows → list_any (λ other. other == 0) (ids_of rows) ≡ false
none_whole [] kept = refl
none_whole (row ∷ rows) kept = ap (λ x. x || list_any (λ other. other == 0) (ids_of rows)) kept.0.of_stream ∙ none_whole rows kept.2

-- a row is left, where no other applies
pub one_left : (x : Option Fault) (rows : List (Option Fault)) → first_of rows ≡ None → first_of (x ∷ rows) ≡ first_of (x ∷ [])
one_left None rows none = none
one_left (Some f) rows none = refl

module _ (b : Book) (flags : ℕ) (payload : List ℕ) (sound : first_of (frame_rows_in (summary_in b) (update flags 0 payload)) ≡ None) where
  -- the rows behind that on the connection's window
  beyond : List (Option Fault)
  beyond =
      idle_in (summary_in b) (update flags 0 payload)
      ∷ resets_row_in (summary_in b) (update flags 0 payload)
      ∷ connection_data_in (summary_in b) (update flags 0 payload)
      ∷ None
      ∷ unless_of_stream (fault_by_standing_in (summary_in b) (update flags 0 payload))
      ∷ stream_update_in (summary_in b) (update flags 0 payload)
      ∷ stream_data_in (summary_in b) (update flags 0 payload)
      ∷ fault_by_standing_in (summary_in b) (update flags 0 payload)
      ∷ no_goaway_in (summary_in b) (noted_of (update flags 0 payload))
      ∷ []

  -- where that applies, it decides
  decides : (f : Fault) → connection_update_in (summary_in b) (update flags 0 payload) ≡ Some f → fault_in (summary_in b) (coming (update flags 0 payload)) ≡ Some f
  unfolding beyond
  decides f is =
      fault_later (summary_in b) (update flags 0 payload) sound (find b.rows 0).outline
      ∙ ap (λ (o : Option Fault). or_else (first_of (o ∷ beyond)) (malformed_in (find b.rows 0).outline (summary_in b) (coming (update flags 0 payload)))) is

  -- an increment of nothing
  pub nothing_granted : increment (update flags 0 payload) ≡ 0 → fault_in (summary_in b) (coming (update flags 0 payload)) ≡ Some (Connection protocol_error)
  nothing_granted none = decides (Connection protocol_error) (ap (λ n. first_of (fault_if (n == 0) (Connection protocol_error) ∷ fault_if (is_past (b.window +ℤ pos (increment (update flags 0 payload)))) (Connection flow_control_error) ∷ [])) none)

  -- one that makes the window too large
  pub granted_past : (increment (update flags 0 payload) == 0) ≡ false → is_past (b.window +ℤ pos (increment (update flags 0 payload))) ≡ true → fault_in (summary_in b) (coming (update flags 0 payload)) ≡ Some (Connection flow_control_error)
  granted_past some past = decides (Connection flow_control_error) (
      ap (λ x. first_of (fault_if x (Connection protocol_error) ∷ fault_if (is_past (b.window +ℤ pos (increment (update flags 0 payload)))) (Connection flow_control_error) ∷ [])) some
      ∙ ap (λ x. first_of (fault_if x (Connection flow_control_error) ∷ [])) past
      )

module _ (setup : Setup) (b : Book) (kept : AreKept b.rows) (flags : ℕ) (payload : List ℕ) (sound : first_of (frame_rows_in (summary_in b) (update flags 0 payload)) ≡ None) where
  -- what is kept before it, and how much it grants
  abbrev before : Summary
  before = summary_in b

  abbrev granting : Frame
  granting = update flags 0 payload

  plain : IsPlain (update flags 0 payload)
  plain = record { no_headers = refl; no_continuation = refl }

  inactive : is_active_in 0 before ≡ false
  inactive = ap (λ x. x && not (is_over_in (before.stream 0))) (none_whole b.rows kept)

  -- the rows on the connection's window alone decide
  update_rows : first_of (later_rows before granting) ≡ first_of (connection_update_in before granting ∷ [])
  update_rows = one_left (connection_update_in before granting) (
      idle_in before granting
      ∷ resets_row_in before granting
      ∷ connection_data_in before granting
      ∷ None
      ∷ unless_of_stream (fault_by_standing_in before granting)
      ∷ stream_update_in before granting
      ∷ stream_data_in before granting
      ∷ fault_by_standing_in before granting
      ∷ no_goaway_in before (noted_of granting)
      ∷ []
      ) (
      skip (stream_update_in before granting) (stream_data_in before granting ∷ fault_by_standing_in before granting ∷ no_goaway_in before (noted_of granting) ∷ []) (ap (λ x. first_of (fault_if (x && increment granting == 0) (Stream protocol_error) ∷ fault_if (x && is_past (window_in before.first_size (before.stream 0) +ℤ pos (increment granting))) (Stream flow_control_error) ∷ [])) inactive)
      ∙ skip (stream_data_in before granting) (fault_by_standing_in before granting ∷ no_goaway_in before (noted_of granting) ∷ []) (ap (λ x. fault_if (x && false) (Stream flow_control_error)) inactive)
      ∙ skip (no_goaway_in before (noted_of granting)) [] (opens_no_last before granting)
      )

  -- it isn't judged by what a stream carried
  update_fault : (outline : Outline) → fault_for outline before (coming granting) ≡ first_of (connection_update_in before granting ∷ [])
  update_fault outline =
      fault_later before granting sound outline
      ∙ ap (λ (o : Option Fault). or_else o (malformed_in outline before (coming granting))) update_rows
      ∙ ap (λ x. or_else (first_of (connection_update_in before granting ∷ [])) (fault_if x (Stream protocol_error))) (and_right (not (is_some outline.cause)) false refl)
      ∙ itself (first_of (connection_update_in before granting ∷ []))
    where
      itself : (o : Option Fault) → or_else o None ≡ o
      itself None = refl
      itself (Some f) = refl

  module _ (some : (increment granting == 0) ≡ false) (within : is_past (b.window +ℤ pos (increment granting)) ≡ false) where
    -- and any other
    update_right : (outline : Outline) → fault_for outline before (coming granting) ≡ None
    update_right outline =
        update_fault outline
        ∙ ap (λ x. first_of (first_of (fault_if x (Connection protocol_error) ∷ fault_if (is_past (b.window +ℤ pos (increment granting))) (Connection flow_control_error) ∷ []) ∷ [])) some
        ∙ ap (λ x. first_of (first_of (fault_if x (Connection flow_control_error) ∷ []) ∷ [])) within

    pub update_fault_none : fault_in before (coming granting) ≡ None
    update_fault_none = update_right (before.stream 0).outline

    -- The window grows by it.
    pub update_behind : behind setup b granting ≡ record (heard b granting) { window = b.window +ℤ pos (increment granting) }
    update_behind =
        let right = is_right before granting sound in
        let begun : b.block ≡ None = none_begun before granting plain right in
        book_behind setup b granting b.first_size (b.window +ℤ pos (increment granting)) b.room b.rows plain begun
        (ap (λ x. if x then initial_window_after b.first_size (settings_in payload) else b.first_size) (and_right (is_sound before granting) false refl))
        (ap (λ (o : Option Fault). if is_none o then b.window +ℤ pos (increment granting) else b.window) sound)
        (none_less b.room 0 refl)
        (rows_behind setup b granting (λ (row : Row). row) kept plain begun
        (λ outline. ap is_fatal (update_right outline))
        (λ row is found same. absurd (let clash : true ≡ false = sym (ap (λ n. n == 0) same) ∙ is.of_stream in cc))
        (λ row apart. refl) ∙ map-id b.rows)
        (ap is_fatal update_fault_none)
