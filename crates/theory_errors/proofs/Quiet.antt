-- A frame of the client that changes no stream, no window and no setting: it has no fault, changes little of the book, and calls
-- for an answer only where it is a PING.
use Rattle.std.proofs.Common.{◌≡◌, ℕ, suc, Bool, true, false, not, ◌&&◌, ◌||◌, ◌==◌, nat_lt, if◌then◌else◌, List, [], ◌∷◌, ◌++◌, length, map, Option, Some, None, refl, sym, ◌∙◌, ap, append-nil}
use Rattle.std.proofs.lemmas.Bool.{and_right}
use Rattle.std.specs.Prelude.{pos, ◌+ℤ◌, is_some, is_none, option_map, int_lt, nat_le}
use Rattle.model.specs.Messages.{Item}
use Rattle.model.specs.Messages.Item.{Content}
use Rattle.model.specs.Frames.{Frame, data_kind, headers_kind, rst_stream_kind, window_update_kind, ends_headers, ends_stream, content, protocol_error, flow_control_error, no_error, goaway}
use Rattle.model.specs.Setup.{Setup}
use Rattle.model.specs.Tapes.Note.{NoBlock}
use Rattle.model.specs.Decoding.{Partial, joined}
use Rattle.model.specs.Streams.{frame_items}
use Rattle.model.specs.Limits.{most_streams, most_continuations, most_resets}
use Rattle.model.specs.Payloads.{PayloadFault, code_of_payload}
use Rattle.model.specs.SettingValues.{settings_in, settings_fault, code_of_fault, initial_window_after}
use Rattle.model.specs.Errors.{Fault, row_first_frame, first_of, or_else}
use Rattle.model.specs.Errors.Fault.{Connection, Stream}
use Rattle.model.specs.FrameErrors.{fault_if, is_between, is_long}
use Rattle.model.specs.Lifetimes.{ends_by, opens_by}
use Rattle.model.specs.WindowsOnTape.{increment, is_past}
use Rattle.model.specs.ErrorTable.{judged, is_idle, is_headers, unless_of_stream}
use Rattle.model.specs.Causes.{Cause}
use Rattle.model.specs.Courses.{first_of_both}
use Rattle.model.specs.ErrorClause.{acks, is_fatal, reset_for}
use Rattle.theory_errors.specs.Summary.{Outline, Stream as Kept, Summary}
use Rattle.theory_errors.specs.Judging.{completed_in, fault_for, malformed_in, rows_in, fault_on_in, fault_by_standing_in, continuations_in, shifts_past_in, standing_in, is_active_in, window_in, is_crowded_in, are_last, room_in}
use Rattle.theory_errors.specs.Owing.{owed_first_in, highest_in, new_cause_in, outline_from, owes_in, resets_in}
use Rattle.theory_errors.specs.After.{is_sound, grant, stream_from, begun_after}
use Rattle.theory_errors.specs.Rows.{Row, Slot, kept_in, slot_of, find, row_behind, row_opened, rows_after, over_kept}
use Rattle.theory_errors.specs.Rows.Slot.{Live, Over}
use Rattle.theory_errors.specs.Book.{Book, summary_in, book_after}
use Rattle.theory_errors.specs.Tidy.{IsSteady, IsTidy, IsRow, AreKept}
use Rattle.theory_errors.specs.Quiet.{IsQuiet, IsInOrder, noted_of, coming, heard}
use Rattle.theory_errors.proofs.Elsewhere.{kept_same, course_same, none_more, none_less, over_again}
use Rattle.theory_errors.proofs.Idle.{no_cause_if}
use Rattle.model.proofs.OwedSteps.{neither_full, no_reset_for}
use Rattle.theory_errors.proofs.Seen.{idle_frame, idle_cause}
use Rattle.theory_errors.proofs.Turns.{completes_none}
use Rattle.theory_errors.proofs.Wanted.{bears}

-- no header block is begun with a frame that isn't HEADERS
pub begins_none : (frame : Frame) → (frame.kind == headers_kind) ≡ false → begun_after None frame ≡ None
begins_none frame h = elim (ends_headers frame) as (λ b. (if b then None else joined None frame) ≡ None) [
  | true ↦ refl
  | false ↦ ap (λ b. if b then Some (record { id = frame.id; ends = ends_stream frame; fragments = content frame }) else None) h
]

-- no items either way
pub no_items_if : (b : Bool) → (let none : List Item = [] in if b then none else none) ≡ []
no_items_if true = refl
no_items_if false = refl

-- rows of which each stays
pub all_stay : (f : Row → Row) (rows : List Row) → AreKept rows → ((row : Row) → IsRow row → f row ≡ row) → map f rows ≡ rows
all_stay f [] kept stays = refl
all_stay f (row ∷ rows) kept stays = ap (λ (r : Row). r ∷ map f rows) (stays row kept.0) ∙ ap (λ (rs : List Row). row ∷ rs) (all_stay f rows kept.2 stays)

-- two books with the same parts
pub same_book : (a b : Book) → a.has_come ≡ b.has_come → a.block ≡ b.block → a.continuations ≡ b.continuations → a.block_out ≡ b.block_out → a.first_size ≡ b.first_size → a.window ≡ b.window → a.room ≡ b.room → a.rows ≡ b.rows → a.resets ≡ b.resets → a.ends ≡ b.ends
    → record a { own = b.own; drained = b.drained; given = b.given; last = b.last; closed = b.closed; untaken = b.untaken } ≡ b
same_book a b has_come block continuations block_out first_size window room rows resets ends =
    ap (λ x. record a { has_come = x; own = b.own; drained = b.drained; given = b.given; last = b.last; closed = b.closed; untaken = b.untaken }) has_come
    ∙ ap (λ x. record b { block = x; continuations = a.continuations; block_out = a.block_out; first_size = a.first_size; window = a.window; room = a.room; rows = a.rows; resets = a.resets; ends = a.ends }) block
    ∙ ap (λ x. record b { continuations = x; block_out = a.block_out; first_size = a.first_size; window = a.window; room = a.room; rows = a.rows; resets = a.resets; ends = a.ends }) continuations
    ∙ ap (λ x. record b { block_out = x; first_size = a.first_size; window = a.window; room = a.room; rows = a.rows; resets = a.resets; ends = a.ends }) block_out
    ∙ ap (λ x. record b { first_size = x; window = a.window; room = a.room; rows = a.rows; resets = a.resets; ends = a.ends }) first_size
    ∙ ap (λ x. record b { window = x; room = a.room; rows = a.rows; resets = a.resets; ends = a.ends }) window
    ∙ ap (λ x. record b { room = x; rows = a.rows; resets = a.resets; ends = a.ends }) room
    ∙ ap (λ x. record b { rows = x; resets = a.resets; ends = a.ends }) rows
    ∙ ap (λ x. record b { resets = x; ends = a.ends }) resets
    ∙ ap (λ x. record b { ends = x }) ends

-- ---- rows of the error table that don't apply

-- a row that doesn't apply is skipped
skip : (row : Option Fault) (rows : List (Option Fault)) → row ≡ None → first_of (row ∷ rows) ≡ first_of rows
skip row rows none = ap (λ (r : Option Fault). first_of (r ∷ rows)) none

-- no fault where nothing is wrong
no_fault_if : (b : Bool) (fault : Fault) → b ≡ false → fault_if b fault ≡ None
no_fault_if b fault none = ap (λ b. fault_if b fault) none

-- none either way
none_if : (b : Bool) → (let none : Option Fault = None in if b then none else none) ≡ None
none_if true = refl
none_if false = refl

-- a test of a quiet frame on two parts
both_none : (x y z : Bool) (a b : Fault) → first_of (fault_if (x && (false && y)) a ∷ fault_if (x && (false && z)) b ∷ []) ≡ None
both_none true y z a b = refl
both_none false y z a b = refl

module _ (s : Summary) (frame : Frame) (quiet : IsQuiet frame) (order : IsInOrder s frame) where
  -- it completes no header block
  pub completes : completed_in s.block frame ≡ None
  completes = completes_none s.block frame quiet.control.no_headers quiet.control.no_continuation

  -- and brings its stream nothing
  pub bears_none : bears s frame ≡ false
  bears_none = ap (λ (block : Option Partial). is_some block || frame.kind == data_kind) completes ∙ quiet.control.no_data

  -- it is judged as no type
  judged_none : fault_by_standing_in s frame ≡ None
  judged_none =
      ap (λ (block : Option Partial). fault_on_in s frame.id (judged block frame)) completes
      ∙ ap (λ b. fault_on_in s frame.id (if b || frame.kind == rst_stream_kind || frame.kind == window_update_kind then Some frame.kind else None)) quiet.control.no_data
      ∙ ap (λ b. fault_on_in s frame.id (if b || frame.kind == window_update_kind then Some frame.kind else None)) quiet.control.no_reset
      ∙ ap (λ b. fault_on_in s frame.id (if b then Some frame.kind else None)) quiet.control.no_update

  -- no row applies
  rows_none : first_of (rows_in s (noted_of frame)) ≡ None
  rows_none =
      skip _ _ (ap (λ b. row_first_frame b frame) order.came)
      ∙ skip _ _ (no_fault_if _ _ (ap (λ (block : Option Partial). is_between block frame) order.no_block ∙ quiet.control.no_continuation))
      ∙ skip _ _ (no_fault_if _ _ (ap (λ (block : Option Partial). is_long (joined block frame) || nat_lt most_continuations (continuations_in s.continuations frame)) order.no_block
      ∙ ap (λ b. is_long (if b then Some (record { id = frame.id; ends = ends_stream frame; fragments = content frame }) else None) || nat_lt most_continuations (continuations_in s.continuations frame)) quiet.control.no_headers
      ∙ ap (λ b. nat_lt most_continuations (if b then suc s.continuations else 0)) quiet.control.no_continuation))
      ∙ skip _ _ (no_fault_if _ _ order.placed)
      ∙ skip _ _ (ap (λ (fault : Option PayloadFault). option_map (λ fault. Connection (code_of_payload fault)) fault) order.sized)
      ∙ skip _ _ (ap (λ b. if b then option_map (λ fault. Connection (code_of_fault fault)) (settings_fault frame.payload) else None) quiet.no_settings)
      ∙ skip _ _ (no_fault_if _ _ (ap (λ b. b && shifts_past_in (initial_window_after s.first_size (settings_in frame.payload)) s) quiet.no_settings))
      ∙ skip _ _ (ap (λ b. first_of (fault_if (frame.id == 0 && (b && increment frame == 0)) (Connection protocol_error) ∷ fault_if (frame.id == 0 && (b && is_past (s.window +ℤ pos (increment frame)))) (Connection flow_control_error) ∷ [])) quiet.control.no_update
      ∙ both_none (frame.id == 0) (increment frame == 0) (is_past (s.window +ℤ pos (increment frame))) (Connection protocol_error) (Connection flow_control_error))
      ∙ skip _ _ (ap (λ (f : Option Fault). if is_idle (standing_in s frame.id) && not (is_headers (judged (completed_in s.block frame) frame)) then f else None) judged_none ∙ none_if _)
      ∙ skip _ _ (no_fault_if _ _ (ap (λ b. b && is_active_in frame.id s && nat_le most_resets s.resets) quiet.control.no_reset))
      ∙ skip _ _ (no_fault_if _ _ (ap (λ b. b && int_lt s.room (pos (length frame.payload))) quiet.control.no_data))
      ∙ skip _ _ (ap unless_of_stream judged_none)
      ∙ skip _ _ (ap (λ b. first_of (fault_if (is_active_in frame.id s && (b && increment frame == 0)) (Stream protocol_error) ∷ fault_if (is_active_in frame.id s && (b && is_past (window_in s.first_size (s.stream frame.id) +ℤ pos (increment frame)))) (Stream flow_control_error) ∷ [])) quiet.control.no_update
      ∙ both_none (is_active_in frame.id s) (increment frame == 0) (is_past (window_in s.first_size (s.stream frame.id) +ℤ pos (increment frame))) (Stream protocol_error) (Stream flow_control_error))
      ∙ skip _ _ (no_fault_if _ _ (ap (λ b. is_active_in frame.id s && (b && int_lt (room_in s.own (s.stream frame.id)) (pos (length frame.payload)))) quiet.control.no_data ∙ and_right (is_active_in frame.id s) false refl))
      ∙ skip _ _ judged_none
      ∙ skip _ _ (no_fault_if _ _ (ap (λ (block : Option Partial). are_last s s.drained (if opens_by s.drained s.opened block NoBlock then frame.id ∷ s.opened else s.opened) && is_crowded_in s) completes
      ∙ ap (λ b. b && is_crowded_in s) (neither_full s.drained (length s.opened) most_streams)))

  -- It has no fault, whatever its stream carried.
  pub fault_none : (outline : Outline) → fault_for outline s (coming frame) ≡ None
  fault_none outline = ap (λ (found : Option Fault). or_else found (malformed_in outline s (coming frame))) rows_none ∙ idle_frame outline s (noted_of frame) bears_none

-- ---- what is kept behind it

module _ (setup : Setup) (s : Summary) (frame : Frame) (quiet : IsQuiet frame) (order : IsInOrder s frame) where
  none : completed_in s.block frame ≡ None
  none = completes s frame quiet order

  -- it is no cause for a stream
  no_cause : (id : ℕ) (outline : Outline) → new_cause_in setup false id s (coming frame) outline None ≡ None
  no_cause id outline = no_cause_if (frame.id == id && nat_lt 0 id) _ (idle_cause setup outline s (noted_of frame) (bears_none s frame quiet order))

  -- it leaves each stream as it was
  untouched : (id : ℕ) (kept : Kept) → IsSteady kept.outline → stream_from setup false s (coming frame) id kept None ≡ kept
  untouched id kept is = kept_same kept _
      (ap (λ (block : Option Partial). frame.id == id && ends_by block frame || kept.ended_by_client) none
      ∙ ap (λ b. frame.id == id && (b && ends_stream frame) || kept.ended_by_client) quiet.control.no_data
      ∙ ap (λ b. b || kept.ended_by_client) (and_right (frame.id == id) false refl))
      refl
      (ap (λ b. b && frame.id == id || kept.reset_by_client) quiet.control.no_reset)
      refl
      (none_more (is_sound s frame) kept.balance (grant id frame) (ap (λ b. if b && frame.id == id then increment frame else 0) quiet.control.no_update))
      (none_less kept.room _ (ap (λ b. if b && frame.id == id then length frame.payload else 0) quiet.control.no_data))
      refl
      (course_same setup false s (coming frame) id kept None is
      (no_cause id kept.outline)
      (ap (λ b. (b && frame.id == id || false)) quiet.control.no_reset)
      (ap (λ (block : Option Partial). if frame.id == id then frame_items block (noted_of frame) else []) none
      ∙ ap (λ b. if frame.id == id then (if b then Content (content frame) (ends_stream frame) ∷ [] else []) else []) quiet.control.no_data
      ∙ no_items_if (frame.id == id)))

  slot_stays : (id : ℕ) (slot : Slot) → IsTidy slot → slot_of (stream_from setup false s (coming frame) id (kept_in slot) (fault_for (kept_in slot).outline s (coming frame))) ≡ slot
  slot_stays id (Live k) tidy =
      ap (λ (x : Option Fault). slot_of (stream_from setup false s (coming frame) id k x)) (fault_none s frame quiet order k.outline)
      ∙ ap slot_of (untouched id k tidy.1)
      ∙ ap (λ x. if x then Over k.reset_by_gateway else Live k) tidy.0
  slot_stays id (Over by_us) tidy =
      ap (λ (x : Option Fault). slot_of (stream_from setup false s (coming frame) id (over_kept by_us) x)) (fault_none s frame quiet order (over_kept by_us).outline)
      ∙ ap slot_of (untouched id (over_kept by_us) (λ none. refl))
      ∙ over_again by_us

  -- each row stays
  row_same : (row : Row) → IsRow row → row_behind setup false s (coming frame) row ≡ row
  row_same row is = ap (λ (x : Slot). record { id = row.id; slot = x }) (slot_stays row.id row.slot is.tidy)

  pub rows_same : (rows : List Row) → AreKept rows → rows_after setup false s (coming frame) rows ≡ rows
  rows_same rows kept =
      let all : List Row = map (row_behind setup false s (coming frame)) rows in
      ap (λ (block : Option Partial). if opens_by s.drained s.opened block NoBlock then row_opened setup false s (coming frame) frame.id ∷ all else all) none
      ∙ all_stay (row_behind setup false s (coming frame)) rows kept row_same

  -- no stream is reset for it
  pub resets_none : resets_in setup false s (coming frame) ≡ []
  resets_none =
      let k : Kept = s.stream frame.id in
      ap (λ (x : Option Fault). reset_for frame.id (outline_from setup false frame.id s (coming frame) k x).head_out k.outline.cause (outline_from setup false frame.id s (coming frame) k x).cause) (fault_none s frame quiet order k.outline)
      ∙ ap (λ (c : Option Cause). reset_for frame.id (outline_from setup false frame.id s (coming frame) k None).head_out k.outline.cause (first_of_both k.outline.cause c)) (no_cause frame.id k.outline)
      ∙ no_reset_for frame.id (outline_from setup false frame.id s (coming frame) k None).head_out k.outline.cause

module _ (setup : Setup) (b : Book) (frame : Frame) (quiet : IsQuiet frame) (order : IsInOrder (summary_in b) frame) where
  -- The book behind it: that a frame came, and on which stream.
  pub quiet_book : AreKept b.rows → book_after setup false b (coming frame) ≡ heard b frame
  quiet_book kept =
      let s : Summary = summary_in b in
      same_book (book_after setup false b (coming frame)) (heard b frame) refl
      (ap (λ (block : Option Partial). begun_after block frame) order.no_block ∙ begins_none frame quiet.control.no_headers ∙ sym order.no_block)
      (ap (λ x. if x then suc b.continuations else 0) quiet.control.no_continuation)
      refl
      (ap (λ x. if is_sound s frame && (x && is_none (settings_fault frame.payload) && not (shifts_past_in (initial_window_after b.first_size (settings_in frame.payload)) s)) then initial_window_after b.first_size (settings_in frame.payload) else b.first_size) quiet.no_settings
      ∙ ap (λ x. if x then initial_window_after b.first_size (settings_in frame.payload) else b.first_size) (and_right (is_sound s frame) false refl))
      (none_more (is_sound s frame) b.window (grant 0 frame) (ap (λ x. if x && frame.id == 0 then increment frame else 0) quiet.control.no_update))
      (none_less b.room _ (ap (λ x. if x && true then length frame.payload else 0) quiet.control.no_data))
      (rows_same setup s frame quiet order b.rows kept)
      (ap (λ x. if x && is_active_in frame.id s then suc b.resets else b.resets) quiet.control.no_reset)
      (ap is_fatal (fault_none s frame quiet order (find b.rows frame.id).outline))

  -- What it calls for: the answer to a PING.
  pub quiet_owes : owes_in setup false (summary_in b) (coming frame) ≡ acks (coming frame) None
  quiet_owes =
      let s : Summary = summary_in b in
      let resets : List Frame = resets_in setup false s (coming frame) in
      ap (λ (x : Option Fault). owed_first_in s (coming frame) x ++ (acks (coming frame) x ++ (resets ++ []))) (fault_none s frame quiet order (find b.rows frame.id).outline)
      ∙ ap (λ (x : List ℕ). (if not s.drained && nat_lt (length s.opened) most_streams && (s.drained || length x == most_streams) then goaway (highest_in x) no_error ∷ [] else []) ++ (acks (coming frame) None ++ (resets ++ []))) (ap (λ (block : Option Partial). if opens_by s.drained s.opened block NoBlock then frame.id ∷ s.opened else s.opened) (completes s frame quiet order))
      ∙ ap (λ x. (if x then goaway (highest_in s.opened) no_error ∷ [] else []) ++ (acks (coming frame) None ++ (resets ++ []))) (neither_full s.drained (length s.opened) most_streams)
      ∙ ap (λ (fs : List Frame). acks (coming frame) None ++ (fs ++ [])) (resets_none setup s frame quiet order)
      ∙ append-nil (acks (coming frame) None)
