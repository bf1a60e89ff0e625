-- The rows of the error table in their order, and the book behind a frame that has no fragment of a header block.
use Rattle.std.proofs.Common.{◌≡◌, ℕ, suc, Bool, true, false, not, ◌&&◌, ◌==◌, if◌then◌else◌, List, [], ◌∷◌, ◌++◌, map, Option, Some, None, refl, sym, ◌∙◌, ap, length}
use Rattle.std.proofs.lemmas.Bool.{cases_eq, ne_eqb}
use Rattle.std.proofs.Common.{inl, inr}
use Rattle.std.specs.List.{AllByRecursion}
use Rattle.std.proofs.lemmas.List.Elements.{recursion_from_All}
use Rattle.std.specs.Prelude.{option_map}
use Rattle.model.specs.Frames.{protocol_error, Frame}
use Rattle.theory_errors.specs.After.{begun_after, resets_after}
use Rattle.streams.proofs.Searches.{IsFound, all_found}
use Rattle.std.specs.Prelude.{ℤ, is_some}
use Rattle.model.specs.Setup.{Setup}
use Rattle.model.specs.Tapes.Note.{NoBlock}
use Rattle.model.specs.Decoding.{Partial}
use Rattle.model.specs.Errors.{Fault, first_of, or_else, row_first_frame}
use Rattle.model.specs.Errors.Fault.{Connection, Stream}
use Rattle.model.specs.FrameErrors.{fault_if, is_between, is_misplaced}
use Rattle.model.specs.Payloads.{PayloadFault, payload_fault, code_of_payload}
use Rattle.model.specs.ErrorTable.{is_undecodable, is_malformed, unless_of_stream}
use Rattle.model.specs.WindowsOnTape.{has_settings, is_any}
use Rattle.model.specs.Lifetimes.{opens_by}
use Rattle.model.specs.Limits.{most_streams}
use Rattle.model.proofs.OwedSteps.{neither_full}
use Rattle.model.specs.ErrorClause.{is_fatal}
use Rattle.theory_errors.specs.Summary.{Outline, carried_in, Summary}
use Rattle.theory_errors.specs.Judging.{completed_in, between_in, long_block_in, misplaced_in, payload_in, frame_rows_in, values_in, shift_in, connection_update_in, idle_in, connection_data_in, fault_by_standing_in, stream_update_in, stream_data_in, malformed_in, fault_for, resets_row_in, no_goaway_in, are_last, is_crowded_in}
use Rattle.theory_errors.specs.Owing.{fault_in}
use Rattle.theory_errors.specs.After.{first_size_after, window_after, room_after}
use Rattle.theory_errors.specs.Rows.{Row, kept_in, row_behind, row_opened, rows_after}
use Rattle.theory_errors.specs.Book.{Book, summary_in}
use Rattle.theory_errors.specs.Tidy.{IsRow, AreKept}
use Rattle.theory_errors.specs.Quiet.{IsInOrder, noted_of, coming, heard}
use Rattle.theory_errors.proofs.Elsewhere.{row_stays}
use Rattle.theory_errors.proofs.Quiet.{begins_none, same_book}
use Rattle.theory_errors.proofs.Turns.{completes_none}
use Rattle.connection_state.specs.Judgement.{IsPlain, behind}

-- ---- the first row that applies

-- it is among some rows, or none of these applies
pub first_within : (xs ys : List (Option Fault)) (f : Fault) → first_of xs ≡ Some f → first_of (xs ++ ys) ≡ Some f
first_within [] ys f is = absurd (let no : None ≡ Some f = is in cc)
first_within (None ∷ xs) ys f is = first_within xs ys f is
first_within (Some x ∷ xs) ys f is = is

pub first_past : (xs ys : List (Option Fault)) → first_of xs ≡ None → first_of (xs ++ ys) ≡ first_of ys
first_past [] ys none = refl
first_past (None ∷ xs) ys none = first_past xs ys none
first_past (Some x ∷ xs) ys none = absurd (let no : Some x ≡ None = none in cc)

-- where none applies, a row doesn't
pub none_here : (row : Option Fault) (rows : List (Option Fault)) → first_of (row ∷ rows) ≡ None → (row ≡ None) × (first_of rows ≡ None)
none_here None rows none = (refl, none)
none_here (Some x) rows none = absurd (let no : Some x ≡ None = none in cc)

-- a row that doesn't apply is skipped
pub skip : (row : Option Fault) (rows : List (Option Fault)) → row ≡ None → first_of (row ∷ rows) ≡ first_of rows
skip row rows none = ap (λ (r : Option Fault). first_of (r ∷ rows)) none

-- rows behind two don't matter, where none of them applies
pub two_left : (x y : Option Fault) (rows : List (Option Fault)) → first_of rows ≡ None → first_of (x ∷ y ∷ rows) ≡ first_of (x ∷ y ∷ [])
two_left None y rows none = elim y as (λ v. first_of (v ∷ rows) ≡ first_of (v ∷ [])) [ None ↦ none | Some f ↦ refl ]
two_left (Some f) y rows none = refl

-- no fault where nothing is wrong
pub no_fault : (b : Bool) (fault : Fault) → b ≡ false → fault_if b fault ≡ None
no_fault b fault none = ap (λ b. fault_if b fault) none

pub fault_is : (b : Bool) (fault : Fault) → b ≡ true → fault_if b fault ≡ Some fault
fault_is b fault is = ap (λ b. fault_if b fault) is

-- the rows behind those of the frame itself
abbrev pub later_rows : Summary → Frame → List (Option Fault)
later_rows s frame =
    values_in frame
    ∷ shift_in s frame
    ∷ connection_update_in s frame
    ∷ idle_in s frame
    ∷ resets_row_in s frame
    ∷ connection_data_in s frame
    ∷ fault_if (is_undecodable NoBlock) (Connection 9)
    ∷ unless_of_stream (fault_by_standing_in s frame)
    ∷ stream_update_in s frame
    ∷ stream_data_in s frame
    ∷ fault_by_standing_in s frame
    ∷ no_goaway_in s (noted_of frame)
    ∷ []

-- the last of them never applies: a frame without a header block opens no stream
pub opens_no_last : (s : Summary) (frame : Frame) → no_goaway_in s (noted_of frame) ≡ None
opens_no_last s frame =
    ap (λ b. fault_if (are_last s s.drained (if b then frame.id ∷ s.opened else s.opened) && is_crowded_in s) (Stream 11)) (none (completed_in s.block frame))
    ∙ ap (λ b. fault_if (b && is_crowded_in s) (Stream 11)) (neither_full s.drained (length s.opened) most_streams)
  where
    none : (block : Option Partial) → opens_by s.drained s.opened block NoBlock ≡ false
    none None = refl
    none (Some block) = refl

-- A frame that is wrong by itself has that fault.
pub fault_of_frame : (s : Summary) (frame : Frame) (f : Fault) → first_of (frame_rows_in s frame) ≡ Some f → fault_in s (coming frame) ≡ Some f
fault_of_frame s frame f is =
    ap (λ (x : Option Fault). or_else x (malformed_in (s.stream frame.id).outline s (coming frame))) (first_within (frame_rows_in s frame) (later_rows s frame) f is)

-- One that isn't has the fault of the later rows, or is malformed.
pub fault_later : (s : Summary) (frame : Frame) → first_of (frame_rows_in s frame) ≡ None → (outline : Outline) → fault_for outline s (coming frame) ≡ or_else (first_of (later_rows s frame)) (malformed_in outline s (coming frame))
fault_later s frame sound outline = ap (λ (x : Option Fault). or_else x (malformed_in outline s (coming frame))) (first_past (frame_rows_in s frame) (later_rows s frame) sound)

-- ---- a frame that is right by itself

-- what its rows say of it
pub record IsRight (s : Summary) (frame : Frame) : Type 0 where
  pub first : row_first_frame s.has_come frame ≡ None
  pub between : is_between s.block frame ≡ false
  pub placed : is_misplaced frame ≡ false
  pub sized : payload_fault frame ≡ None

unless : (b : Bool) (f : Fault) → fault_if b f ≡ None → b ≡ false
unless true f none = absurd (let no : Some f ≡ None = none in cc)
unless false f none = refl

pub is_right : (s : Summary) (frame : Frame) → first_of (frame_rows_in s frame) ≡ None → IsRight s frame
is_right s frame sound =
    let a = none_here (row_first_frame s.has_come frame) (None ∷ between_in s frame ∷ long_block_in s frame ∷ misplaced_in frame ∷ payload_in frame ∷ []) sound in
    let b = none_here (between_in s frame) (long_block_in s frame ∷ misplaced_in frame ∷ payload_in frame ∷ []) a.1 in
    let c = none_here (long_block_in s frame) (misplaced_in frame ∷ payload_in frame ∷ []) b.1 in
    let d = none_here (misplaced_in frame) (payload_in frame ∷ []) c.1 in
    let e = none_here (payload_in frame) [] d.1 in
    record {
      first = a.0;
      between = unless (is_between s.block frame) (Connection protocol_error) b.0;
      placed = unless (is_misplaced frame) (Connection protocol_error) d.0;
      sized = sized (payload_fault frame) e.0;
    }
  where
    sized : (o : Option PayloadFault) → option_map (λ fault. Connection (code_of_payload fault)) o ≡ None → o ≡ None
    sized None is = refl
    sized (Some f) is = absurd (let no : Some (Connection (code_of_payload f)) ≡ None = is in cc)

-- then no header block is begun, where it has no fragment of one
pub none_begun : (s : Summary) (frame : Frame) → IsPlain frame → IsRight s frame → s.block ≡ None
none_begun s frame plain right = cases s.block right.between
  where
    cases : (block : Option Partial) → is_between block frame ≡ false → block ≡ None
    cases None is = refl
    cases (Some begun) is = absurd (let no : true ≡ false = sym (ap (λ b. not (b && frame.id == begun.id)) plain.no_continuation) ∙ is in cc)

-- and a frame came before it, unless it has settings
pub was_begun : (s : Summary) (frame : Frame) → has_settings frame ≡ false → IsRight s frame → s.has_come ≡ true
was_begun s frame none right = cases s.has_come right.first
  where
    cases : (b : Bool) → row_first_frame b frame ≡ None → b ≡ true
    cases true is = refl
    cases false is = absurd (let no : Some (Connection protocol_error) ≡ None = sym (ap (λ b. if b then None else Some (Connection protocol_error)) none) ∙ is in cc)

-- so it comes in order
pub in_order : (s : Summary) (frame : Frame) → IsPlain frame → has_settings frame ≡ false → IsRight s frame → IsInOrder s frame
in_order s frame plain none right = record {
  came = was_begun s frame none right;
  no_block = none_begun s frame plain right;
  placed = right.placed;
  sized = right.sized;
}

-- ---- the rows of streams behind a frame

-- A fault that isn't one of the connection isn't either with what the stream carried.
pub not_fatal : (s : Summary) (frame : Frame) (outline : Outline) → first_of (frame_rows_in s frame) ≡ None → is_fatal (first_of (later_rows s frame)) ≡ false → is_fatal (fault_for outline s (coming frame)) ≡ false
not_fatal s frame outline sound later = ap is_fatal (fault_later s frame sound outline) ∙ cases (first_of (later_rows s frame)) later
  where
    malformed : (b : Bool) → is_fatal (fault_if b (Stream protocol_error)) ≡ false
    malformed true = refl
    malformed false = refl

    cases : (o : Option Fault) → is_fatal o ≡ false → is_fatal (or_else o (malformed_in outline s (coming frame))) ≡ false
    cases None is = malformed (not (is_some outline.cause) && is_malformed (carried_in outline) (completed_in s.block frame) (noted_of frame))
    cases (Some f) is = is

-- Each row stays but that of the frame's stream, of which this is known.
pub rows_behind : (setup : Setup) (b : Book) (frame : Frame) (f : Row → Row) → AreKept b.rows → IsPlain frame → b.block ≡ None
    → ((outline : Outline) → is_fatal (fault_for outline (summary_in b) (coming frame)) ≡ false)
    → ((row : Row) → IsRow row → IsFound b.rows row → row.id ≡ frame.id → row_behind setup false (summary_in b) (coming frame) row ≡ f row)
    → ((row : Row) → (row.id ≡ frame.id → ⊥) → f row ≡ row)
    → rows_after setup false (summary_in b) (coming frame) b.rows ≡ map f b.rows
rows_behind setup b frame f kept plain begun mild own others =
    let s : Summary = summary_in b in
    let all : List Row = map (row_behind setup false s (coming frame)) b.rows in
    ap (λ (block : Option Partial). if opens_by s.drained s.opened block NoBlock then row_opened setup false s (coming frame) frame.id ∷ all else all) (completes_none s.block frame plain.no_headers plain.no_continuation)
    ∙ each b.rows kept (recursion_from_All (IsFound b.rows) b.rows (all_found b.rows kept))
  where
    one : (row : Row) → IsRow row → IsFound b.rows row → row_behind setup false (summary_in b) (coming frame) row ≡ f row
    one row is found = elim (cases_eq row.id frame.id) [
      | inl same ↦ own row is found same
      | inr apart ↦ row_stays setup false (summary_in b) (coming frame) row is (ne_eqb frame.id row.id (λ same. apart (sym same)), mild (kept_in row.slot).outline) ∙ sym (others row apart)
    ]

    each : (rs : List Row) → AreKept rs → AllByRecursion (IsFound b.rows) rs → map (row_behind setup false (summary_in b) (coming frame)) rs ≡ map f rs
    each [] kept found = refl
    each (row ∷ rs) kept found = ap (λ (r : Row). r ∷ map (row_behind setup false (summary_in b) (coming frame)) rs) (one row kept.0 found.0) ∙ ap (λ (xs : List Row). f row ∷ xs) (each rs kept.2 found.1)

-- ---- the book behind a frame

-- It is that in which the frame was heard, with what else is new.
pub book_behind : (setup : Setup) (b : Book) (frame : Frame) (first : ℕ) (window room : ℤ) (rows : List Row) → IsPlain frame → b.block ≡ None
    → first_size_after (summary_in b) (coming frame) ≡ first
    → window_after b.window is_any 0 (summary_in b) (coming frame) ≡ window
    → room_after b.room is_any 0 (coming frame) ≡ room
    → rows_after setup false (summary_in b) (coming frame) b.rows ≡ rows
    → is_fatal (fault_in (summary_in b) (coming frame)) ≡ false
    → behind setup b frame ≡ record (heard b frame) { first_size = first; window = window; room = room; rows = rows; resets = resets_after (summary_in b) (coming frame) }
book_behind setup b frame first window room rows plain begun first_is window_is room_is rows_are mild =
    same_book (behind setup b frame) (record (heard b frame) { first_size = first; window = window; room = room; rows = rows; resets = resets_after (summary_in b) (coming frame) }) refl
    (ap (λ (block : Option Partial). begun_after block frame) begun ∙ begins_none frame plain.no_headers ∙ sym begun)
    (ap (λ x. if x then suc b.continuations else 0) plain.no_continuation)
    refl first_is window_is room_is rows_are refl mild
