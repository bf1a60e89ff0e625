-- Frames of a stream: what its standing makes of them, what is left of the streams where nothing comes of a frame, and what a reset leaves.
use Rattle.std.proofs.Common.{◌≡◌, ℕ, Bool, true, false, not, ◌&&◌, ◌||◌, ◌==◌, if◌then◌else◌, List, [], ◌∷◌, map, Option, Some, None, refl, sym, ◌∙◌, ap, inl, inr}
use Rattle.std.proofs.lemmas.Bool.{and_right, or_parts, ne_eqb, eq-eqb, cases_eq}
use Rattle.std.proofs.lemmas.List.{map-id}
use Rattle.std.specs.Prelude.{ℤ, pos, ◌+ℤ◌, is_none}
use Rattle.model.specs.Frames.{Frame, window_update_kind}
use Rattle.model.specs.Setup.{Setup}
use Rattle.model.specs.Errors.{Fault, first_of, or_else}
use Rattle.model.specs.Errors.Fault.{Connection, Stream, Discarded}
use Rattle.model.specs.StreamStates.{Standing, verdict}
use Rattle.model.specs.StreamStates.StreamState.{Open, HalfClosedRemote, HalfClosedLocal, Closed, ResetByPeer, ResetByUs}
use Rattle.model.specs.StreamStates.Standing.{WholeConnection, Opened, Idle, ServerIdle, Skipped, Beyond}
use Rattle.model.specs.ErrorTable.{fault_of, unless_of_stream}
use Rattle.model.specs.ErrorClause.{is_fatal, rst_stream}
use Rattle.theory_errors.specs.Summary.{Outline, Stream as Kept, Summary}
use Rattle.theory_errors.specs.Judging.{is_over_in, fault_for}
use Rattle.theory_errors.specs.After.{kept_behind, resets_after}
use Rattle.theory_errors.specs.Rows.{Row, Slot, over_kept, kept_in, find, row_behind, rows_after}
use Rattle.theory_errors.specs.Rows.Slot.{Live, Over}
use Rattle.theory_errors.specs.Book.{Book, summary_in, book_after}
use Rattle.theory_errors.specs.Tidy.{IsTidy, IsRow, AreKept}
use Rattle.theory_errors.specs.Quiet.{noted_of, coming, sending, heard}
use Rattle.model.specs.Tapes.{Noted}
use Rattle.model.specs.Tapes.Entry.{Came}
use Rattle.theory_errors.proofs.Rows.{over_stays}
use Rattle.streams.specs.Asked.{has, is_active, with_slot, changed}
use Rattle.streams.proofs.Searches.{IsFound}
use Rattle.streams.proofs.Changes.{slot_left, slot_given}
use Rattle.connection_state.specs.Judgement.{IsPlain, is_of_stream, reset, behind, reset_behind}
use Rattle.connection_state.proofs.Rows.{is_right, none_begun, rows_behind, book_behind}
use Rattle.model.specs.SettingValues.{settings_in, settings_fault, initial_window_after}
use Rattle.model.specs.WindowsOnTape.{has_settings, increment, is_any}
use Rattle.theory_errors.specs.Judging.{frame_rows_in, shifts_past_in}
use Rattle.theory_errors.specs.Owing.{fault_in}
use Rattle.theory_errors.specs.After.{is_sound, room_after, begun_after}
use Rattle.theory_errors.specs.Rows.{row_opened}
use Rattle.theory_errors.proofs.Turns.{completes_none}
use Rattle.model.specs.Decoding.{Partial}
use Rattle.model.specs.Lifetimes.{opens_by}
use Rattle.model.specs.Tapes.Note.{NoBlock}
use Rattle.theory_errors.proofs.Elsewhere.{none_more, none_less, row_stays}
use Rattle.theory_errors.proofs.Idle.{zero_unless}

-- ---- the standing of a frame's stream

-- No standing makes RST_STREAM or WINDOW_UPDATE such an error.
pub reset_mild : (active : ℕ) (st : Standing) → is_of_stream (fault_of (verdict active st 3)) ≡ false
reset_mild active WholeConnection = refl
reset_mild active (Opened Open) = refl
reset_mild active (Opened HalfClosedRemote) = refl
reset_mild active (Opened HalfClosedLocal) = refl
reset_mild active (Opened Closed) = refl
reset_mild active (Opened ResetByPeer) = refl
reset_mild active (Opened ResetByUs) = refl
reset_mild active Idle = refl
reset_mild active ServerIdle = refl
reset_mild active Skipped = refl
reset_mild active Beyond = refl

pub update_mild : (active : ℕ) (st : Standing) → is_of_stream (fault_of (verdict active st 8)) ≡ false
update_mild active WholeConnection = refl
update_mild active (Opened Open) = refl
update_mild active (Opened HalfClosedRemote) = refl
update_mild active (Opened HalfClosedLocal) = refl
update_mild active (Opened Closed) = refl
update_mild active (Opened ResetByPeer) = refl
update_mild active (Opened ResetByUs) = refl
update_mild active Idle = refl
update_mild active ServerIdle = refl
update_mild active Skipped = refl
update_mild active Beyond = refl

-- Then it decides before the rows on the stream's window.
pub standing_rows : (x : Bool) (o : Option Fault) (rest : List (Option Fault)) → is_of_stream o ≡ false → first_of ((if x then o else None) ∷ None ∷ None ∷ None ∷ unless_of_stream o ∷ rest) ≡ or_else o (first_of rest)
standing_rows true None rest mild = refl
standing_rows false None rest mild = refl
standing_rows x (Some (Stream code)) rest mild = absurd (let no : true ≡ false = mild in cc)
standing_rows true (Some (Connection code)) rest mild = refl
standing_rows false (Some (Connection code)) rest mild = refl
standing_rows true (Some Discarded) rest mild = refl
standing_rows false (Some Discarded) rest mild = refl

-- ---- what stays

-- a row that is over stays so, whatever comes
pub over_stays_so : (setup : Setup) (s : Summary) (frame : Frame) (id : ℕ) (by_us : Bool) → row_behind setup false s (coming frame) (record { id = id; slot = Over by_us }) ≡ record { id = id; slot = Over by_us }
over_stays_so setup s frame id by_us =
    ap (λ x. record { id = id; slot = if x then Over by_us else Live (kept_behind setup false s (coming frame) id (over_kept by_us)) })
    (over_stays setup false s (coming frame) id (over_kept by_us) (fault_for (over_kept by_us).outline s (coming frame)) (closed by_us))
  where
    closed : (x : Bool) → is_over_in (over_kept x) ≡ true
    closed true = refl
    closed false = refl

-- Where the frame's stream isn't active, all rows stay.
pub rows_stay : (setup : Setup) (b : Book) (frame : Frame) → AreKept b.rows → IsPlain frame → b.block ≡ None → ((outline : Outline) → is_fatal (fault_for outline (summary_in b) (coming frame)) ≡ false)
    → is_active b.rows frame.id ≡ false → rows_after setup false (summary_in b) (coming frame) b.rows ≡ b.rows
rows_stay setup b frame kept plain begun mild idle =
    rows_behind setup b frame (λ (row : Row). row) kept plain begun mild own (λ row apart. refl) ∙ map-id b.rows
  where
    by_slot : (id : ℕ) (slot : Slot) → IsTidy slot → has b.rows id ≡ true → find b.rows id ≡ kept_in slot → id ≡ frame.id → row_behind setup false (summary_in b) (coming frame) (record { id = id; slot = slot }) ≡ record { id = id; slot = slot }
    by_slot id (Over by_us) tidy there found same = over_stays_so setup (summary_in b) frame id by_us
    by_slot id (Live kept) tidy there found same =
        let active : is_active b.rows id ≡ true = ap (λ x. x && not (is_over_in (find b.rows id))) there ∙ ap (λ (k : Kept). not (is_over_in k)) found ∙ ap not tidy.0 in
        absurd (let no : true ≡ false = sym active ∙ ap (is_active b.rows) same ∙ idle in cc)

    own : (row : Row) → IsRow row → IsFound b.rows row → row.id ≡ frame.id → row_behind setup false (summary_in b) (coming frame) row ≡ row
    own row is found same = by_slot row.id row.slot is.tidy found.0 found.1 same

-- ---- RST_STREAM

-- A live row is over behind it.
pub reset_row : (setup : Setup) (s : Summary) (flags id : ℕ) (payload : List ℕ) (row : Row) (kept : Kept) → row.id ≡ id → kept_in row.slot ≡ kept → is_over_in kept ≡ false → row_behind setup false s (coming (reset flags id payload)) row ≡ with_slot id (Over false) row
reset_row setup s flags id payload row kept same is goes_on =
    let k : Kept = kept_in row.slot in
    let now : Kept = kept_behind setup false s (coming (reset flags id payload)) row.id k in
    let on : is_over_in k ≡ false = ap is_over_in is ∙ goes_on in
    let us : k.reset_by_gateway ≡ false = (or_parts k.reset_by_gateway k.reset_by_client (or_parts (k.reset_by_gateway || k.reset_by_client) (k.ended_by_client && k.ended_by_gateway) on).0).0 in
    let over : is_over_in now ≡ true =
    ap (λ x. x || ((id == row.id) || k.reset_by_client) || now.ended_by_client && now.ended_by_gateway) us
    ∙ ap (λ x. (x || k.reset_by_client) || now.ended_by_client && now.ended_by_gateway) (eq-eqb id row.id (sym same)) in
    ap (λ x. record { id = row.id; slot = if x then Over k.reset_by_gateway else Live now }) over
    ∙ ap (λ x. record { id = row.id; slot = Over x }) us
    ∙ sym (slot_given id (Over false) row same)

-- ---- a frame of a stream that is right by itself

module _ (setup : Setup) (b : Book) (frame : Frame) (plain : IsPlain frame) (of_stream : (frame.id == 0) ≡ false) (sound : first_of (frame_rows_in (summary_in b) frame) ≡ None) (kept : AreKept b.rows) where
  -- no header block is begun
  pub begun : b.block ≡ None
  begun = none_begun (summary_in b) frame plain (is_right (summary_in b) frame sound)

  -- it grants the connection nothing
  grants_none : (window_kind : Bool) → (if is_sound (summary_in b) frame then b.window +ℤ pos (if window_kind && frame.id == 0 then increment frame else 0) else b.window) ≡ b.window
  grants_none window_kind = none_more (is_sound (summary_in b) frame) b.window (if window_kind && frame.id == 0 then increment frame else 0) (zero_unless window_kind (frame.id == 0) (increment frame) of_stream)

  -- The book behind it, where it has no settings.
  pub stream_behind : (room : ℤ) (rows : List Row) → has_settings frame ≡ false → room_after b.room is_any 0 (coming frame) ≡ room → rows_after setup false (summary_in b) (coming frame) b.rows ≡ rows → is_fatal (fault_in (summary_in b) (coming frame)) ≡ false
      → behind setup b frame ≡ record (heard b frame) { room = room; rows = rows; resets = resets_after (summary_in b) (coming frame) }
  stream_behind room rows none room_is rows_are mild =
      book_behind setup b frame b.first_size b.window room rows plain begun
      (ap (λ x. if is_sound (summary_in b) frame && (x && is_none (settings_fault frame.payload) && not (shifts_past_in (initial_window_after b.first_size (settings_in frame.payload)) (summary_in b))) then initial_window_after b.first_size (settings_in frame.payload) else b.first_size) none
      ∙ ap (λ x. if x then initial_window_after b.first_size (settings_in frame.payload) else b.first_size) (and_right (is_sound (summary_in b) frame) false refl))
      (grants_none (frame.kind == window_update_kind))
      room_is rows_are mild

-- ---- an error of the stream, and the reset behind it

-- the reset of a stream leaves its row so
pub reset_own : (setup : Setup) (m : Book) (id code : ℕ) (r : Row) → r.id ≡ id → row_behind setup false (summary_in m) (sending (rst_stream id code)) r ≡ record { id = r.id; slot = Over true }
reset_own setup m id code r same =
    let now : Kept = kept_behind setup false (summary_in m) (sending (rst_stream id code)) r.id (kept_in r.slot) in
    let us : now.reset_by_gateway ≡ true = ap (λ x. x || (kept_in r.slot).reset_by_gateway) (eq-eqb id r.id (sym same)) in
    ap (λ x. record { id = r.id; slot = if x || now.reset_by_client || now.ended_by_client && now.ended_by_gateway then Over now.reset_by_gateway else Live now }) us
    ∙ ap (λ x. record { id = r.id; slot = Over x }) us

-- a row of another stream stays over both, and the own one is over by the gateway
pub both_rows : (setup : Setup) (b m : Book) (noted : Noted) (code : ℕ) → ((outline : Outline) → is_fatal (fault_for outline (summary_in b) (Came noted)) ≡ false) → (rows : List Row) → AreKept rows
    → map (row_behind setup false (summary_in m) (sending (rst_stream noted.frame.id code))) (map (row_behind setup false (summary_in b) (Came noted)) rows) ≡ changed noted.frame.id (Over true) rows
both_rows setup b m noted code mild [] kept = refl
both_rows setup b m noted code mild (row ∷ rows) kept =
    ap (λ (r : Row). r ∷ map (row_behind setup false (summary_in m) (sending (rst_stream id code))) (map (row_behind setup false (summary_in b) (Came noted)) rows)) (one row kept.0)
    ∙ ap (λ (rs : List Row). with_slot id (Over true) row ∷ rs) (both_rows setup b m noted code mild rows kept.2)
  where
    id : ℕ
    id = noted.frame.id

    one : (row : Row) → IsRow row → row_behind setup false (summary_in m) (sending (rst_stream id code)) (row_behind setup false (summary_in b) (Came noted) row) ≡ with_slot id (Over true) row
    one row is = elim (cases_eq row.id id) [
      | inl same ↦ reset_own setup m id code (row_behind setup false (summary_in b) (Came noted) row) same ∙ sym (slot_given id (Over true) row same)
      | inr apart ↦
          let other : (id == row.id) ≡ false = ne_eqb id row.id (λ same. apart (sym same)) in
          ap (λ (r : Row). row_behind setup false (summary_in m) (sending (rst_stream id code)) r) (row_stays setup false (summary_in b) (Came noted) row is (other, mild (kept_in row.slot).outline))
          ∙ row_stays setup false (summary_in m) (sending (rst_stream id code)) row is (other, refl)
          ∙ sym (slot_left id (Over true) row apart)
    ]

module _ (setup : Setup) (b : Book) (frame : Frame) (code : ℕ) (plain : IsPlain frame) (of_stream : (frame.id == 0) ≡ false) (sound : first_of (frame_rows_in (summary_in b) frame) ≡ None) (kept : AreKept b.rows) where
  -- The stream is over by the gateway, and all else is as it is behind the frame.
  pub reset_left : (room : ℤ) → b.block_out ≡ None → b.closed ≡ false → has_settings frame ≡ false → room_after b.room is_any 0 (coming frame) ≡ room → ((outline : Outline) → is_fatal (fault_for outline (summary_in b) (coming frame)) ≡ false)
      → reset_behind setup b frame code ≡ record (heard b frame) { room = room; rows = changed frame.id (Over true) b.rows; resets = resets_after (summary_in b) (coming frame) }
  reset_left room none_out open_yet none room_is mild =
      let rst : Frame = rst_stream frame.id code in
      let all : List Row = map (row_behind setup false (summary_in b) (coming frame)) b.rows in
      let none_opened : rows_after setup false (summary_in b) (coming frame) b.rows ≡ all =
      ap (λ (block : Option Partial). if opens_by (summary_in b).drained (summary_in b).opened block NoBlock then row_opened setup false (summary_in b) (coming frame) frame.id ∷ all else all) (completes_none b.block frame plain.no_headers plain.no_continuation) in
      let m : Book = record (heard b frame) { room = room; rows = all; resets = resets_after (summary_in b) (coming frame) } in
      let came : behind setup b frame ≡ m = stream_behind setup b frame plain of_stream sound kept room all none room_is none_opened (mild (find b.rows frame.id).outline) in
      ap (λ (x : Book). record (book_after setup false x (sending rst)) { untaken = b.untaken }) came
      ∙ ap (λ (o : Option Partial). record (book_after setup false m (sending rst)) { untaken = b.untaken; block_out = o }) (ap (λ (o : Option Partial). begun_after o rst) none_out ∙ sym none_out)
      ∙ ap (λ (x : ℤ). record m { untaken = b.untaken; window = x; room = m.room +ℤ pos 0; rows = map (row_behind setup false (summary_in m) (sending rst)) all }) (none_less m.window 0 refl)
      ∙ ap (λ (x : ℤ). record m { untaken = b.untaken; room = x; rows = map (row_behind setup false (summary_in m) (sending rst)) all }) (none_more true m.room 0 refl)
      ∙ ap (λ (x : List Row). record m { untaken = b.untaken; rows = x }) (both_rows setup b m (noted_of frame) code mild b.rows kept)
