-- The book behind HEADERS or CONTINUATION: the rows that it leaves, and the rest (RFC 9113, sections 4.3, 5.1 and 8.1).
use Rattle.std.proofs.Common.{◌≡◌, ℕ, suc, ◌+◌, Bool, true, false, not, ◌&&◌, ◌||◌, ◌==◌, nat_lt, if◌then◌else◌, List, [], ◌∷◌, length, map, Option, None, refl, sym, ◌∙◌, ap, inl, inr}
use Rattle.std.proofs.lemmas.Bool.{and_right, cases_eq, ne_eqb}
use Rattle.std.specs.Prelude.{is_none}
use Rattle.std.specs.List.{AllByRecursion}
use Rattle.std.proofs.lemmas.List.Elements.{recursion_from_All}
use Rattle.model.specs.Messages.{Item}
use Rattle.model.specs.Messages.Item.{Content}
use Rattle.model.specs.Frames.{Frame, is_ack, ends_stream, content}
use Rattle.model.specs.Setup.{Setup}
use Rattle.model.specs.Tapes.{Noted}
use Rattle.model.specs.Tapes.Entry.{Came}
use Rattle.model.specs.Decoding.{Partial}
use Rattle.model.specs.Errors.{Fault}
use Rattle.model.specs.Streams.{frame_items}
use Rattle.model.specs.SettingValues.{settings_in, settings_fault, initial_window_after}
use Rattle.model.specs.WindowsOnTape.{increment}
use Rattle.model.specs.Lifetimes.{opens_by, ends_by}
use Rattle.model.specs.Courses.{cause_of_frame, interrupts}
use Rattle.model.specs.Causes.{cause_if}
use Rattle.model.specs.Causes.Cause.{LargeBody}
use Rattle.model.specs.ErrorClause.{is_fatal}
use Rattle.theory_errors.specs.Summary.{Outline, carried_in, Stream as Kept, Summary}
use Rattle.theory_errors.specs.Judging.{is_active_in, completed_in, continuations_in, shifts_past_in, fault_for}
use Rattle.theory_errors.specs.Owing.{fault_in, new_cause_in, items_in}
use Rattle.theory_errors.specs.After.{begun_after, is_sound, grant, kept_behind}
use Rattle.theory_errors.specs.Rows.{Row, Slot, kept_in, slot_of, over_kept, row_behind, row_opened, rows_after}
use Rattle.theory_errors.specs.Rows.Slot.{Live, Over}
use Rattle.theory_errors.specs.Book.{Book, summary_in}
use Rattle.theory_errors.specs.Tidy.{IsSteady, IsTidy, IsRow, AreKept}
use Rattle.theory_errors.proofs.Elsewhere.{row_stays, kept_same, course_same, none_more, none_less, over_again}
use Rattle.theory_errors.proofs.Idle.{no_cause_if}
use Rattle.theory_errors.proofs.Quiet.{same_book}
use Rattle.streams.proofs.Searches.{IsFound, all_found}
use Rattle.connection_state.specs.Fragments.{IsFragment, noted_behind}

-- the book in which a frame with a fragment was heard, with these rows
abbrev pub heard_with : Book → Frame → List Row → Book
heard_with b frame rows = record b {
  has_come = true;
  block = begun_after b.block frame;
  continuations = continuations_in b.continuations frame;
  rows = rows;
  last = frame.id;
  ends = false;
}

-- ---- the rows

module _ (setup : Setup) (b : Book) (noted : Noted) (mild : (outline : Outline) → is_fatal (fault_for outline (summary_in b) (Came noted)) ≡ false) where
  abbrev s : Summary
  s = summary_in b

  abbrev frame : Frame
  frame = noted.frame

  -- Each row stays but that of the frame's stream, of which this is known.
  pub rows_left : (f : Row → Row) → AreKept b.rows
      → ((row : Row) → IsRow row → IsFound b.rows row → row.id ≡ frame.id → row_behind setup false s (Came noted) row ≡ f row)
      → ((row : Row) → (row.id ≡ frame.id → ⊥) → f row ≡ row)
      → map (row_behind setup false s (Came noted)) b.rows ≡ map f b.rows
  rows_left f kept own others = each b.rows kept (recursion_from_All (IsFound b.rows) b.rows (all_found b.rows kept))
    where
      one : (row : Row) → IsRow row → IsFound b.rows row → row_behind setup false s (Came noted) row ≡ f row
      one row is found = elim (cases_eq row.id frame.id) [
        | inl same ↦ own row is found same
        | inr apart ↦ row_stays setup false s (Came noted) row is (ne_eqb frame.id row.id (λ same. apart (sym same)), mild (kept_in row.slot).outline) ∙ sym (others row apart)
      ]

      each : (rs : List Row) → AreKept rs → AllByRecursion (IsFound b.rows) rs → map (row_behind setup false s (Came noted)) rs ≡ map f rs
      each [] kept found = refl
      each (row ∷ rs) kept found = ap (λ (r : Row). r ∷ map (row_behind setup false s (Came noted)) rs) (one row kept.0 found.0) ∙ ap (λ (xs : List Row). f row ∷ xs) (each rs kept.2 found.1)

-- ---- a frame with which a block goes on

module _ (setup : Setup) (s : Summary) (noted : Noted) (of : IsFragment noted.frame) (none : completed_in s.block noted.frame ≡ None) (faultless : (outline : Outline) → fault_for outline s (Came noted) ≡ None) where
  abbrev part : Frame
  part = noted.frame

  -- it brings a stream nothing
  same_kept : (id : ℕ) (kept : Kept) → IsSteady kept.outline → kept_behind setup false s (Came noted) id kept ≡ kept
  same_kept id kept steady = kept_same kept (kept_behind setup false s (Came noted) id kept)
      (ap (λ (block : Option Partial). part.id == id && ends_by block part || kept.ended_by_client) none ∙ ap (λ x. part.id == id && (x && ends_stream part) || kept.ended_by_client) of.no_data ∙ ap (λ x. x || kept.ended_by_client) (and_right (part.id == id) false refl))
      refl
      (ap (λ x. x && part.id == id || kept.reset_by_client) of.no_reset)
      refl
      (none_more (is_sound s part) kept.balance (grant id part) (ap (λ x. if x && part.id == id then increment part else 0) of.no_update))
      (none_less kept.room _ (ap (λ x. if x && part.id == id then length part.payload else 0) of.no_data))
      refl
      (course_same setup false s (Came noted) id kept (fault_for kept.outline s (Came noted)) steady no_cause goes_on no_items)
    where
      no_cause : new_cause_in setup false id s (Came noted) kept.outline (fault_for kept.outline s (Came noted)) ≡ None
      no_cause =
          ap (λ (o : Option Fault). new_cause_in setup false id s (Came noted) kept.outline o) (faultless kept.outline)
          ∙ ap (λ (block : Option Partial). if part.id == id && nat_lt 0 id then cause_of_frame setup (carried_in kept.outline) block noted else None) none
          ∙ ap (λ x. if part.id == id && nat_lt 0 id then cause_if (x && nat_lt setup.max_body ((carried_in kept.outline).octets + length (content part))) LargeBody else None) of.no_data
          ∙ no_cause_if (part.id == id && nat_lt 0 id) None refl

      goes_on : interrupts id (Came noted) (fault_for kept.outline s (Came noted)) None ≡ false
      goes_on =
          ap (λ (o : Option Fault). interrupts id (Came noted) o None) (faultless kept.outline)
          ∙ ap (λ x. false || x && part.id == id || false) of.no_reset

      no_items : items_in id s (Came noted) ≡ []
      no_items =
          ap (λ (block : Option Partial). if part.id == id then frame_items block noted else []) none
          ∙ ap (λ x. if part.id == id then (if x then Content (content part) (ends_stream part) ∷ [] else []) else []) of.no_data
          ∙ empty (part.id == id)
        where
          empty : (x : Bool) → (let nothing : List Item = [] in if x then nothing else nothing) ≡ []
          empty true = refl
          empty false = refl

  same_slot : (id : ℕ) (slot : Slot) → IsTidy slot → slot_of (kept_behind setup false s (Came noted) id (kept_in slot)) ≡ slot
  same_slot id (Live kept) tidy = ap slot_of (same_kept id kept tidy.1) ∙ ap (λ x. if x then Over kept.reset_by_gateway else Live kept) tidy.0
  same_slot id (Over by_us) tidy = ap slot_of (same_kept id (over_kept by_us) (λ no_cause. refl)) ∙ over_again by_us

  same_rows : (rows : List Row) → AreKept rows → map (row_behind setup false s (Came noted)) rows ≡ rows
  same_rows [] kept = refl
  same_rows (row ∷ rows) kept =
      ap (λ (slot : Slot). record { id = row.id; slot = slot } ∷ map (row_behind setup false s (Came noted)) rows) (same_slot row.id row.slot kept.0.tidy) ∙ ap (λ (rs : List Row). row ∷ rs) (same_rows rows kept.2)

  -- So all rows stay.
  pub fragment_rows : (rows : List Row) → AreKept rows → rows_after setup false s (Came noted) rows ≡ rows
  fragment_rows rows kept =
      let all : List Row = map (row_behind setup false s (Came noted)) rows in
      ap (λ (block : Option Partial). if opens_by s.drained s.opened block noted.note then row_opened setup false s (Came noted) part.id ∷ all else all) none
      ∙ same_rows rows kept

-- ---- the book

-- All but the rows is as the frame leaves it.
pub fragment_book : (setup : Setup) (b : Book) (noted : Noted) (rows : List Row) → IsFragment noted.frame → rows_after setup false (summary_in b) (Came noted) b.rows ≡ rows → is_fatal (fault_in (summary_in b) (Came noted)) ≡ false
    → noted_behind setup b noted ≡ heard_with b noted.frame rows
fragment_book setup b noted rows of rows_are mild =
    let s : Summary = summary_in b in
    let frame : Frame = noted.frame in
    same_book (noted_behind setup b noted) (heard_with b frame rows) refl refl refl refl
    (ap (λ x. if is_sound s frame && (x && is_none (settings_fault frame.payload) && not (shifts_past_in (initial_window_after b.first_size (settings_in frame.payload)) s)) then initial_window_after b.first_size (settings_in frame.payload) else b.first_size) (ap (λ x. x && not (is_ack frame)) of.no_settings)
    ∙ ap (λ x. if x then initial_window_after b.first_size (settings_in frame.payload) else b.first_size) (and_right (is_sound s frame) false refl))
    (none_more (is_sound s frame) b.window (grant 0 frame) (ap (λ x. if x && frame.id == 0 then increment frame else 0) of.no_update))
    (none_less b.room _ (ap (λ x. if x && true then length frame.payload else 0) of.no_data))
    rows_are (ap (λ x. if x && is_active_in frame.id s then suc b.resets else b.resets) of.no_reset) mild
