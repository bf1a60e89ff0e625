-- An entry about a stream leaves what is told of all others, and so what is on offer for them and what is held of their requests.
use Rattle.std.proofs.Common.{◌≡◌, ℕ, Bool, true, false, not, ◌&&◌, ◌||◌, ◌==◌, if◌then◌else◌, List, [], ◌∷◌, map, Option, Some, None, refl, sym, ◌∙◌, ap}
use Rattle.std.proofs.lemmas.Bool.{eqb-true}
use Rattle.std.specs.Prelude.{is_none}
use Rattle.std.specs.List.{list_any}
use Rattle.model.specs.Setup.{Setup}
use Rattle.model.specs.Tapes.{Noted}
use Rattle.model.specs.Tapes.Entry.{Came}
use Rattle.model.specs.Lifetimes.{opens_by}
use Rattle.model.specs.Errors.{Fault, or_else, first_of}
use Rattle.model.specs.Errors.Fault.{Stream}
use Rattle.model.specs.FrameErrors.{fault_if}
use Rattle.model.specs.ErrorClause.{is_fatal}
use Rattle.theory_errors.specs.Summary.{Stream as Kept, Outline, Summary}
use Rattle.theory_errors.specs.Judging.{is_over_in, is_active_in, completed_in, rows_in, fault_for}
use Rattle.theory_errors.specs.Owing.{fault_in}
use Rattle.theory_errors.specs.Rows.{Row, ids_of, find, kept_in, row_behind, row_opened}
use Rattle.theory_errors.specs.Book.{Book, summary_in, book_after}
use Rattle.theory_errors.specs.Tidy.{IsRow, AreKept}
use Rattle.theory_errors.proofs.Elsewhere.{row_stays}
use Rattle.refinement.specs.Others.{SameOf}

-- ---- faults of a frame

same_or : (rows : Option Fault) (a b : Bool) (code : ℕ) → is_fatal (or_else rows (fault_if a (Stream code))) ≡ is_fatal (or_else rows (fault_if b (Stream code)))
same_or (Some fault) a b code = refl
same_or None true true code = refl
same_or None true false code = refl
same_or None false true code = refl
same_or None false false code = refl

-- whether it is an error of the connection doesn't depend on the course of a stream
pub fatal_for : (s : Summary) (noted : Noted) (a b : Outline) → is_fatal (fault_for a s (Came noted)) ≡ is_fatal (fault_for b s (Came noted))
fatal_for s noted a b = same_or (first_of (rows_in s noted)) _ _ _

-- ---- rows

-- a change that leaves the rows of a stream leaves what is found of it
find_same : (f : Row → Row) (other : ℕ) → ((row : Row) → (f row).id ≡ row.id) → ((row : Row) → IsRow row → (row.id == other) ≡ true → f row ≡ row) → (rows : List Row) → AreKept rows → find (map f rows) other ≡ find rows other
find_same f other ids stays [] kept = refl
find_same f other ids stays (row ∷ rows) kept = by (row.id == other) refl (find_same f other ids stays rows kept.2)
  where
    by : (b : Bool) → (row.id == other) ≡ b → find (map f rows) other ≡ find rows other → (if (f row).id == other then kept_in (f row).slot else find (map f rows) other) ≡ (if row.id == other then kept_in row.slot else find rows other)
    by true e rest = ap (λ (r : Row). if r.id == other then kept_in r.slot else find (map f rows) other) (stays row kept.0 e) ∙ ap (λ b. if b then kept_in row.slot else find (map f rows) other) e ∙ sym (ap (λ b. if b then kept_in row.slot else find rows other) e)
    by false e rest = ap (λ n. if n == other then kept_in (f row).slot else find (map f rows) other) (ids row) ∙ ap (λ b. if b then kept_in (f row).slot else find (map f rows) other) e ∙ rest ∙ sym (ap (λ b. if b then kept_in row.slot else find rows other) e)

ids_same : (f : Row → Row) → ((row : Row) → (f row).id ≡ row.id) → (rows : List Row) → ids_of (map f rows) ≡ ids_of rows
ids_same f ids [] = refl
ids_same f ids (row ∷ rows) = ap (λ n. n ∷ ids_of (map f rows)) (ids row) ∙ ap (λ (ns : List ℕ). row.id ∷ ns) (ids_same f ids rows)

-- ---- what is told of another stream

module _ (setup : Setup) (book : Book) (noted : Noted) (mild : is_fatal (fault_in (summary_in book) (Came noted)) ≡ false) (kept : AreKept book.rows) where
  abbrev changed : Row → Row
  changed = row_behind setup false (summary_in book) (Came noted)

  stays : (other : ℕ) → (noted.frame.id == other) ≡ false → (row : Row) → IsRow row → (row.id == other) ≡ true → changed row ≡ row
  stays other apart row is here =
      row_stays setup false (summary_in book) (Came noted) row is (
        ap (λ n. noted.frame.id == n) (eqb-true row.id other here) ∙ apart,
        fatal_for (summary_in book) noted (kept_in row.slot).outline (find book.rows noted.frame.id).outline ∙ mild,
      )

  changed_same : (other : ℕ) → (noted.frame.id == other) ≡ false → find (map changed book.rows) other ≡ find book.rows other
  changed_same other apart = find_same changed other (λ row. refl) (stays other apart) book.rows kept

  -- A frame that is no error of the connection leaves what is told of every other stream.
  pub others_stay : (other : ℕ) → (noted.frame.id == other) ≡ false → SameOf book (book_after setup false book (Came noted)) other
  others_stay other apart = by (opens_by book.drained (ids_of book.rows) (completed_in book.block noted.frame) noted.note)
    where
      opened : Row
      opened = row_opened setup false (summary_in book) (Came noted) noted.frame.id

      by : (b : Bool) → SameOf book (record (book_after setup false book (Came noted)) { rows = if b then opened ∷ map changed book.rows else map changed book.rows }) other
      by false = record { opened = ap (λ (ns : List ℕ). list_any (λ id. id == other) ns) (ids_same changed (λ row. refl) book.rows); kept = changed_same other apart }
      by true = record {
        opened = ap (λ b. b || list_any (λ id. id == other) (ids_of (map changed book.rows))) apart ∙ ap (λ (ns : List ℕ). list_any (λ id. id == other) ns) (ids_same changed (λ row. refl) book.rows);
        kept = ap (λ b. if b then kept_in opened.slot else find (map changed book.rows) other) apart ∙ changed_same other apart;
      }

-- whether it is active, and why the gateway replies to it
pub active_stays : (before behind : Book) (other : ℕ) → SameOf before behind other → is_active_in other (summary_in behind) ≡ is_active_in other (summary_in before)
active_stays before behind other same =
    ap (λ b. b && not (is_over_in (find behind.rows other))) same.opened ∙ ap (λ (k : Kept). list_any (λ id. id == other) (ids_of before.rows) && not (is_over_in k)) same.kept

pub served_stays : (before behind : Book) (other : ℕ) → SameOf before behind other → (is_active_in other (summary_in behind) && is_none (find behind.rows other).outline.cause) ≡ (is_active_in other (summary_in before) && is_none (find before.rows other).outline.cause)
served_stays before behind other same =
    ap (λ b. b && is_none (find behind.rows other).outline.cause) (active_stays before behind other same) ∙ ap (λ (k : Kept). is_active_in other (summary_in before) && is_none k.outline.cause) same.kept
