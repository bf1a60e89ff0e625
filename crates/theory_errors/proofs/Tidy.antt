-- Rows hold what they should behind any entries; and a connection that rests and isn't closed goes on.
use Rattle.std.proofs.Common.{◌≡◌, ℕ, ◌%◌, Bool, true, false, ◌&&◌, ◌==◌, nat_lt, if◌then◌else◌, List, [], ◌∷◌, map, length, refl, sym, ◌∙◌, ap, not}
use Rattle.std.proofs.lemmas.Bool.{and_parts, or_parts}
use Rattle.std.specs.List.{list_any, list_all}
use Rattle.model.specs.Setup.{Setup}
use Rattle.model.specs.Tapes.{Entry}
use Rattle.model.specs.Tapes.Entry.{Came, Breached, Happened, Sent, Did}
use Rattle.model.specs.Limits.{most_streams}
use Rattle.model.specs.Lifetimes.{opens_by, may_open}
use Rattle.model.proofs.OpenedLaws.{none_equal, not_zero}
use Rattle.theory_errors.specs.Summary.{Summary}
use Rattle.theory_errors.specs.Judging.{completed_in, fault_for}
use Rattle.theory_errors.specs.Owing.{must_end_in}
use Rattle.theory_errors.specs.Rows.{Row, fresh, kept_in, ids_of, row_behind, row_opened}
use Rattle.theory_errors.specs.Rule.{Move}
use Rattle.theory_errors.specs.Book.{Book, Ledger, summary_in, book_after, ledger_of, Rests}
use Rattle.theory_errors.specs.Tidy.{is_above_all, AreKept}
use Rattle.theory_errors.proofs.Rows.{ids_changed}
use Rattle.theory_errors.proofs.RowsKept.{opens_own}
use Rattle.theory_errors.proofs.Elsewhere.{tidy_behind}

module _ (setup : Setup) (fails : Bool) (s : Summary) (e : Entry) where
  -- rows that are changed one at a time
  changed_kept : (rows : List Row) → AreKept rows → AreKept (map (row_behind setup fails s e) rows)
  changed_kept [] kept = tt
  changed_kept (row ∷ rows) kept = (
    record { tidy = tidy_behind setup fails s e row.id (kept_in row.slot) (fault_for (kept_in row.slot).outline s e); of_stream = kept.0.of_stream },
    ap (λ (ids : List ℕ). list_all (λ other. nat_lt other row.id) ids) (ids_changed setup fails s e rows) ∙ kept.1,
    changed_kept rows kept.2,
  )

  -- and a row more, above them
  opened_kept : (drained : Bool) (rows : List Row) (id : ℕ) → may_open drained (ids_of rows) id ≡ true → AreKept rows → AreKept (row_opened setup fails s e id ∷ map (row_behind setup fails s e) rows)
  opened_kept drained rows id may kept =
      let parts = and_parts (id % 2 == 1 && is_above_all id rows) (not drained && nat_lt (length (ids_of rows)) most_streams) may in
      let both = and_parts (id % 2 == 1) (is_above_all id rows) parts.0 in (
        record { tidy = tidy_behind setup fails s e id fresh (fault_for fresh.outline s e); of_stream = not_zero drained (ids_of rows) id may },
        ap (λ (ids : List ℕ). list_all (λ other. nat_lt other id) ids) (ids_changed setup fails s e rows) ∙ both.1,
        changed_kept rows kept,
      )

-- The rows behind any entry.
pub kept_behind_entry : (setup : Setup) (fails : Bool) (book : Book) (e : Entry) → AreKept book.rows → AreKept (book_after setup fails book e).rows
kept_behind_entry setup fails book (Came noted) kept = cases (opens_by book.drained (ids_of book.rows) (completed_in book.block noted.frame) noted.note) refl
  where
    cases : (b : Bool) → opens_by book.drained (ids_of book.rows) (completed_in book.block noted.frame) noted.note ≡ b
        → AreKept (if b then row_opened setup fails (summary_in book) (Came noted) noted.frame.id ∷ map (row_behind setup fails (summary_in book) (Came noted)) book.rows else map (row_behind setup fails (summary_in book) (Came noted)) book.rows)
    cases true is = opened_kept setup fails (summary_in book) (Came noted) book.drained book.rows noted.frame.id (opens_own book.drained (ids_of book.rows) book.block noted.frame noted.note is) kept
    cases false is = changed_kept setup fails (summary_in book) (Came noted) book.rows kept
kept_behind_entry setup fails book (Breached breach) kept = changed_kept setup fails (summary_in book) (Breached breach) book.rows kept
kept_behind_entry setup fails book (Happened event) kept = changed_kept setup fails (summary_in book) (Happened event) book.rows kept
kept_behind_entry setup fails book (Sent noted) kept = changed_kept setup fails (summary_in book) (Sent noted) book.rows kept
kept_behind_entry setup fails book (Did act) kept = changed_kept setup fails (summary_in book) (Did act) book.rows kept

-- The rows behind all moves.
pub ledger_kept : (setup : Setup) (moves : List Move) → AreKept (ledger_of setup moves).book.rows
ledger_kept setup [] = tt
ledger_kept setup (m ∷ moves) = kept_behind_entry setup m.fails (ledger_of setup moves).book m.entry (ledger_kept setup moves)

-- An id stands once.
pub stands_once : (row : Row) (rows : List Row) → AreKept (row ∷ rows) → list_any (λ other. other == row.id) (ids_of rows) ≡ false
stands_once row rows kept = none_equal (ids_of rows) row.id kept.1

-- ---- where a program rests

-- A connection that isn't closed goes on there.
pub goes_on_at_rest : (ledger : Ledger) → Rests ledger → ledger.book.closed ≡ false → must_end_in (summary_in ledger.book) ≡ false
goes_on_at_rest ledger rests on = cases (must_end_in (summary_in ledger.book)) refl
  where
    cases : (b : Bool) → must_end_in (summary_in ledger.book) ≡ b → must_end_in (summary_in ledger.book) ≡ false
    cases false is = is
    cases true is = absurd (let no : false ≡ true = sym on ∙ rests.ended is in cc)

-- Nothing that came in calls for its end.
pub nothing_ends : (ledger : Ledger) → Rests ledger → ledger.book.closed ≡ false → ledger.book.ends ≡ false
nothing_ends ledger rests on = (or_parts ledger.book.ends _ (goes_on_at_rest ledger rests on)).0
