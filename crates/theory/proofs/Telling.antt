-- What is told behind moves is so of their tape.
use Rattle.std.proofs.Common.{◌≡◌, false, List, [], ◌∷◌, sym, ◌∙◌, ap, subst, inl, inr, if◌then◌else◌}
use Rattle.std.proofs.lemmas.Bool.{cases_Bool}
use Rattle.model.specs.Tapes.{Noted, is_closed}
use Rattle.model.specs.Known.{Known}
use Rattle.model.specs.Lifetimes.{active}
use Rattle.model.specs.ErrorClause.{must_end}
use Rattle.theory_errors.specs.Summary.{Summary, summary_of}
use Rattle.theory_errors.specs.Rows.{find}
use Rattle.theory_errors.specs.Rule.{AreKnown, Point, point_of}
use Rattle.theory_errors.specs.Book.{Book, ledger_of, summary_in, AllMoved}
use Rattle.theory_errors.specs.Told as theory_errors
use Rattle.theory_errors.specs.Judging.{active_in}
use Rattle.theory_errors.specs.Owing.{must_end_in}
use Rattle.theory_errors.proofs.Telling.{book_told}
use Rattle.theory_errors.proofs.Rule.{point_same}
use Rattle.theory_errors.proofs.RowsKept.{will_do}
use Rattle.theory_errors.proofs.Alike.{active_same}
use Rattle.theory_errors.proofs.Seen.{end_seen}
use Rattle.theory_responses.specs.Sight.{IsRightOf, sight_in}
use Rattle.theory_responses.proofs.Sights.{right_by_summary, right_by_book}
use Rattle.theory_requests.specs.Told as theory_requests
use Rattle.theory_requests.proofs.Sources.{served_by_parts}
use Rattle.theory_header_tables.specs.Kept.{IsJudged}
use Rattle.theory_header_tables.specs.Verdicts.{verdict_in}
use Rattle.theory_header_tables.proofs.Judging.{verdict_right, verdict_by_book}
use Rattle.theory.specs.Moves.{Move, told_in}
use Rattle.theory.specs.Moves.Move.{Does, Settles}
use Rattle.theory.specs.State.{conducts, tape_of, summary_at}
use Rattle.theory.specs.Rule.{AllAllowed}

-- the moves of `theory_errors` came by its rule
pub all_moved : (known : Known) (run : List Move) → AllAllowed known.setup run → AllMoved known.setup (conducts run)
all_moved known [] all = tt
all_moved known (Does d ∷ run) all = (all_moved known run all.0, all.1.conduct)
all_moved known (Settles ∷ run) all = all_moved known run all

module _ (known : Known) (run : List Move) (knows : AreKnown known (conducts run)) (all : AllMoved known.setup (conducts run)) where
  -- what the book is before the connection is to end, and what follows from the moves
  abbrev book : Book
  book = (ledger_of known.setup (conducts run)).book

  abbrev by_moves : Summary
  by_moves = (point_of known.setup (conducts run)).summary

  pub moves_same : by_moves ≡ summary_of known (tape_of run)
  moves_same = ap (λ (p : Point). p.summary) (point_same known (conducts run) knows)

  -- a statement of what is told holds where it does of both
  pub told_by : (P : Summary → Type 0) → (book.ends ≡ false → P (summary_in book)) → P by_moves → P (summary_at known.setup run)
  told_by P of_book of_moves = elim (cases_Bool book.ends) [
    | inl ends ↦ subst P (sym (ap (λ b. if b then by_moves else summary_in book) ends)) of_moves
    | inr goes_on ↦ subst P (sym (ap (λ b. if b then by_moves else summary_in book) goes_on)) (of_book goes_on)
  ]

  -- what is read of it is right
  pub sight_right : IsRightOf known (tape_of run) (sight_in (summary_at known.setup run))
  sight_right = told_by (λ s. IsRightOf known (tape_of run) (sight_in s)) (right_by_book known (conducts run) knows all) (right_by_summary known (conducts run) knows all)

  -- whether the connection is to end, and whether it was closed
  end_told : must_end_in (summary_at known.setup run) ≡ must_end known (tape_of run)
  end_told = told_by (λ s. must_end_in s ≡ must_end known (tape_of run)) of_book (ap must_end_in moves_same)
    where
      of_book : book.ends ≡ false → must_end_in (summary_in book) ≡ must_end known (tape_of run)
      of_book goes_on =
          let told : theory_errors.IsTold book (summary_of known (tape_of run)) = book_told known (conducts run) knows all goes_on in
          ap must_end_in told.same ∙ end_seen known.setup false (find book.rows) (summary_of known (tape_of run)) (will_do book.rows (summary_of known (tape_of run)) told.stand) told.stand.few

  pub closed_told : (summary_at known.setup run).closed ≡ is_closed (tape_of run)
  closed_told = told_by (λ s. s.closed ≡ is_closed (tape_of run)) (λ goes_on. ap (λ (s : Summary). s.closed) (book_told known (conducts run) knows all goes_on).same) (ap (λ (s : Summary). s.closed) moves_same)

  -- which streams are active, in their order
  pub live_told : active_in (summary_at known.setup run) ≡ active (tape_of run)
  live_told = told_by (λ s. active_in s ≡ active (tape_of run)) of_book (ap active_in moves_same)
    where
      of_book : book.ends ≡ false → active_in (summary_in book) ≡ active (tape_of run)
      of_book goes_on =
          let told : theory_errors.IsTold book (summary_of known (tape_of run)) = book_told known (conducts run) knows all goes_on in
          ap active_in told.same ∙ active_same (find book.rows) (summary_of known (tape_of run)) (will_do book.rows (summary_of known (tape_of run)) told.stand)

  -- so the concern of requests is told what is so
  pub told_right : theory_requests.IsTold known (tape_of run) (told_in (summary_at known.setup run))
  told_right = record {
    served = λ stream. served_by_parts known (tape_of run) (sight_in (summary_at known.setup run)).active (sight_in (summary_at known.setup run)).cause sight_right.active sight_right.cause stream;
    ends = end_told;
    closed = closed_told;
  }

  -- and the verdict on a frame is that of the error table
  pub verdict_told : (noted : Noted) → IsJudged (tape_of run) noted (verdict_in (summary_at known.setup run) noted.frame)
  verdict_told noted =
      told_by (λ s. IsJudged (tape_of run) noted (verdict_in s noted.frame))
      (λ goes_on. verdict_by_book known (tape_of run) book (book_told known (conducts run) knows all goes_on) noted)
      (subst (λ (s : Summary). IsJudged (tape_of run) noted (verdict_in s noted.frame)) (sym moves_same) (verdict_right known (tape_of run) noted))
