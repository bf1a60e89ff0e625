-- What a book tells is what the tape tells that it was kept along, as long as nothing calls for the end.
use Rattle.std.proofs.Common.{◌≡◌, ℕ, Bool, true, false, ◌&&◌, List, refl, sym, ◌∙◌, ap, subst, inl}
use Rattle.model.specs.Frames.{Frame}
use Rattle.model.specs.Tapes.{Entry}
use Rattle.model.specs.Lifetimes.{is_active}
use Rattle.model.specs.Known.{Known}
use Rattle.model.specs.Courses.{fault}
use Rattle.theory_errors.specs.Summary.{Summary, summary_of, stream_of}
use Rattle.theory_errors.specs.Judging.{is_active_in, rows_before_block_in}
use Rattle.theory_errors.specs.Owing.{fault_in}
use Rattle.theory_errors.specs.After.{are_taken_in}
use Rattle.theory_errors.specs.Rows.{find, WillDo}
use Rattle.theory_errors.specs.Rule.{Move, Point, tape_of, AreKnown}
use Rattle.theory_errors.specs.Book.{Book, summary_in, ledger_of, AllMoved}
use Rattle.theory_errors.specs.Told.{IsTold}
use Rattle.theory_errors.proofs.Owed.{fault_same}
use Rattle.theory_errors.proofs.Alike.{when_active, before_seen, taken_seen}
use Rattle.theory_errors.proofs.Seen.{fault_seen, right_if_wanted}
use Rattle.theory_errors.proofs.RowsKept.{will_do}
use Rattle.theory_errors.proofs.Rule.{point_same}
use Rattle.theory_errors.proofs.Book.{HasKept, has_kept}

-- The book of moves that came by the rule tells what their tape leaves.
pub book_told : (known : Known) (moves : List Move) → AreKnown known moves → AllMoved known.setup moves → (ledger_of known.setup moves).book.ends ≡ false → IsTold (ledger_of known.setup moves).book (summary_of known (tape_of moves))
book_told known moves knows all on =
    let kept : HasKept known.setup moves = has_kept known.setup moves all in
    subst (λ (p : Point). IsTold (ledger_of known.setup moves).book p.summary) (point_same known moves knows) (kept.tells.told (sym kept.tells.ends ∙ on))

and_true : (b : Bool) → (b && true) ≡ b
and_true true = refl
and_true false = refl

module _ (known : Known) (t : List Entry) (book : Book) (told : IsTold book (summary_of known t)) where
  abbrev s : Summary
  s = summary_of known t

  will : WillDo (find book.rows) s
  will = will_do book.rows s told.stand

  -- which streams are active
  pub active_told : (id : ℕ) → is_active_in id (summary_in book) ≡ is_active id t
  active_told id =
      ap (is_active_in id) told.same
      ∙ sym (and_true (is_active_in id (record s { stream = find book.rows })))
      ∙ when_active (find book.rows) s will (λ kept. true) id
      ∙ and_true (is_active id t)

  -- all that is kept of those
  pub live_told : (id : ℕ) → is_active id t ≡ true → find book.rows id ≡ stream_of known t id
  live_told id active = right_if_wanted known.setup false (find book.rows) s will told.stand.few id (inl active)

  -- the fault of an entry
  pub fault_told : (e : Entry) → fault_in (summary_in book) e ≡ fault known t e
  fault_told e = ap (λ (x : Summary). fault_in x e) told.same ∙ fault_seen known.setup false (find book.rows) s will told.stand.few e ∙ fault_same known t e

  -- the rows that are judged before a header block is read
  pub before_told : (frame : Frame) → rows_before_block_in (summary_in book) frame ≡ rows_before_block_in s frame
  before_told frame = ap (λ (x : Summary). rows_before_block_in x frame) told.same ∙ before_seen (find book.rows) s will frame

  -- whether settings are taken
  pub taken_told : (frame : Frame) → are_taken_in (summary_in book) frame ≡ are_taken_in s frame
  taken_told frame = ap (λ (x : Summary). are_taken_in x frame) told.same ∙ taken_seen (find book.rows) s will frame
