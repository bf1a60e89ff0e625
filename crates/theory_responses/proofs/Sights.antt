-- What is read of a summary is right of its tape, and so is what is read of a book, as long as the connection goes on.
use Rattle.std.proofs.Common.{◌≡◌, ℕ, Bool, true, false, not, ◌&&◌, List, [], refl, sym, ap, ◌∙◌, subst}
use Rattle.std.proofs.lemmas.Bool.{and_parts, not-true}
use Rattle.model.specs.Messages.{Item}
use Rattle.model.specs.Malformed.{is_begun}
use Rattle.model.specs.Tapes.{Entry}
use Rattle.model.specs.Known.{Known}
use Rattle.model.specs.Lifetimes.{may_open, is_opened, is_over, is_active}
use Rattle.model.specs.WindowsOnTape.{first_size}
use Rattle.theory_errors.specs.Summary.{Stream as Kept, Summary, stream_of, summary_of}
use Rattle.theory_errors.specs.Judging.{is_over_in, window_in}
use Rattle.theory_errors.specs.Rows.{fresh, Row, find, with_streams, StandFor}
use Rattle.theory_errors.specs.Rule.{Move, Point, tape_of, point_of, AreKnown}
use Rattle.theory_errors.specs.Book.{summary_in, ledger_of, AllMoved}
use Rattle.theory_errors.proofs.Rule.{point_same}
use Rattle.theory_errors.proofs.RowsKept.{will_do}
use Rattle.theory_errors.proofs.Book.{has_kept}
use Rattle.theory_errors.specs.Told.{IsTold}
use Rattle.theory_responses.specs.Sight.{IsRightOf, sight_in}

-- items that begin with one aren't none
some_begun : (items : List Item) → is_begun items ≡ true → items ≡ [] → ⊥
some_begun items begun none = let clash : false ≡ true = sym (ap is_begun none) ∙ begun in cc

-- nothing was said of a stream that may be opened yet
abbrev AreIdle : Summary → Type 0
AreIdle s = s.ends ≡ false → (id : ℕ) → may_open s.drained s.opened id ≡ true → s.stream id ≡ fresh

-- the summary of a tape
of_summary : (known : Known) (t : List Entry) → AreIdle (summary_of known t) → IsRightOf known t (sight_in (summary_of known t))
of_summary known t idle = record {
  opened = λ id. refl;
  active = λ id. refl;
  ended = λ id on. refl;
  cause = λ id on. refl;
  new = λ goes_on id may. let none = ap (λ (kept : Kept). kept.outline.cause) (idle goes_on id may) in (none, none);
  room = λ goes_on id may. ap (λ (kept : Kept). kept.room) (idle goes_on id may);
  has_items = λ id on some. some_begun _ some;
  own = λ id on. refl;
  shared = refl;
  untaken = refl;
  given = refl;
  last = refl;
  block = refl;
  ends = refl;
}

-- with the streams that rows stand for
module _ (known : Known) (t : List Entry) (rows : List Row) (stand : StandFor rows (summary_of known t)) where
  -- an active stream's row is all of it
  row_is : (id : ℕ) → is_active id t ≡ true → find rows id ≡ stream_of known t id
  row_is id on =
      let parts = and_parts (is_opened id t) (not (is_over id t)) on in
      (stand.alike id parts.0).live (not-true (is_over id t) parts.1)

  -- whether it is active
  active_told : (id : ℕ) → (is_opened id t && not (is_over_in (find rows id))) ≡ is_active id t
  active_told id = by (is_opened id t) refl
    where
      by : (b : Bool) → is_opened id t ≡ b → (b && not (is_over_in (find rows id))) ≡ (b && not (is_over id t))
      by false e = refl
      by true e = ap (λ x. not x) (stand.alike id e).over

  of_rows : IsRightOf known t (sight_in (with_streams (find rows) (summary_of known t)))
  of_rows = record {
    opened = λ id. refl;
    active = active_told;
    ended = λ id on. ap (λ (kept : Kept). kept.ended_by_client) (row_is id on);
    cause = λ id on. ap (λ (kept : Kept). kept.outline.cause) (row_is id on);
    new = λ goes_on id may. (
      ap (λ (kept : Kept). kept.outline.cause) ((will_do rows (summary_of known t) stand).idle id may ∙ stand.idle id may),
      ap (λ (kept : Kept). kept.outline.cause) (stand.idle id may),
    );
    room = λ goes_on id may. ap (λ (kept : Kept). kept.room) (stand.idle id may);
    has_items = λ id on some. some_begun _ (sym (ap (λ (kept : Kept). kept.outline.begun) (row_is id on)) ∙ some);
    own = λ id on. ap (λ (kept : Kept). window_in (first_size t) kept) (row_is id on);
    shared = refl;
    untaken = refl;
    given = refl;
    last = refl;
    block = refl;
    ends = refl;
  }

-- ---- runs of moves of `theory_errors`

-- nothing was said of idle streams, as long as the connection goes on
idle_so : (known : Known) (moves : List Move) → AreKnown known moves → AllMoved known.setup moves → AreIdle (summary_of known (tape_of moves))
idle_so known moves knows all = subst (λ (p : Point). AreIdle p.summary) (point_same known moves knows) (λ goes_on id may. ((has_kept known.setup moves all).tells.told goes_on).stand.idle id may)

-- What is read of the summary behind moves is right of their tape.
pub right_by_summary : (known : Known) (moves : List Move) → AreKnown known moves → AllMoved known.setup moves → IsRightOf known (tape_of moves) (sight_in (point_of known.setup moves).summary)
right_by_summary known moves knows all =
    subst (λ (p : Point). IsRightOf known (tape_of moves) (sight_in p.summary)) (sym (point_same known moves knows)) (of_summary known (tape_of moves) (idle_so known moves knows all))

-- So is what is read of the book, as long as the connection goes on.
pub right_by_book : (known : Known) (moves : List Move) → AreKnown known moves → AllMoved known.setup moves → (ledger_of known.setup moves).book.ends ≡ false → IsRightOf known (tape_of moves) (sight_in (summary_in (ledger_of known.setup moves).book))
right_by_book known moves knows all goes_on =
    let tells = (has_kept known.setup moves all).tells in
    let told : IsTold (ledger_of known.setup moves).book (summary_of known (tape_of moves)) =
    subst (λ (p : Point). IsTold (ledger_of known.setup moves).book p.summary) (point_same known moves knows) (tells.told (sym tells.ends ∙ goes_on)) in
    subst (λ (s : Summary). IsRightOf known (tape_of moves) (sight_in s)) (sym told.same) (of_rows known (tape_of moves) (ledger_of known.setup moves).book.rows told.stand)
