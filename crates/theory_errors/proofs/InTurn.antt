-- Something comes in only where the program rests: so what holds there holds before each thing that comes in.
use Rattle.std.proofs.Common.{◌≡◌, true, false, List, [], ◌∷◌, sym, ◌∙◌}
use Rattle.model.specs.Tapes.{Entry}
use Rattle.model.specs.Tapes.Entry.{Came, Breached, Happened, Sent, Did}
use Rattle.model.specs.Known.{Known}
use Rattle.model.specs.Headline.{HoldsInTurn}
use Rattle.theory_errors.specs.Rule.{Move, MayComeIn, IsInTurn, tape_of, AreKnown}
use Rattle.theory_errors.specs.Book.{Ledger, as_point, ledger_of, AllMoved, Rests}
use Rattle.theory_errors.specs.InTurn.{KeepErrors}
use Rattle.theory_errors.proofs.Book.{errors_hold_by_book, blocks_are_whole}

-- where something may come in, the program rests
pub comes_at_rest : (ledger : Ledger) → MayComeIn (as_point ledger) → Rests ledger
comes_at_rest ledger may = record { nothing = may.nothing; none_begun = may.none_begun; ended = λ ends. absurd (let no : true ≡ false = sym ends ∙ may.goes_on in cc) }

-- what holds at rest
keeps : (known : Known) (moves : List Move) → AreKnown known moves → AllMoved known.setup moves → Rests (ledger_of known.setup moves) → KeepErrors known (tape_of moves)
keeps known moves knows all rests = record { errors = errors_hold_by_book known moves knows all rests; none_begun = blocks_are_whole known moves knows all rests }

-- one entry more
one_more : (known : Known) (moves : List Move) (e : Entry) → IsInTurn (as_point (ledger_of known.setup moves)) e → (Rests (ledger_of known.setup moves) → KeepErrors known (tape_of moves)) → HoldsInTurn (KeepErrors known) (tape_of moves) → HoldsInTurn (KeepErrors known) (e ∷ tape_of moves)
one_more known moves (Came noted) may at before = (at (comes_at_rest (ledger_of known.setup moves) may), before)
one_more known moves (Breached breach) may at before = (at (comes_at_rest (ledger_of known.setup moves) may), before)
one_more known moves (Happened event) may at before = (at (comes_at_rest (ledger_of known.setup moves) may), before)
one_more known moves (Sent noted) may at before = before
one_more known moves (Did act) may at before = before

-- It holds before each thing that comes in.
pub errors_in_turn : (known : Known) (moves : List Move) → AreKnown known moves → AllMoved known.setup moves → HoldsInTurn (KeepErrors known) (tape_of moves)
errors_in_turn known [] knows all = tt
errors_in_turn known (m ∷ moves) knows all = one_more known moves m.entry all.1.allowed.turn (keeps known moves knows.0 all.0) (errors_in_turn known moves knows.0 all.0)
