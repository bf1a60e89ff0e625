use Rattle.std.proofs.Common.{◌≡◌, List, sym, subst}
use Rattle.model.specs.Setup.{Setup}
use Rattle.model.specs.Known.{Known}
use Rattle.model.specs.ErrorClause.{ErrorsHold}
use Rattle.theory_errors.specs.Rule.{Move, tape_of, AreKnown}
use Rattle.theory_errors.specs.Book.{Rests, ledger_of, AllMoved}
use Rattle.theory_errors.proofs.Book.{errors_hold_by_book, blocks_are_whole, conducted_by_book, owed_by_book, ends_by_book}
use Rattle.theory_errors.proofs.Knowing.{known_so}
use Rattle.theory_errors.proofs.errors_hold.Goals as goal

-- the setup is the one that is known
by_setup : (setup : Setup) (known : Known) (moves : List Move) → known.setup ≡ setup → AreKnown known moves → AllMoved setup moves → Rests (ledger_of setup moves) → ErrorsHold known (tape_of moves)
by_setup setup known moves same knows all rests =
    errors_hold_by_book known moves knows (subst (λ (s : Setup). AllMoved s moves) (sym same) all) (subst (λ (s : Setup). Rests (ledger_of s moves)) (sym same) rests)

pub returns-clause-holds : goal.returns-clause-holds
returns-clause-holds c = by_setup

pub returns-clause-known : goal.returns-clause-known
returns-clause-known c = known_so

pub returns-clause-whole : goal.returns-clause-whole
returns-clause-whole c = blocks_are_whole

pub returns-clause-conducted : goal.returns-clause-conducted
returns-clause-conducted c = conducted_by_book

pub returns-clause-owed : goal.returns-clause-owed
returns-clause-owed c = owed_by_book

pub returns-clause-ends : goal.returns-clause-ends
returns-clause-ends c = ends_by_book
