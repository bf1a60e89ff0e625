-- Parts that begin in their turn by what is read begin so by the tape.
use Rattle.std.proofs.Common.{List, [], ◌∷◌, subst}
use Rattle.std.specs.Prelude.{ℕ, Some}
use Rattle.model.specs.Tapes.{Entry}
use Rattle.model.specs.Tapes.Entry.{Came, Breached, Happened, Sent, Did}
use Rattle.model.specs.Known.{Known}
use Rattle.model.specs.Turns.{IsNextTurn}
use Rattle.theory_responses.specs.State.{State, entry_of, state_of}
use Rattle.theory_responses.specs.Policy.{windows_on}
use Rattle.theory_responses.specs.Sight.{Sight, IsRightOf, windows_in}
use Rattle.theory_responses.specs.Rule.{Seen, moves_of, tape_of, sight_of, AllMayCome, AreRight, AreTold}
use Rattle.theory_responses.proofs.Offering.{Offering}
use Rattle.theory_responses.proofs.Windows.{ready_same}
use Rattle.theory_responses.proofs.Allowing.{last_right, placed}
use Rattle.theory_header_tables.specs.Turns.{MayBegin, MayBeginIf, AllBegan, EachBegan}

module _ (known : Known) (t : List Entry) (s : State) (h : Offering known t s) (sight : Sight) (right : IsRightOf known t sight) where
  began_by : (id : ℕ) → MayBegin (windows_in sight) s id → MayBegin (windows_on t) s id
  began_by id may = record { none_cut = may.none_cut; turn = subst (λ ids. IsNextTurn s.last ids (Some id)) (ready_same known t s h sight right) may.turn }

  one_began : (e : Entry) → MayBeginIf (windows_in sight) s e → MayBeginIf (windows_on t) s e
  one_began (Sent noted) may = λ begins. began_by noted.frame.id (may begins)
  one_began (Came noted) may = tt
  one_began (Breached breach) may = tt
  one_began (Happened event) may = tt
  one_began (Did act) may = tt

pub each_began : (known : Known) (run : List Seen) → AllMayCome run → AreRight known run → AreTold known run → AllBegan run → EachBegan (moves_of run)
each_began known [] may right told began = tt
each_began known (x ∷ run) may right told began = (
  each_began known run may.0 right.0 told.0 began.0,
  one_began known (tape_of run) (state_of (moves_of run)) (placed known run may.0 right.0 told.0).1.offering (sight_of run) (last_right known run right.0) (entry_of x.move) began.1,
)
