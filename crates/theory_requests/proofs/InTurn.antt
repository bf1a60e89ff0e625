-- Something comes in only where the step might end: so the clauses hold before each thing that comes in.
use Rattle.std.proofs.Common.{◌≡◌, true, false, List, [], ◌∷◌, sym, ◌∙◌}
use Rattle.model.specs.Known.{Known}
use Rattle.model.specs.Headline.{HoldsInTurn}
use Rattle.theory_requests.specs.Told.{Told}
use Rattle.theory_requests.specs.State.{State, Move, entry_of, Turn, state_of, tape_of}
use Rattle.theory_requests.specs.State.Move.{Takes, Begins, Gathers, Passes, Drops, Breaks, Notes, Hears, Fails, Sends, Acts}
use Rattle.theory_requests.specs.Rule.{MayCome, MayMove, told_of, AreAllowed, Rests}
use Rattle.theory_requests.specs.Meaning.{AreSo, KeepClauses}
use Rattle.theory_requests.proofs.Clauses.{clauses_hold}

-- where something may come in, the step might end
pub comes_at_rest : (told : Told) (s : State) → MayCome told s → Rests told s
comes_at_rest told s come = record { nothing = come.nothing; none_done = come.none_done; ended = λ ends. absurd (let no : true ≡ false = sym ends ∙ come.goes_on in cc) }

module _ (known : Known) (turns : List Turn) (at : Rests (told_of turns) (state_of known.setup turns) → KeepClauses known (tape_of turns)) (before : HoldsInTurn (KeepClauses known) (tape_of turns)) where
  -- what holds where something comes in
  here : MayCome (told_of turns) (state_of known.setup turns) → KeepClauses known (tape_of turns)
  here come = at (comes_at_rest (told_of turns) (state_of known.setup turns) come)

  -- one move more
  one_more : (behind : Told) (m : Move) → MayMove known.setup (told_of turns) behind (state_of known.setup turns) m → HoldsInTurn (KeepClauses known) (entry_of m ∷ tape_of turns)
  one_more behind (Takes noted) may = (here may, before)
  one_more behind (Begins noted head ended route text stage) may = (here may.0, before)
  one_more behind (Gathers noted item route text old body written stage) may = (here may.0, before)
  one_more behind (Passes noted item k old written stage) may = (here may.0, before)
  one_more behind (Drops noted item) may = (here may.0, before)
  one_more behind (Breaks breach) may = (here may, before)
  one_more behind (Notes event) may = (here may.0, before)
  one_more behind (Hears event heard) may = (here may.0, before)
  one_more behind (Fails k) may = (here may.0, before)
  one_more behind (Sends noted) may = before
  one_more behind (Acts act) may = before

-- The clauses hold before each thing that comes in.
pub clauses_in_turn : (known : Known) (turns : List Turn) → AreAllowed known.setup turns → AreSo known turns → HoldsInTurn (KeepClauses known) (tape_of turns)
clauses_in_turn known [] all so = tt
clauses_in_turn known (turn ∷ turns) all so =
    one_more known turns (clauses_hold known turns all.0 so.0) (clauses_in_turn known turns all.0 so.0) turn.told turn.move all.1.may
