-- What a part of a step comes to: moves that come by the rule, with their outputs, and where they lead.
use Rattle.std.specs.Prelude.{◌≡◌, List, [], ◌∷◌, ◌++◌}
use Rattle.model.specs.Logs.{Output}
use Rattle.model.specs.Setup.{Setup}
use Rattle.model.specs.Tapes.{Entry, put_entry}
use Rattle.theory.specs.Moves.{Move}
use Rattle.theory.specs.State.{State, tape_of}
use Rattle.theory.specs.Steps as theory
use Rattle.refinement.specs.View.{View, Pending, Leads}

-- outputs, and what entries put out behind them; both stand with the newest first
abbrev pub put_all : List Output → List Entry → List Output
put_all outputs [] = outputs
put_all outputs (e ∷ t) = put_entry (put_all outputs t) e

-- Moves behind a run lead on, and put this out.
pub record Segment (setup : Setup) (run : List Move) (s : State) (outputs : List Output) (new : View) (pending : Pending) (put_out : List Output) : Type 0 where
  pub moves : List Move
  pub state : State
  pub by_rule : theory.Leads setup s moves state
  pub leads : Leads setup (moves ++ run) new pending state
  pub puts : put_out ≡ put_all outputs (tape_of moves)

-- Wherever moves led to what was kept, with what was pending then, they lead on to what is kept now, with what is pending now, and these are the
-- outputs.
abbrev pub Performs : Setup → View → Pending → List Output → View → Pending → List Output → Type 0
Performs setup old pending outputs new pending' outputs' = (run : List Move) (s : State) → Leads setup run old pending s
    → Segment setup run s outputs new pending' outputs'
