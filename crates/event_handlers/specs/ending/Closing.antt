-- Connections that are closed, and a connection to a client that ends or is shut.
use Rattle.std.specs.Prelude.{◌≡◌, true, List, [], ◌∷◌, ◌++◌}
use Rattle.model.specs.Logs.{Output}
use Rattle.model.specs.Setup.{Setup}
use Rattle.model.specs.Tapes.{Entry, is_closed}
use Rattle.theory.specs.Ending.{ending_of, ending_on_tape, Ends}
use Rattle.theory.specs.Moves.{Decision, Move, entry_of}
use Rattle.theory.specs.Moves.Move.{Does}
use Rattle.theory.specs.State.{State, tape_of}
use Rattle.theory.specs.Rule.{RestsBehind}
use Rattle.theory.specs.Steps as theory
use Rattle.theory.specs.Steps.{Stands}
use Rattle.refinement.specs.View.{AreSo}
use Rattle.refinement.specs.Performing.{put_all}
use Rattle.refinement.specs.Bringing.{AreOwn}

-- Moves of the gateway's own lead behind a run to where it rests, and put this out.
pub record IsShut (setup : Setup) (run : List Move) (s : State) (outputs put_out : List Output) : Type 0 where
  pub moves : List Move
  pub state : State
  pub by_rule : theory.Leads setup s moves state
  pub puts : put_out ≡ put_all outputs (tape_of moves)
  pub are_own : AreOwn (tape_of moves)
  pub closed : is_closed (tape_of moves) ≡ true
  pub stands : Stands setup (moves ++ run) state
  pub rests : RestsBehind setup (moves ++ run)
  pub so : AreSo setup (moves ++ run)

-- The connection ends with a decision by the rule, and rests behind the end; what all moves say of answers is so; and nothing comes in behind the
-- decision.
pub record IsEnded (setup : Setup) (run : List Move) (s : State) (d : Decision) : Type 0 where
  pub ends : Ends setup run s d
  pub so : AreSo setup (ending_of s d ++ Does d ∷ run)
  pub own : List Entry
  pub begins : ending_on_tape s d ≡ own ++ entry_of d ∷ []
  pub are_own : AreOwn own
