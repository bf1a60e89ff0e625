-- What comes in leads to, whole: where the connection stands then, and what was put out.
use Rattle.std.specs.Prelude.{◌≡◌, true, List, [], ◌∷◌, ◌++◌, Option, Some, None}
use Rattle.model.specs.Logs.{Output}
use Rattle.model.specs.Setup.{Setup}
use Rattle.model.specs.Tapes.{is_closed, CanBeSpelled, ActsFollow}
use Rattle.theory.specs.Moves.{Move}
use Rattle.theory.specs.State.{State, tape_of}
use Rattle.theory.specs.Rule.{AllAllowed, RestsBehind}
use Rattle.refinement.specs.View.{View, Pending, AreSo, Leads}
use Rattle.refinement.specs.Performing.{put_all}
use Rattle.refinement.specs.Bringing.{AreOwn}
use Rattle.event_handlers.specs.Inputs.{Input, inputs_in}

-- The connection was closed by moves that came by the rule, and the gateway rests.
pub record IsOver (setup : Setup) (run : List Move) : Type 0 where
  pub allowed : AllAllowed setup run
  pub so : AreSo setup run
  pub rests : RestsBehind setup run
  pub closed : is_closed (tape_of run) ≡ true

-- Where moves led: to what is kept, with what is pending, or to the connection's end.
abbrev pub StandsAt : Setup → List Move → Pending → Option View → Type 0
StandsAt setup run pending (Some kept) = (s : State) × Leads setup run kept pending s
StandsAt setup run pending None = IsOver setup run

-- ---- parts of a step with which nothing comes in

-- Moves of the gateway's own lead on from a run, and put this out.
pub record Follows (setup : Setup) (run : List Move) (outputs : List Output) (pending : Pending) (now : Option View) (put_out : List Output) : Type 0 where
  pub moves : List Move
  pub stands : StandsAt setup (moves ++ run) pending now
  pub puts : put_out ≡ put_all outputs (tape_of moves)
  pub own : AreOwn (tape_of moves)

-- Wherever moves led to what was kept, with what was pending then, moves of the gateway's own lead on.
abbrev pub FollowsFrom : Setup → View → Pending → List Output → Pending → Option View → List Output → Type 0
FollowsFrom setup old pending outputs pending' now outputs' = (run : List Move) (s : State) → Leads setup run old pending s
    → Follows setup run outputs pending' now outputs'

-- ---- what comes in

-- Moves lead on from a run by just these inputs, the newest first, and put this out: frames that can be spelled, and no act before an event.
pub record Comes (setup : Setup) (run : List Move) (outputs : List Output) (inputs : List Input) (pending : Pending) (now : Option View)
    (put_out : List Output) : Type 0 where
  pub moves : List Move
  pub stands : StandsAt setup (moves ++ run) pending now
  pub puts : put_out ≡ put_all outputs (tape_of moves)
  pub came : inputs_in (tape_of moves) ≡ inputs
  pub spelled : CanBeSpelled (tape_of moves)
  pub acts_follow : ActsFollow (tape_of moves)

-- Wherever moves led to what was kept, they lead on by these inputs.
abbrev pub ComesFrom : Setup → View → Pending → List Output → List Input → Pending → Option View → List Output → Type 0
ComesFrom setup old pending outputs inputs pending' now outputs' = (run : List Move) (s : State) → Leads setup run old pending s
    → Comes setup run outputs inputs pending' now outputs'

-- Octets for the client alone are put out.
abbrev pub OnlyToClient : List Output → Type 0
OnlyToClient [] = Unit {0}
OnlyToClient (Output.ToClient octets ∷ outputs) = OnlyToClient outputs
OnlyToClient (Output.Does act ∷ outputs) = ⊥
