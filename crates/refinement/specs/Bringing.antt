-- What a part of a step comes to that begins with something that comes in, and one with which nothing does.
use Rattle.std.specs.Prelude.{◌≡◌, List, [], ◌∷◌, ◌++◌}
use Rattle.model.specs.Frames.{Fits}
use Rattle.model.specs.Logs.{Output}
use Rattle.model.specs.Setup.{Setup}
use Rattle.model.specs.Tapes.{Entry}
use Rattle.model.specs.Tapes.Entry.{Sent, Did}
use Rattle.theory.specs.Moves.{Move}
use Rattle.theory.specs.State.{State, tape_of}
use Rattle.refinement.specs.View.{View, Pending, Leads}
use Rattle.refinement.specs.Performing.{Segment}

-- Nothing of it came in: frames that were sent, each as long as a frame may be, and acts.
abbrev pub AreOwn : List Entry → Type 0
AreOwn [] = Unit {0}
AreOwn (Sent noted ∷ t) = Fits noted.frame × AreOwn t
AreOwn (Did act ∷ t) = AreOwn t
AreOwn (e ∷ t) = ⊥

-- Moves behind a run lead on, and put this out; nothing comes in with them.
pub record OwnSegment (setup : Setup) (run : List Move) (s : State) (outputs : List Output) (new : View) (pending : Pending)
    (put_out : List Output) : Type 0 where
  pub segment : Segment setup run s outputs new pending put_out
  pub are_own : AreOwn (tape_of segment.moves)

-- Moves behind a run begin with this entry, lead on, and put this out; behind the entry nothing more comes in.
pub record Course (setup : Setup) (run : List Move) (s : State) (outputs : List Output) (entry : Entry) (new : View) (pending : Pending)
    (put_out : List Output) : Type 0 where
  pub segment : Segment setup run s outputs new pending put_out
  pub own : List Entry
  pub begins : tape_of segment.moves ≡ own ++ entry ∷ []
  pub are_own : AreOwn own

-- Wherever moves led to what was kept, with what was pending then, they lead on without anything that comes in.
abbrev pub PerformsOwn : Setup → View → Pending → List Output → View → Pending → List Output → Type 0
PerformsOwn setup old pending outputs new pending' outputs' = (run : List Move) (s : State) → Leads setup run old pending s
    → OwnSegment setup run s outputs new pending' outputs'

-- Wherever they led there, they lead on by what comes in with this entry.
abbrev pub Brings : Setup → View → Pending → List Output → Entry → View → Pending → List Output → Type 0
Brings setup old pending outputs entry new pending' outputs' = (run : List Move) (s : State) → Leads setup run old pending s
    → Course setup run s outputs entry new pending' outputs'
