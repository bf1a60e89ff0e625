-- What comes in to a gateway: a frame of the client, a breach, an event.
use Rattle.std.specs.Prelude.{List, [], ◌∷◌}
use Rattle.model.specs.Frames.{Frame}
use Rattle.model.specs.Logs.{Event}
use Rattle.model.specs.Tapes.{Breach, Entry}
use Rattle.model.specs.Tapes.Entry.{Came, Breached, Happened, Sent, Did}

pub data Input : Type 0 where
  OfFrame : (frame : Frame) → Input
  OfBreach : (breach : Breach) → Input
  OfEvent : (event : Event) → Input

-- what came in with entries, the newest first
abbrev pub inputs_in : List Entry → List Input
inputs_in [] = []
inputs_in (Came noted ∷ t) = Input.OfFrame noted.frame ∷ inputs_in t
inputs_in (Breached breach ∷ t) = Input.OfBreach breach ∷ inputs_in t
inputs_in (Happened event ∷ t) = Input.OfEvent event ∷ inputs_in t
inputs_in (Sent noted ∷ t) = inputs_in t
inputs_in (Did act ∷ t) = inputs_in t

-- the events among inputs
abbrev pub events_in : List Input → List Event
events_in [] = []
events_in (Input.OfEvent event ∷ is) = event ∷ events_in is
events_in (_ ∷ is) = events_in is
