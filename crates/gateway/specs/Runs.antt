-- The log of a run, and why one is refused.
use Rattle.std.specs.Prelude.{◌≡◌, ◌<◌, ◌⊎◌, ℕ, Some, List, [], ◌∷◌, length, map, take, slice_get}
use Rattle.std.specs.declared.vec.Vec.{Vec}
use Rattle.std.specs.declared.alloc.Global.{Global}
use Rattle.model.specs.Logs as logs
use Rattle.model.specs.Logs.{Step}
use Rattle.model.specs.Rooms.{IsAdmitted}
use Rattle.model.specs.Setup.{Setup}
use Rattle.effects.specs.declared.events.Event.{Event}
use Rattle.effects.specs.declared.events.Output.{Output}
use Rattle.effects.specs.Views.{event_of, outputs_of}
use Rattle.gateway.specs.declared.runs.RunFault.{RunFault}
use Rattle.gateway.specs.declared.runs.RunFault.TheVariants.{NotAdmitted, Memory}
use Rattle.gateway.specs.Promises.{Promise}

-- the log of these events and the outputs of each, the oldest step first: of as many events as have outputs
abbrev pub log_of : List Event → List (Vec Output Global) → List Step
log_of [] outputs = []
log_of (event ∷ events) [] = []
log_of (event ∷ events) (outputs ∷ more) = record { event = event_of event; outputs = outputs_of outputs.items } ∷ log_of events more

-- What is promised holds of a log of the events before a place, by a tape after which the event at that place may not come.
pub record IsRefusedAt (setup : Setup) (events : List logs.Event) (place : ℕ) : Type 0 where
  pub event : logs.Event
  pub found : slice_get events place ≡ Some event
  pub log : List Step
  pub are_events : map (λ step. step.event) log ≡ take place events
  pub promise : Promise setup log
  pub refused : IsAdmitted promise.headline.known promise.headline.tape event → ⊥

-- What a fault says: the event at the place may not come after those before it; or that memory was refused there.
abbrev pub Explains : Setup → List logs.Event → RunFault → Type 0
Explains setup events (NotAdmitted place) = IsRefusedAt setup events place
Explains setup events (Memory place) = (place < length events) ⊎ (place ≡ 0)

-- ---- where what was put out is told

-- What is promised holds of the log of what was put out at the events before a place, and of no
-- others, by a tape after which the event at that place may not come.
pub record IsRefusedBehind (setup : Setup) (events : List Event) (outputs : List (Vec Output Global)) (place : ℕ) : Type 0 where
  pub each : length outputs ≡ place
  pub event : logs.Event
  pub found : slice_get (map event_of events) place ≡ Some event
  pub promise : Promise setup (log_of events outputs)
  pub refused : IsAdmitted promise.headline.known promise.headline.tape event → ⊥

-- What is promised holds of the log of what was put out at the events before a place, at which there is one.
pub record IsCutAt (setup : Setup) (events : List Event) (outputs : List (Vec Output Global)) (place : ℕ) : Type 0 where
  pub each : length outputs ≡ place
  pub within : place < length events
  pub promise : Promise setup (log_of events outputs)

-- What a fault says of a run that put this out: the event at the place may not come behind it; or memory was refused there, or before there was a gateway.
abbrev pub Stops : Setup → List Event → List (Vec Output Global) → RunFault → Type 0
Stops setup events outputs (NotAdmitted place) = IsRefusedBehind setup events outputs place
Stops setup events outputs (Memory place) = IsCutAt setup events outputs place ⊎ ((place ≡ 0) × (outputs ≡ []))
