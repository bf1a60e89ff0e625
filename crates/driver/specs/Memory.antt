-- What a world in memory keeps.
use Rattle.std.specs.Prelude.{◌≡◌, ◌==◌, ◌-◌, ◌<◌, ◌≤◌, ◌⊎◌, ℕ, Bool, false, if◌then◌else◌, Option, Some, None, Ok, Err, List, [], ◌∷◌, ◌++◌, map, drop, length, vec_len, vec_capacity, ⊤}
use Rattle.std.specs.declared.vec.Vec.{Vec}
use Rattle.std.specs.declared.alloc.Global.{Global}
use Rattle.model.specs.Logs as logs
use Rattle.model.specs.Logs.{Step}
use Rattle.effects.specs.declared.events.Event.{Event}
use Rattle.effects.specs.declared.events.Output.{Output}
use Rattle.effects.specs.Views.{event_of, output_of, outputs_of}
use Rattle.driver.specs.Worlds.{Handed, AddsEvent, with_outputs}
use Rattle.driver.specs.Calls.{Call}
use Rattle.driver.specs.Calls.Call.{Asked, Applied, Aside}
use Rattle.driver.specs.declared.memory.MemoryWorld.{MemoryWorld}
use Rattle.driver.specs.declared.world.Next.{Next}
use Rattle.driver.specs.declared.world.Next.TheVariants.{Happened, Nothing, Over}

abbrev pub step_of : Event × Vec Output Global → Step
step_of pair = record { event = event_of pair.0; outputs = outputs_of pair.1.items }

abbrev pub steps_of : List (Event × Vec Output Global) → List Step
steps_of log = map step_of log

-- its log
abbrev pub log_in : MemoryWorld → List Step
log_in world = steps_of world.log.items

-- what its calls of `next` were handed
abbrev pub handed_of : ℕ × Vec (ℕ × ℕ) Global × Vec ℕ Global → Handed
handed_of one = record { steps = one.0; rooms = one.1.items; idle = one.2.items }

abbrev pub handed_in : MemoryWorld → List Handed
handed_in world = map handed_of world.handed.items

-- the events that are to come
abbrev pub left_in : MemoryWorld → List logs.Event
left_in world = map event_of (drop world.given world.events.items)

-- What comes next is the first event that was left; where none was, nothing comes any more.
abbrev pub Gives : List logs.Event → Next → List logs.Event → Type 0
Gives old (Happened event) new = old ≡ event_of event ∷ new
Gives old Over new = (old ≡ []) × (new ≡ [])
Gives old Nothing new = ⊥

-- How a call moves it: what comes next stands at the end of its log and isn't left any more, an output stands behind those of the last step, and a call
-- that failed changes neither. Between calls neither changes.
abbrev pub MovesOn : MemoryWorld → Call → MemoryWorld → Type 0
MovesOn old (Asked rooms idle (Ok next)) new = AddsEvent (Some (log_in old)) next (Some (log_in new)) × Gives (left_in old) next (left_in new)
MovesOn old (Asked rooms idle (Err failed)) new = (log_in new ≡ log_in old) × (left_in new ≡ left_in old)
MovesOn old (Applied output (Ok done)) new = ((before : List Step) (step : Step) → log_in old ≡ before ++ step ∷ []
    → log_in new ≡ before ++ with_outputs step (output_of output ∷ []) ∷ []) × (left_in new ≡ left_in old)
MovesOn old (Applied output (Err failed)) new = (log_in new ≡ log_in old) × (left_in new ≡ left_in old)
MovesOn old (Aside answer) new = (log_in new ≡ log_in old) × (left_in new ≡ left_in old)

-- whether the call that comes fails, by how many come before the one that does
abbrev pub is_due : Option ℕ → Bool
is_due None = false
is_due (Some n) = n == 0

-- how many come before it behind that call
abbrev pub one_fewer : Option ℕ → Option ℕ
one_fewer None = None
one_fewer (Some n) = if n == 0 then None else Some (n - 1)

-- ---- where a call needs memory

-- the octets of an event
abbrev pub octets_in : logs.Event → List ℕ
octets_in (logs.Event.Client octets) = octets
octets_in (logs.Event.Up k octets) = octets
octets_in event = []

-- the octets of the first of some events
abbrev pub first_octets : List logs.Event → List ℕ
first_octets [] = []
first_octets (event ∷ events) = octets_in event

-- A call of `next` needs memory: for what it is handed, for the octets of the event that comes, or since the list of what it was handed, or its log,
-- has no room for one more.
abbrev pub NeedsMemory : MemoryWorld → List (ℕ × ℕ) → List ℕ → Type 0
NeedsMemory world rooms idle =
    (0 < length rooms) ⊎ (0 < length idle) ⊎ (vec_capacity world.handed ≤ vec_len world.handed)
    ⊎ (0 < length (first_octets (left_in world))) ⊎ (vec_capacity world.log ≤ vec_len world.log)

-- the octets of an output
abbrev pub octets_put : logs.Output → List ℕ
octets_put (logs.Output.ToClient octets) = octets
octets_put (logs.Output.Does (logs.Act.ToUp k octets)) = octets
octets_put output = []

-- The outputs of the last step have no room for one more, if there is a step.
abbrev pub IsLastFull : List (Event × Vec Output Global) → Type 0
IsLastFull [] = ⊤
IsLastFull (pair ∷ []) = vec_capacity pair.1 ≤ vec_len pair.1
IsLastFull (pair ∷ next ∷ log) = IsLastFull (next ∷ log)

-- A call of `apply` needs memory: for the octets of the output, or since those of the last step have no room for it, if there is a step to put it behind.
abbrev pub NeedsMemoryFor : logs.Output → List (Event × Vec Output Global) → Type 0
NeedsMemoryFor output log = (0 < length (octets_put output)) ⊎ IsLastFull log
