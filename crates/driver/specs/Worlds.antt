-- What a world tells, and what serving it adds to that.
use Rattle.std.specs.Prelude.{◌≡◌, ◌≤◌, ℕ, ◌+◌, Bool, true, false, Option, Some, None, List, [], ◌∷◌, ◌++◌, ◌⊎◌, length, reverse, ⊤}
use Rattle.model.specs.Logs as logs
use Rattle.model.specs.Logs.{Step}
use Rattle.model.specs.Setup.{Setup}
use Rattle.model.specs.Rooms.{IsAdmitted}
use Rattle.theory_errors.specs.Rule.{known_of}
use Rattle.effects.specs.declared.events.Event.{Event}
use Rattle.effects.specs.declared.events.Event.TheVariants as event
use Rattle.effects.specs.Views.{event_of}
use Rattle.theory.specs.Moves.{Move}
use Rattle.theory.specs.State.{conducts, tape_of}
use Rattle.gateway.specs.Promises.{Promise}
use Rattle.gateway.specs.Rooms.{AreRooms, AreAllIdle}
use Rattle.gateway.specs.Stands.{Standing, Stands}
use Rattle.std.specs.List.{list_any}
use Rattle.model.specs.Logs.Output.{Does}
use Rattle.model.specs.Logs.Act.{CloseClient}
use Rattle.driver.specs.declared.services.ServiceEnd.{ServiceEnd}
use Rattle.driver.specs.declared.services.ServiceEnd.TheVariants.{Closed, Over as OverAtLast, Turns}
use Rattle.driver.specs.declared.services.Peer.{Peer}
use Rattle.driver.specs.declared.services.Peer.TheVariants as peer
use Rattle.driver.specs.declared.world.Next.{Next}
use Rattle.driver.specs.declared.world.Next.TheVariants.{Happened, Nothing, Over}

-- What a call of `next` was handed, and how many steps the log had then: the open connections, each with its room, and those that are idle.
pub record Handed : Type 0 where
  pub steps : ℕ
  pub rooms : List (ℕ × ℕ)
  pub idle : List ℕ

-- a step with more outputs behind its own
abbrev pub with_outputs : Step → List logs.Output → Step
with_outputs step outputs = record { event = step.event; outputs = step.outputs ++ outputs }

-- an event for which nothing is put out yet
abbrev pub came : Event → Step
came event = record { event = event_of event; outputs = [] }

-- What is said to come next stands at the end of the log, with nothing put out yet.
abbrev pub AddsEvent : Option (List Step) → Next → Option (List Step) → Type 0
AddsEvent old (Happened event) new = (before : List Step) → old ≡ Some before → new ≡ Some (before ++ came event ∷ [])
AddsEvent old Nothing new = new ≡ old
AddsEvent old Over new = new ≡ old

-- What was handed is told behind all that was handed before, with how many steps the log had.
abbrev pub AddsHanded : Option (List Step) → Option (List Handed) → List (ℕ × ℕ) → List ℕ → Option (List Handed) → Type 0
AddsHanded log old rooms idle new = (steps : List Step) (earlier : List Handed) → log ≡ Some steps → old ≡ Some earlier
    → new ≡ Some (earlier ++ record { steps = length steps; rooms = rooms; idle = idle } ∷ [])

-- Where nothing comes any more, that was said.
abbrev pub SaysOver : Next → Bool → Type 0
SaysOver Over over = over ≡ true
SaysOver (Happened event) over = over ≡ false
SaysOver Nothing over = over ≡ false

-- The connection is among these, and has room for so many octets.
abbrev pub HasRoom : List (ℕ × ℕ) → ℕ → ℕ → Type 0
HasRoom [] k count = ⊥
HasRoom (one ∷ rooms) k count = ((one.0 ≡ k) × (count ≤ one.1)) ⊎ HasRoom rooms k count

-- What comes of an upstream is of a connection that was handed, and octets are at most as many as that has room for.
abbrev pub KeepsRooms : List (ℕ × ℕ) → Next → Type 0
KeepsRooms rooms (Happened (event.Up k octets)) = HasRoom rooms k (length octets.items)
KeepsRooms rooms (Happened (event.UpEnd k)) = HasRoom rooms k 0
KeepsRooms rooms (Happened (event.UpFailed k)) = HasRoom rooms k 0
KeepsRooms rooms next = ⊤

-- whose event it is: octets, an end and a failure are of whom they came of, what is told as taken is of the world
abbrev pub peer_of : Event → Peer
peer_of (event.Up k octets) = peer.Upstream k
peer_of (event.UpEnd k) = peer.Upstream k
peer_of (event.UpFailed k) = peer.Upstream k
peer_of (event.Client octets) = peer.Client
peer_of event.ClientEnd = peer.Client
peer_of (event.ClientTook count) = peer.World
peer_of (event.UpTook k count) = peer.World
peer_of event.Drain = peer.World

-- whether an output closes the client
abbrev pub closes : logs.Output → Bool
closes (Does CloseClient) = true
closes (Does (logs.Act.Open k route)) = false
closes (Does (logs.Act.ToUp k octets)) = false
closes (Does (logs.Act.Close k)) = false
closes (logs.Output.ToClient octets) = false

-- whether the client is closed in a log
abbrev pub has_closed : List Step → Bool
has_closed log = list_any (λ step. list_any closes step.outputs) log

abbrev pub is_closed : ServiceEnd → Bool
is_closed Closed = true
is_closed OverAtLast = false
is_closed Turns = false

-- What a turn says of the end: the client is closed only where that is said, and nothing comes any more just where the world
-- said so, unless the client was closed. A turn doesn't say that all turns were taken.
abbrev pub ends : Option ServiceEnd → Bool
ends None = false
ends (Some ended) = is_closed ended

abbrev pub SaysEnd : Option ServiceEnd → Bool → Type 0
SaysEnd None over = over ≡ false
SaysEnd (Some Closed) over = ⊤
SaysEnd (Some OverAtLast) over = over ≡ true
SaysEnd (Some Turns) over = ⊥

-- What is promised holds of what was added to this log, in which the client is closed or not.
abbrev pub AddsPromised : Setup → Bool → List Step → Option (List Step) → Type 0
AddsPromised setup closed before new = (added : List Step) × (new ≡ Some (before ++ added)) × Promise setup added × (has_closed added ≡ closed)

-- That holds of what was added to the log, and the client is closed in it just where that is said.
abbrev pub AddsRun : Setup → ServiceEnd → Option (List Step) → Option (List Step) → Type 0
AddsRun setup ended old new = (before : List Step) → old ≡ Some before → AddsPromised setup (is_closed ended) before new

-- A log is a whole one, or lacks outputs at the end of its last step.
pub data IsFrontOf : List Step → List Step → Type 0 where
  Whole : (log : List Step) → IsFrontOf log log
  Lacks : (steps : List Step) (step : Step) (outputs : List logs.Output) → IsFrontOf (steps ++ step ∷ []) (steps ++ with_outputs step outputs ∷ [])

-- What was added to this log is a front of one of which that is promised.
abbrev pub AddsFrontTo : Setup → List Step → Option (List Step) → Type 0
AddsFrontTo setup before new = (added : List Step) × (whole : List Step) × (new ≡ Some (before ++ added)) × IsFrontOf added whole × Promise setup whole

abbrev pub AddsFront : Setup → Option (List Step) → Option (List Step) → Type 0
AddsFront setup old new = (before : List Step) → old ≡ Some before → AddsFrontTo setup before new

-- What is promised holds of the log, by a tape behind which the event may not come.
pub record MayNotCome (setup : Setup) (log : List Step) (event : logs.Event) : Type 0 where
  pub promise : Promise setup log
  pub refused : IsAdmitted promise.headline.known promise.headline.tape event → ⊥

-- The event that came last may not come behind what was added before it, and nothing is put out for it. It is of this peer.
abbrev pub AddsRefusedTo : Setup → Peer → List Step → Option (List Step) → Type 0
AddsRefusedTo setup peer before new =
    (added : List Step) × (event : Event) × (new ≡ Some (before ++ added ++ came event ∷ [])) × MayNotCome setup added (event_of event) × (peer_of event ≡ peer)

abbrev pub AddsRefused : Setup → Peer → Option (List Step) → Option (List Step) → Type 0
AddsRefused setup peer old new = (before : List Step) → old ≡ Some before → AddsRefusedTo setup peer before new

-- What is promised holds of all that was added to this log but the event that came last, for which nothing is put out.
abbrev pub AddsUnansweredTo : Setup → List Step → Option (List Step) → Type 0
AddsUnansweredTo setup before new = (added : List Step) × (event : Event) × (new ≡ Some (before ++ added ++ came event ∷ [])) × Promise setup added

-- Nothing was added, or that.
abbrev pub AddsUnanswered : Setup → Option (List Step) → Option (List Step) → Type 0
AddsUnanswered setup old new = (before : List Step) → old ≡ Some before → (new ≡ Some before) ⊎ AddsUnansweredTo setup before new

-- ---- what was handed

-- It was handed behind a front of what was added to a log of so many steps, in which the client isn't closed. What is promised holds of that front, and
-- the connections that are open behind it are what was handed, by rising number, each with how many octets of it may come in one event, with those that
-- are idle behind it.
pub record IsHanded (setup : Setup) (before : ℕ) (added : List Step) (handed : Handed) : Type 0 where
  pub front : List Step
  pub rest : List Step
  pub parts : added ≡ front ++ rest
  pub goes_on : has_closed front ≡ false
  pub steps : handed.steps ≡ before + length front
  pub promise : Promise setup front
  pub rooms : AreRooms promise.headline.known promise.headline.tape handed.rooms
  pub idle : AreAllIdle promise.headline.known promise.headline.tape handed.idle

abbrev pub AreHanded : Setup → ℕ → List Step → List Handed → Type 0
AreHanded setup before added [] = Unit {0}
AreHanded setup before added (handed ∷ more) = IsHanded setup before added handed × AreHanded setup before added more

-- So was each that is told behind those before it.
abbrev pub AreAllHanded : Setup → ℕ → List Step → Option (List Handed) → Option (List Handed) → Type 0
AreAllHanded setup before added old new = (earlier : List Handed) → old ≡ Some earlier → (more : List Handed) × (new ≡ Some (earlier ++ more))
    × AreHanded setup before added more

-- What was handed is right for what was added to the log.
abbrev pub HandsTo : Setup → List Step → Option (List Handed) → Option (List Step) → Option (List Handed) → Type 0
HandsTo setup before old log new = (added : List Step) × (log ≡ Some (before ++ added)) × AreAllHanded setup (length before) added old new

abbrev pub Hands : Setup → Option (List Step) → Option (List Handed) → Option (List Step) → Option (List Handed) → Type 0
Hands setup log old log' new = (before : List Step) → log ≡ Some before → HandsTo setup before old log' new

-- The gateway stands for some log, and these are the rooms behind it.
pub record StandsWithRooms (setup : Setup) (g : Standing) (rooms : List (ℕ × ℕ)) : Type 0 where
  pub log : List Step
  pub run : List Move
  pub stands : Stands setup g log run
  pub rooms_are : AreRooms (known_of setup (conducts run)) (tape_of run) rooms

-- The gateway stands for what was added to this log, in which the client is closed or not. These are the rooms behind it, and what was handed since was
-- right.
pub record Serves (setup : Setup) (closed : Bool) (log : Option (List Step)) (g : Standing) (rooms : List (ℕ
    × ℕ)) (old handed : Option (List Handed)) (before : List Step) : Type 0 where
  pub added : List Step
  pub run : List Move
  pub is : log ≡ Some (before ++ added)
  pub stands : Stands setup g (reverse added) run
  pub has_closed_is : has_closed added ≡ closed
  pub rooms_are : AreRooms (known_of setup (conducts run)) (tape_of run) rooms
  pub hands : AreAllHanded setup (length before) added old handed
