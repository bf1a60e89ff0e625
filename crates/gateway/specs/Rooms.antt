-- The rooms of all connections that are open.
use Rattle.std.specs.Prelude.{◌≡◌, ℕ, ◌<◌, ◌==◌, Bool, true, false, List, [], ◌∷◌, map, reverse, Some, if◌then◌else◌}
use Rattle.std.specs.List.{list_any, AllByRecursion}
use Rattle.model.specs.Admission as admission
use Rattle.model.specs.Idle.{IsIdle, AreIdle}
use Rattle.model.specs.Known.{Known}
use Rattle.model.specs.Logs.{Event, Output}
use Rattle.model.specs.Logs.Event.{Client, ClientEnd, ClientTook, Up, UpEnd, UpFailed, UpTook, Drain}
use Rattle.model.specs.Logs.Output.{ToClient, Does}
use Rattle.model.specs.Logs.Act.{Open, ToUp, Close, CloseClient}
use Rattle.model.specs.Rooms.{IsRoom}
use Rattle.model.specs.Tapes.{Entry}
use Rattle.theory_responses.specs.State as theory_responses
use Rattle.upstream_connections.specs.Connections.{Connection, number_of}
use Rattle.event_handlers.specs.Admission as steps
use Rattle.gateway.specs.Stands.{Standing, is_open}

-- A number is below all of these.
abbrev pub IsBelow : ℕ → List ℕ → Type 0
IsBelow k [] = Unit {0}
IsBelow k (j ∷ js) = (k < j) × IsBelow k js

-- Numbers rise.
abbrev pub Rise : List ℕ → Type 0
Rise [] = Unit {0}
Rise (k ∷ ks) = IsBelow k ks × Rise ks

-- whether a number is one of these
abbrev pub is_among : ℕ → List ℕ → Bool
is_among k ks = list_any (λ j. j == k) ks

-- how many octets of an upstream may come in one event: those that the tape tells while its connection is open, else none
pub record TellsRoom (known : Known) (t : List Entry) (k room : ℕ) : Type 0 where
  pub opened : admission.is_open k t ≡ true → IsRoom known.setup.passing known k t room
  pub shut : admission.is_open k t ≡ false → room ≡ 0

abbrev pub numbers_in : List (ℕ × ℕ) → List ℕ
numbers_in rooms = map (λ (one : ℕ × ℕ). one.0) rooms

-- The connections that are open behind the tape, and no others, by rising number, each with how many octets of it may come in one event.
pub record AreRooms (known : Known) (t : List Entry) (rooms : List (ℕ × ℕ)) : Type 0 where
  pub rise : Rise (numbers_in rooms)
  pub listed : (k : ℕ) → is_among k (numbers_in rooms) ≡ admission.is_open k t
  pub each : AllByRecursion (λ (one : ℕ × ℕ). IsRoom known.setup.passing known one.0 t one.1) rooms

-- The connections that are idle behind the tape, and no others.
pub record AreAllIdle (known : Known) (t : List Entry) (idle : List ℕ) : Type 0 where
  pub each : AreIdle known t idle
  pub all : (k : ℕ) → IsIdle known t k → is_among k idle ≡ true

-- those that a gateway tells, by what is on offer
abbrev pub room_in : theory_responses.State → Connection → ℕ × ℕ
room_in offers c = (number_of c, steps.room_of offers (Some c))

abbrev pub rooms_in : Standing → List (ℕ × ℕ)
rooms_in g = if is_open g.phase then map (room_in g.kept.offers) (reverse g.kept.upstreams.live) else []

-- ---- what changes which are open

-- whether an output opens a connection, or closes one
abbrev pub turns : Output → Bool
turns (Does (Open k route)) = true
turns (Does (Close k)) = true
turns (Does (ToUp k octets)) = false
turns (Does CloseClient) = false
turns (ToClient octets) = false

-- whether a connection fails by an event
abbrev pub fails : Event → Bool
fails (UpFailed k) = true
fails (Client piece) = false
fails ClientEnd = false
fails (ClientTook count) = false
fails (Up k piece) = false
fails (UpEnd k) = false
fails (UpTook k count) = false
fails Drain = false
