-- How many octets of an upstream may come in one event. Beside `Admission` it knows responses that are passed on as they come,
-- where what waits for the client takes room.
use Rattle.std.specs.Prelude.{◌≡◌, ℕ, ◌-◌, ◌≤◌, ◌⊎◌, true, List, length, Option}
use Rattle.model.specs.Logs.{Event}
use Rattle.model.specs.Logs.Event.{Up}
use Rattle.model.specs.Setup.{Passing}
use Rattle.model.specs.Setup.Passing.{Whole, Streaming}
use Rattle.model.specs.Tapes.{Entry, sent}
use Rattle.model.specs.ResponseHeads.{Head}
use Rattle.model.specs.Responses.{Seen}
use Rattle.model.specs.Admission.{room, is_admitted}
use Rattle.model.specs.Openings.{Opened, exchange_on}
use Rattle.model.specs.Available.{heard_by}
use Rattle.model.specs.Known.{Known}
use Rattle.model.specs.WindowsOnTape.{is_on, data_octets}
use Rattle.model.specs.Idle.{is_asked_for_head, IsIdle}

-- These octets of a body were seen of an exchange, and so many less those sent on take room.
pub record HasRoomBeside (known : Known) (o : Opened) (t : List Entry) (count : ℕ) : Type 0 where
  pub interims : List Head
  pub head : Option Head
  pub octets : List ℕ
  pub seen : Seen (heard_by o t) (is_asked_for_head known o t) interims head octets
  pub is : count ≡ room o.k t - (length octets - data_octets (is_on o.stream) (sent t))

-- So many octets may come of a connection where responses are passed on as they come: where it is idle nothing waits that takes room.
abbrev pub IsRoomOf : Known → ℕ → List Entry → ℕ → Type 0
IsRoomOf known k t count =
    (IsIdle known t k × (count ≡ room k t)) ⊎ ((IsIdle known t k → ⊥) × HasRoomBeside known (exchange_on k t) t count)

-- So many octets of the upstream k may come.
abbrev pub IsRoom : Passing → Known → ℕ → List Entry → ℕ → Type 0
IsRoom Whole known k t count = count ≡ room k t
IsRoom Streaming known k t count = IsRoomOf known k t count

abbrev pub FitsRoom : Known → List Entry → Event → Type 0
FitsRoom known t (Up k piece) = (count : ℕ) → IsRoom known.setup.passing known k t count → length piece ≤ count
FitsRoom known t event = Unit {0}

-- The event may come behind the tape.
pub record IsAdmitted (known : Known) (t : List Entry) (event : Event) : Type 0 where
  pub in_order : is_admitted t event ≡ true
  pub fits : FitsRoom known t event
