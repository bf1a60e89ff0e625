-- How many octets of an upstream may come in one event, where each connection carries one exchange.
use Rattle.std.specs.Prelude.{◌≡◌, ℕ, ◌-◌, ◌≤◌, true, List, length, Option}
use Rattle.model.specs.Logs.{Event}
use Rattle.model.specs.Logs.Event.{Up}
use Rattle.model.specs.Setup.{Passing}
use Rattle.model.specs.Setup.Passing.{Whole, Streaming}
use Rattle.model.specs.Tapes.{Entry, sent}
use Rattle.model.specs.ResponseHeads.{Head}
use Rattle.model.specs.Responses.{Seen}
use Rattle.model.specs.Admission.{room, is_admitted}
use Rattle.model.specs.Openings.{opens, given}
use Rattle.model.specs.Known.{Known}
use Rattle.model.specs.WindowsOnTape.{is_on, data_octets}
use Rattle.one_exchange.specs.Connections.{heard}
use Rattle.one_exchange.specs.Failures.{asks_once}

-- These octets of a body were seen of a connection, and so many less those sent on take room.
pub record HasRoomBesideOnce (known : Known) (k : ℕ) (t : List Entry) (count : ℕ) : Type 0 where
  pub interims : List Head
  pub head : Option Head
  pub octets : List ℕ
  pub seen : Seen (heard k t) (asks_once known k t) interims head octets
  pub is : count ≡ room k t - (length octets - data_octets (is_on (given k (opens t))) (sent t))

-- So many octets of the upstream k may come.
abbrev pub IsRoomOnce : Passing → Known → ℕ → List Entry → ℕ → Type 0
IsRoomOnce Whole known k t count = count ≡ room k t
IsRoomOnce Streaming known k t count = HasRoomBesideOnce known k t count

abbrev pub FitsRoomOnce : Known → List Entry → Event → Type 0
FitsRoomOnce known t (Up k piece) = (count : ℕ) → IsRoomOnce known.setup.passing known k t count → length piece ≤ count
FitsRoomOnce known t event = Unit {0}

-- The event may come behind the tape.
pub record IsAdmittedOnce (known : Known) (t : List Entry) (event : Event) : Type 0 where
  pub in_order : is_admitted t event ≡ true
  pub fits : FitsRoomOnce known t event
