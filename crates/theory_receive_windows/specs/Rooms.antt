-- How many octets of an upstream may come, where its response takes room.
use Rattle.std.specs.Prelude.{◌≡◌, ℕ, ◌-◌, ◌⊎◌, Bool, true, ◌&&◌, nat_le, List, length, Option}
use Rattle.model.specs.ResponseHeads.{Head}
use Rattle.model.specs.Responses.{Seen}
use Rattle.model.specs.Logs.{Event}
use Rattle.model.specs.Logs.Event.{Up}
use Rattle.model.specs.Setup.{Passing}
use Rattle.model.specs.Setup.Passing.{Whole, Streaming}
use Rattle.model.specs.Tapes.{Entry, sent}
use Rattle.model.specs.Known.{Known}
use Rattle.model.specs.Admission.{is_open}
use Rattle.model.specs.Openings.{Opened, exchange_on}
use Rattle.model.specs.Available.{heard_by}
use Rattle.model.specs.WindowsOnTape.{is_on, data_octets}
use Rattle.model.specs.Idle.{is_asked_for_head, IsIdle}
use Rattle.theory_receive_windows.specs.State.{State}
use Rattle.theory_receive_windows.specs.Policy.{Gates, room_in, admits}

-- So many octets of an exchange's response were seen and not sent on.
pub record HoldsBody (known : Known) (o : Opened) (t : List Entry) (count : ℕ) : Type 0 where
  pub interims : List Head
  pub head : Option Head
  pub octets : List ℕ
  pub seen : Seen (heard_by o t) (is_asked_for_head known o t) interims head octets
  pub is : count ≡ length octets - data_octets (is_on o.stream) (sent t)

-- so many take room: none where responses are passed on whole, nor of a connection that is idle
abbrev pub IsHeld : Passing → Known → List Entry → ℕ → ℕ → Type 0
IsHeld Whole known t k count = count ≡ 0
IsHeld Streaming known t k count = (IsIdle known t k × (count ≡ 0)) ⊎ ((IsIdle known t k → ⊥) × HoldsBody known (exchange_on k t) t count)

-- the room that is left
abbrev pub room_left : Gates → (ℕ → ℕ) → ℕ → ℕ
room_left gates held k = room_in gates k - held k

-- octets of an upstream fit the room that is left
abbrev pub fits : Gates → (ℕ → ℕ) → Event → Bool
fits gates held (Up k piece) = nat_le (length piece) (room_left gates held k)
fits gates held event = true

-- the event may come, where so much is held of each response
abbrev pub admits_beside : Gates → State → (ℕ → ℕ) → Event → Bool
admits_beside gates s held event = admits gates s event && fits gates held event

-- What is held is known for the upstream of the event, if that is open.
abbrev pub AreHeld : Known → List Entry → (ℕ → ℕ) → Event → Type 0
AreHeld known t held (Up k piece) = is_open k t ≡ true → IsHeld known.setup.passing known t k (held k)
AreHeld known t held event = Unit {0}
