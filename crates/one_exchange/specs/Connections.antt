-- Upstream connections that carry one exchange each, for the stream that each was opened for. `once` in a name says that a definition
-- of `model` is meant so.
use Rattle.std.specs.Prelude.{◌≡◌, ℕ, Bool, true, false, ◌==◌, if◌then◌else◌, List, [], ◌∷◌, ◌++◌}
use Rattle.model.specs.Logs.Event.{Up, UpEnd}
use Rattle.model.specs.Tapes.{Entry}
use Rattle.model.specs.Tapes.Entry.{Happened}
use Rattle.model.specs.Admission.{is_open}
use Rattle.model.specs.Openings.{Opened, opens, route_of, connection_of, GoToOpen}
use Rattle.model.specs.Known.{Known}
use Rattle.model.specs.RequestClause.{RequestsHold}

-- all octets that came of the upstream k
abbrev pub heard : ℕ → List Entry → List ℕ
heard k [] = []
heard k (Happened (Up j piece) ∷ t) = if k == j then heard k t ++ piece else heard k t
heard k (_ ∷ t) = heard k t

-- whether the upstream k ended its connection
abbrev pub has_ended : ℕ → List Entry → Bool
has_ended k [] = false
has_ended k (Happened (UpEnd j) ∷ t) = if k == j then true else has_ended k t
has_ended k (_ ∷ t) = has_ended k t

-- the connection that was opened for a stream
abbrev pub opened_for : ℕ → List Entry → Opened
opened_for stream t = let k = connection_of stream (opens t) in record { k = k; route = route_of k (opens t); stream = stream }

-- What comes of an upstream comes while its connection is open, as is said of each event that may come (`Admission`).
abbrev pub ComeOfOpen : List Entry → Type 0
ComeOfOpen [] = Unit {0}
ComeOfOpen (Happened (Up k piece) ∷ t) = (is_open k t ≡ true) × ComeOfOpen t
ComeOfOpen (Happened (UpEnd k) ∷ t) = (is_open k t ≡ true) × ComeOfOpen t
ComeOfOpen (_ ∷ t) = ComeOfOpen t

-- No connection is kept: `keep` is off on a tape that keeps the clause on requests, and octets go to open connections and come of them.
pub record KeepsNone (known : Known) (t : List Entry) : Type 0 where
  pub off : known.setup.keep ≡ false
  pub requests : RequestsHold known t
  pub go_to_open : GoToOpen t
  pub come_of_open : ComeOfOpen t
