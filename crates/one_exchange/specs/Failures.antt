-- At which events an upstream's answer fails, where each connection carries one exchange.
use Rattle.std.specs.Prelude.{ℕ, Bool, true, false, List, [], ◌∷◌}
use Rattle.model.specs.Logs.{Event}
use Rattle.model.specs.Logs.Event.{Up, UpEnd, UpFailed}
use Rattle.model.specs.Tapes.{Entry}
use Rattle.model.specs.Tapes.Entry.{Happened}
use Rattle.model.specs.Responses.{IsComplete}
use Rattle.model.specs.Openings.{opens, given}
use Rattle.model.specs.Known.{Known, fails_behind}
use Rattle.model.specs.Offers.{is_to_head}
use Rattle.model.specs.Failures.{IsBroken, IsPlainlyBroken}
use Rattle.one_exchange.specs.Connections.{heard}
use Rattle.one_exchange.specs.Courses.{items_once}

-- the request of a connection has the method HEAD
abbrev pub asks_once : Known → ℕ → List Entry → Bool
asks_once known k t = is_to_head (items_once known (given k (opens t)) t)

-- An event with which an answer may be given up: octets that break it, the connection's end where it makes no whole response,
-- the connection's failure.
abbrev pub MayFailOnce : Known → List Entry → Event → Type 0
MayFailOnce known t (Up k piece) = IsBroken known (heard k (Happened (Up k piece) ∷ t)) (asks_once known k t)
MayFailOnce known t (UpEnd k) = IsComplete (heard k t) true (asks_once known k t) → ⊥
MayFailOnce known t (UpFailed k) = Unit {0}
MayFailOnce known t event = ⊥

-- An event with which it must be.
abbrev pub MustFailOnce : Known → List Entry → Event → Type 0
MustFailOnce known t (Up k piece) = IsPlainlyBroken known (heard k (Happened (Up k piece) ∷ t)) (asks_once known k t)
MustFailOnce known t event = MayFailOnce known t event

-- The event is one with which an answer failed, or not, as is known of it.
abbrev pub IsJudgedOnce : Known → List Entry → Event → Bool → Type 0
IsJudgedOnce known t event true = MayFailOnce known t event
IsJudgedOnce known t event false = MustFailOnce known t event → ⊥

-- What is known of failures is right at each event of the tape.
abbrev pub AreJudgedOnce : Known → List Entry → Type 0
AreJudgedOnce known [] = Unit {0}
AreJudgedOnce known (Happened event ∷ t) = IsJudgedOnce known t event (fails_behind known t) × AreJudgedOnce known t
AreJudgedOnce known (_ ∷ t) = AreJudgedOnce known t
