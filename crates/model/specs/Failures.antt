-- At which events an upstream's answer fails (RFC 9110, section 15.6.3): where it may be given up, and where it must be.
use Rattle.std.specs.Prelude.{ℕ, Bool, true, false, ◌⊎◌, List, [], ◌∷◌}
use Rattle.model.specs.Logs.{Event}
use Rattle.model.specs.Logs.Event.{Up, UpEnd, UpFailed}
use Rattle.model.specs.Tapes.{Entry}
use Rattle.model.specs.Tapes.Entry.{Happened}
use Rattle.model.specs.Responses.{IsComplete, IsSpoilt}
use Rattle.model.specs.Noticing.{IsPlainlyBad}
use Rattle.model.specs.Openings.{exchange_on}
use Rattle.model.specs.Available.{heard_by}
use Rattle.model.specs.Known.{Known, fails_behind}
use Rattle.model.specs.Idle.{is_asked_for_head, IsTooLong, IsIdle}

-- The octets so far can't be an answer any more, or are too long.
abbrev pub IsBroken : Known → List ℕ → Bool → Type 0
IsBroken known text to_head = IsSpoilt text to_head ⊎ IsTooLong known text to_head

-- The same, where it has to be noticed at once.
abbrev pub IsPlainlyBroken : Known → List ℕ → Bool → Type 0
IsPlainlyBroken known text to_head = IsPlainlyBad text to_head ⊎ IsTooLong known text to_head

-- An event with which an answer may be given up: octets that break it, the connection's end where it makes no whole response,
-- the connection's failure, unless it is idle.
abbrev pub MayFail : Known → List Entry → Event → Type 0
MayFail known t (Up k piece) = let o = exchange_on k t in IsBroken known (heard_by o (Happened (Up k piece) ∷ t)) (is_asked_for_head known o t)
MayFail known t (UpEnd k) = let o = exchange_on k t in IsComplete (heard_by o t) true (is_asked_for_head known o t) → ⊥
MayFail known t (UpFailed k) = IsIdle known t k → ⊥
MayFail known t event = ⊥

-- An event with which it must be.
abbrev pub MustFail : Known → List Entry → Event → Type 0
MustFail known t (Up k piece) = let o = exchange_on k t in IsPlainlyBroken known (heard_by o (Happened (Up k piece) ∷ t)) (is_asked_for_head known o t)
MustFail known t event = MayFail known t event

-- The event is one with which an answer failed, or not, as is known of it.
abbrev pub IsJudged : Known → List Entry → Event → Bool → Type 0
IsJudged known t event true = MayFail known t event
IsJudged known t event false = MustFail known t event → ⊥

-- What is known of failures is right at each event of the tape.
abbrev pub AreJudged : Known → List Entry → Type 0
AreJudged known [] = Unit {0}
AreJudged known (Happened event ∷ t) = IsJudged known t event (fails_behind known t) × AreJudged known t
AreJudged known (_ ∷ t) = AreJudged known t
