-- Turns are fair, where each connection carries one exchange.
use Rattle.std.specs.Prelude.{◌≡◌, ℕ, ◌≤◌, true, List, [], ◌∷◌, ◌++◌}
use Rattle.model.specs.Tapes.{Entry}
use Rattle.model.specs.Tapes.Entry.{Sent}
use Rattle.model.specs.Known.{Known}
use Rattle.model.specs.Synchrony.{begins_part, turns_on}
use Rattle.one_exchange.specs.Progress.{IsReadyOnce}

-- The stream is ready before each turn, of whichever stream, in a stretch of the tape that stands behind this one.
abbrev pub IsReadyAtEachOnce : Known → ℕ → List Entry → List Entry → Type 0
IsReadyAtEachOnce known stream before [] = Unit {0}
IsReadyAtEachOnce known stream before (Sent noted ∷ stretch) =
    (begins_part noted.frame ≡ true → IsReadyOnce known (stretch ++ before) stream) × IsReadyAtEachOnce known stream before stretch
IsReadyAtEachOnce known stream before (_ ∷ stretch) = IsReadyAtEachOnce known stream before stretch

-- While a stream is ready at each turn and has none, no other has two.
abbrev pub AreFairOnce : Known → List Entry → Type 0
AreFairOnce known t =
    (later stretch before : List Entry) → t ≡ later ++ stretch ++ before → (waits other : ℕ) → IsReadyAtEachOnce known waits before stretch
    → turns_on waits stretch ≡ 0 → turns_on other stretch ≤ 1
