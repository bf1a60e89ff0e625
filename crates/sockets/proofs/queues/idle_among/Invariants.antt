use Rattle.std.proofs.Common.{◌≡◌, ◌<◌, ℕ, get_or}
use Rattle.std.specs.List.{Contains}
use Rattle.sockets.proofs.queues.idle_among.Given as goal

-- none of those before is one of an idle connection
abbrev pub invariant-loop-place : goal.invariant-loop-place
invariant-loop-place l = (k : ℕ) → 0 < k → Contains l.idle k → (i : ℕ) → i < l.place → get_or l.ready.items i k ≡ k → ⊥
