use Rattle.std.proofs.Common.{◌≡◌, drop}
use Rattle.send_queue.specs.Asked.{windows_over, first_ready}
use Rattle.send_queue.proofs.turns.first_ready.Given as goal

-- no stream so far is ready
abbrev pub invariant-loop-stream : goal.invariant-loop-stream
invariant-loop-stream l = first_ready (windows_over l.streams l.first_size l.shared) (drop l.stream-index l.kept) ≡ first_ready (windows_over l.streams l.first_size l.shared) l.kept
