use Rattle.std.proofs.Common.{◌+◌, ◌≤◌}
use Rattle.clients.proofs.client.Serving.take_turns_at.Given as goal

-- each turn so far took one at most
abbrev pub invariant-loop : goal.invariant-loop
invariant-loop g l = l.fn.self.turns ≤ l.self.turns + l.counter
