use Rattle.std.proofs.Common.{◌≤◌, ◌+◌}
use Rattle.sockets_tests.proofs.upstream_tests.read_slowly.Given as goal

abbrev pub invariant-loop-turn : goal.invariant-loop-turn
invariant-loop-turn l = record {
  calls : l.world.calls ≤ l.fn.world.calls + l._turn;
  failures : l.world.failures ≤ l.fn.world.failures + l._turn;
}
