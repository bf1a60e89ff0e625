use Rattle.std.proofs.Common.{◌≡◌, ◌+◌}
use Rattle.sockets_tests.proofs.upstream_tests.hear.Given as goal

abbrev pub invariant-loop-turn : goal.invariant-loop-turn
invariant-loop-turn g l = record {
  calls : l.world.calls ≡ l.fn.world.calls + l._turn;
  failures : l.world.failures ≡ l.fn.world.failures;
}
