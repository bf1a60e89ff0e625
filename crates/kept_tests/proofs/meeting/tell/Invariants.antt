use Rattle.std.proofs.Common.{◌≡◌}
use Rattle.kept_tests.proofs.meeting.tell.Given as goal

abbrev pub invariant-loop-report : goal.invariant-loop-report
invariant-loop-report g l = record {
  can_next : (goal.iterator-loop-report g).can_next l.report-iterator;
  is_finite : (goal.iterator-loop-report g).is_finite l.report-iterator;
  calls : l.world.calls ≡ l.fn.world.calls;
  failures : l.world.failures ≡ l.fn.world.failures;
}
