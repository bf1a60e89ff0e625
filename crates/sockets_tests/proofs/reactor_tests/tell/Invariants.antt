use Rattle.std.proofs.Common.{◌≡◌}
use Rattle.sockets_tests.proofs.reactor_tests.tell.Given as goal

abbrev pub invariant-loop-report : goal.invariant-loop-report
invariant-loop-report l = record {
  can_next : goal.iterator-loop-report.can_next l.report-iterator;
  is_finite : goal.iterator-loop-report.is_finite l.report-iterator;
  first_calls : l.first.calls ≡ l.fn.first.calls;
  first_failures : l.first.failures ≡ l.fn.first.failures;
  second_calls : l.second.calls ≡ l.fn.second.calls;
  second_failures : l.second.failures ≡ l.fn.second.failures;
}
