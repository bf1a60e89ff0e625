use Rattle.std.proofs.Common.{◌≡◌, ◌+◌}
use Rattle.model.specs.Tables.{total_size}
use Rattle.http1_tests.proofs.replies_tests.fields_of.Given as goal

abbrev pub invariant-loop-line : goal.invariant-loop-line
invariant-loop-line l = total_size l.fields.items + l.room ≡ 16384
