use Rattle.std.proofs.Common.{length}
use Rattle.field_rules.proofs.FieldOrder.{SameOrder}
use Rattle.field_rules.proofs.fields.stand_first.Given as goal

abbrev pub invariant-loop-rest : goal.invariant-loop-rest
invariant-loop-rest l = SameOrder l.rest l.head

abbrev pub decreases-loop-rest : goal.decreases-loop-rest
decreases-loop-rest l = length l.rest
