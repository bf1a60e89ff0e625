use Rattle.std.proofs.Common.{length}
use Rattle.field_rules.specs.Ordinary.{EndsOrdinary}
use Rattle.field_rules.proofs.fields.before_ordinary.Given as goal

abbrev pub invariant-loop-front : goal.invariant-loop-front
invariant-loop-front l = EndsOrdinary l.front l.head

abbrev pub decreases-loop-front : goal.decreases-loop-front
decreases-loop-front l = length l.front
