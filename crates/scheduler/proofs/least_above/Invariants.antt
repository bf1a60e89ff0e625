use Rattle.scheduler.specs.Least.{IsLeastAbove}
use Rattle.scheduler.proofs.least_above.Given as goal

abbrev pub invariant-loop-id : goal.invariant-loop-id
invariant-loop-id l = IsLeastAbove l.last l.ready l.id-index l.least
