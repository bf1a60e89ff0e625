use Rattle.refused_memory.specs.Driven.{IsDriven}
use Rattle.refused_memory.proofs.pairs.met_among.Given as goal

abbrev pub invariant-loop-event : goal.invariant-loop-event
invariant-loop-event l = IsDriven l.gateway × IsDriven l.other
