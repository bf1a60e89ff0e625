use Rattle.transcript_reader.specs.Driven.{IsDriven}
use Rattle.transcript_reader.proofs.runs.take_all.Given as goal

abbrev pub invariant-loop-event : goal.invariant-loop-event
invariant-loop-event l = IsDriven l.gateway
