use Rattle.std.proofs.Common.{length}
use Rattle.h1_reader.proofs.Ending.{GoneTo}
use Rattle.h1_reader.proofs.reader.Reader.take_all.Given as goal

abbrev pub invariant-loop-self : goal.invariant-loop-self
invariant-loop-self l = GoneTo l.initial.self l.initial.told l.octets l.rest l.self l.told

abbrev pub decreases-loop-self : goal.decreases-loop-self
decreases-loop-self l = length l.rest
