use Rattle.std.proofs.Common.{length, map}
use Rattle.replay.proofs.ScriptsLemmas.{SoFar}
use Rattle.gateway.specs.Views.{event_of}
use Rattle.replay.proofs.scripts.read_script.Given as goal

abbrev pub invariant-loop-line : goal.invariant-loop-line
invariant-loop-line l = SoFar l.fn.script l.rest (map event_of l.events.items)

abbrev pub decreases-loop-line : goal.decreases-loop-line
decreases-loop-line l = length l.rest
