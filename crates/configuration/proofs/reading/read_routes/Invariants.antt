use Rattle.std.proofs.Common.{take}
use Rattle.configuration.proofs.RoutesLemmas.{HasRead}
use Rattle.configuration.proofs.reading.read_routes.Given as goal

abbrev pub invariant-loop-value : goal.invariant-loop-value
invariant-loop-value l = HasRead (take l.value-index l.values) l.routes.items
