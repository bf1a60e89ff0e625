use Rattle.std.proofs.Common.{take, []}
use Rattle.model.specs.Setup.{Setup}
use Rattle.gateway.specs.Stands.{Stands}
use Rattle.gateway.proofs.Running.{Running}
use Rattle.gateway.proofs.runs.run_all.Given as goal

abbrev pub invariant-loop-n : goal.invariant-loop-n
invariant-loop-n l = (setup : Setup) → Stands setup l.fn.gateway [] [] → Running setup (take l.n l.events) l.outputs.items l.gateway
