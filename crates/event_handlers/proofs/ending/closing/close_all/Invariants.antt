use Rattle.std.proofs.Common.{◌≡◌, take}
use Rattle.upstream_connections.specs.Connections.{lives}
use Rattle.theory.specs.Ending.{closed_all}
use Rattle.refinement.specs.Performing.{put_all}
use Rattle.event_handlers.proofs.ending.closing.close_all.Given as goal

abbrev pub invariant-loop-connection : goal.invariant-loop-connection
invariant-loop-connection l = l.out ≡ put_all l.fn.out (closed_all (lives (take l.connection-index l.connections)))
