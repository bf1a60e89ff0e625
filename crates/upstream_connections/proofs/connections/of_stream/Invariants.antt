use Rattle.std.proofs.Common.{◌≡◌, suc}
use Rattle.std.specs.Prelude.{reverse}
use Rattle.theory_requests.specs.Lines.{find}
use Rattle.upstream_connections.specs.Connections.{works_for}
use Rattle.upstream_connections.proofs.connections.of_stream.Given as goal

abbrev pub invariant-loop-connection : goal.invariant-loop-connection
invariant-loop-connection l = find works_for (suc l.id) (reverse l.connection-iterator.iter.rest.now) ≡ find works_for (suc l.id) (reverse l.connections)
