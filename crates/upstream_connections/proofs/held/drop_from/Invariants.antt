use Rattle.std.proofs.Common.{◌≡◌}
use Rattle.upstream_connections.proofs.Requests.{dropped_to}
use Rattle.upstream_connections.proofs.held.drop_from.Given as goal

abbrev pub invariant-loop-h : goal.invariant-loop-h
invariant-loop-h l = l.h-items ≡ dropped_to l.k l.h-index l.fn.held.items
