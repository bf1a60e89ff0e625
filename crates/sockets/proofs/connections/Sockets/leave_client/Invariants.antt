use Rattle.std.proofs.Common.{◌≡◌, []}
use Rattle.sockets.specs.Sides.{Goes, lost_news}
use Rattle.sockets.proofs.connections.Sockets.leave_client.Given as goal

abbrev pub invariant-loop : goal.invariant-loop
invariant-loop g l = (l.self.upstreams.items ≡ []) × Goes g.S.Socket.left g.S.Socket.held lost_news l.fn.self.client l.self.client
