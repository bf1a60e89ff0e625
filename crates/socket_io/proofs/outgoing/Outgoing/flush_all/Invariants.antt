use Rattle.std.proofs.Common.{◌≡◌, [], length}
use Rattle.socket_io.specs.Transfers.{Passes}
use Rattle.socket_io.proofs.outgoing.Outgoing.flush_all.Given as goal

abbrev pub invariant-loop-self : goal.invariant-loop-self
invariant-loop-self g l = Passes (g.S.Socket.held l.fn.socket) (g.S.Socket.held l.socket) l.fn.self [] l.self × (g.S.Socket.left l.socket ≡ g.S.Socket.left l.fn.socket)

abbrev pub decreases-loop-self : goal.decreases-loop-self
decreases-loop-self g l = length l.self.waiting
