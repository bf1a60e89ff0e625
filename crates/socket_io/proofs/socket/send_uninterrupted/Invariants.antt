use Rattle.std.specs.Prelude.{◌≡◌}
use Rattle.std.specs.Io.KnownBytes.{Keeps}
use Rattle.socket_io.proofs.socket.send_uninterrupted.Given as goal

abbrev pub invariant-loop : goal.invariant-loop
invariant-loop g l = Keeps (g.S.Socket.held l.fn.socket) (g.S.Socket.held l.socket) × (g.S.Socket.left l.socket ≡ g.S.Socket.left l.fn.socket)
