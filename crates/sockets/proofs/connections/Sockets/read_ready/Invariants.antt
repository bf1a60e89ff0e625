use Rattle.std.proofs.Common.{◌≡◌}
use Rattle.std.specs.Prelude.{None, Ok}
use Rattle.sockets.specs.Performed.{MovesOn}
use Rattle.sockets.specs.Queues.{HasQueued}
use Rattle.sockets.specs.Tokens.{number_of_client}
use Rattle.sockets.proofs.connections.Sockets.read_ready.Given as goal

abbrev pub invariant-loop : goal.invariant-loop
invariant-loop g l = record {
  moves : MovesOn g.S.Socket.left g.S.Socket.held (Ok None) l.fn.self.client l.fn.self.upstreams.items l.self.client l.self.upstreams.items;
  queued : HasQueued l.fn.self → HasQueued l.self;
  heard : HasQueued l.fn.self → l.self.heard_at ≡ l.fn.self.heard_at;
  addresses : l.self.addresses ≡ l.fn.self.addresses;
  number : number_of_client l.self.reporting ≡ number_of_client l.fn.self.reporting;
  portion : l.self.buffer.portion ≡ l.fn.self.buffer.portion;
}
