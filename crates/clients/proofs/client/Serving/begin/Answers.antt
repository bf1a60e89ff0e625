use Rattle.clients.proofs.Serving.{begins}
use Rattle.clients.proofs.client.Serving.begin.Goals as goal

pub invariant_of-result-clause-stands : goal.invariant_of-result-clause-stands
invariant_of-result-clause-stands g c =
    ∣ begins g.S.Socket.left g.S.Socket.held c.requires.service.0 c.args.service c.args.sockets.world.sockets c.requires.service.1 c.requires.new ∣₁
