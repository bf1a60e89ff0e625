use Rattle.std.proofs.Math.Logic.{∥∥₁_map}
use Rattle.clients.proofs.Serving.{goes_aside, fails_aside}
use Rattle.clients.proofs.client.Serving.hear.Goals as goal

pub invariant_of-self-clause-stands : goal.invariant_of-self-clause-stands
invariant_of-self-clause-stands g c =
    ∥∥₁_map c.args.self.now.stands (goes_aside g.S.Socket.left g.S.Socket.held _ _ _ c.in-Ok.ensures.moved_by c.in-Ok.ensures.queued)

pub invariant_of-self-in-Err-clause-stands : goal.invariant_of-self-in-Err-clause-stands
invariant_of-self-in-Err-clause-stands g c =
    ∥∥₁_map c.args.self.now.stands (fails_aside g.S.Socket.left g.S.Socket.held _ _ _ _ c.in-Err.fault c.fail.ensures c.in-Err.ensures.moved_by)
