use Rattle.std.proofs.Math.Logic.{∥∥₁_map}
use Rattle.clients.proofs.Serving.{goes_aside}
use Rattle.clients.proofs.client.Serving.end_idle.Goals as goal

pub invariant_of-self-clause-stands : goal.invariant_of-self-clause-stands
invariant_of-self-clause-stands g c =
    ∥∥₁_map c.args.self.now.stands (goes_aside g.S.Socket.left g.S.Socket.held _ _ _ c.note_idle.ensures.moved_by c.note_idle.ensures.queued)
