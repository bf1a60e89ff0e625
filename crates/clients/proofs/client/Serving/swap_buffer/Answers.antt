use Rattle.std.proofs.Common.{Ok, refl}
use Rattle.std.proofs.Math.Logic.{∥∥₁_map}
use Rattle.sockets.specs.Moves.{seen_in}
use Rattle.sockets.proofs.Moving.{steps_same}
use Rattle.clients.proofs.Serving.{goes_aside}
use Rattle.clients.proofs.client.Serving.swap_buffer.Goals as goal

pub invariant_of-self-clause-stands : goal.invariant_of-self-clause-stands
invariant_of-self-clause-stands g c =
    let stays = c.swap_buffer.ensures.stays in
    let old = c.args.self.now.sockets.world.sockets in
    let new = c.swap_buffer.new.self.sockets in
    ∥∥₁_map c.args.self.now.stands
    (goes_aside g.S.Socket.left g.S.Socket.held _ old new
    (steps_same g.S.Socket.left g.S.Socket.held (Ok tt) (seen_in old) (seen_in new) (rw stays refl) (rw stays refl) (rw stays refl) (rw stays refl)) (rw stays (λ queued. queued)))
