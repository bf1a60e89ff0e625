use Rattle.std.proofs.Common.{refl}
use Rattle.std.proofs.Math.Logic.{∥∥₁_map}
use Rattle.clients.proofs.Serving.{taken}
use Rattle.clients.proofs.client.Serving.turn.Goals as goal

pub invariant_of-self-clause-stands : goal.invariant_of-self-clause-stands
invariant_of-self-clause-stands g c =
    let old = c.args.self.now.sockets in
    let turn = c.take_turn.ensures in
    ∥∥₁_map c.args.self.now.stands
    (taken g.S.Socket.left g.S.Socket.held old c.take_turn.new.world (λ watched. watched.world.sockets) (λ sockets. record old { world = record old.world { sockets = sockets } }) (λ sockets. refl)
    c.args.self.now.service c.take_turn.new.self c.take_turn.result refl turn.calls_are turn.ended turn.outcome)
