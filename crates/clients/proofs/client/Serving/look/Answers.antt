use Rattle.std.proofs.Math.Logic.{∥∥₁_map}
use Rattle.clients.proofs.client.Serving.look.Goals as goal

pub invariant_of-self-clause-stands : goal.invariant_of-self-clause-stands
invariant_of-self-clause-stands g c = ∥∥₁_map c.args.self.now.stands c.look_at.ensures.served
