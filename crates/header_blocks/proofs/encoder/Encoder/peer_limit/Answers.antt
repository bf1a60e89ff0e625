use Rattle.std.proofs.Common.{subst, sym}
use Rattle.header_blocks.specs.Encoding.{Encoding, StandsFor}
use Rattle.header_blocks.proofs.Announced.{one_more_limit}
use Rattle.header_blocks.proofs.encoder.Encoder.peer_limit.Goals as goal

pub returns-clause-stands_for : goal.returns-clause-stands_for
returns-clause-stands_for c = λ limits p.
    rw c.limits_and.ensures.limits (one_more_limit limits c.self.inside.limits c.args.limit (subst (λ (e : Encoding). StandsFor limits e.limits) (sym c.self.view_is) p))
