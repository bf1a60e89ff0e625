use Rattle.std.proofs.Common.{sym, ◌∙◌}
use Rattle.sockets.proofs.Moving.{front_still, deaf_still}
use Rattle.sockets.proofs.upstream.Upstream.put.Goals as goal

pub returns-then-is_deaf-clause-front : goal.returns-then-is_deaf-clause-front
returns-then-is_deaf-clause-front g c = front_still _ _ c.args.octets.now c.args.self.now

pub returns-then-is_deaf-clause-sends : goal.returns-then-is_deaf-clause-sends
returns-then-is_deaf-clause-sends g c = deaf_still _ _ c.args.octets.now c.args.self.now (sym c.is_deaf.ensures ∙ c.if-is_deaf.true)
