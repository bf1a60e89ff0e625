use Rattle.std.proofs.Common.{[], sym, ◌∙◌}
use Rattle.sockets.proofs.Moving.{deaf_still}
use Rattle.sockets.proofs.upstream.Upstream.flush.Goals as goal

pub returns-then-is_deaf-clause-sends : goal.returns-then-is_deaf-clause-sends
returns-then-is_deaf-clause-sends g c = deaf_still _ _ [] c.args.self.now (sym c.is_deaf.ensures ∙ c.if-is_deaf.true)
