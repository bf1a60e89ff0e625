use Rattle.std.proofs.Common.{not, ap, ◌∙◌}
use Rattle.sockets.proofs.Idling.{opens_anew}
use Rattle.sockets.proofs.connections.Sockets.may_open.Goals as goal

pub returns-then-k-ne-CLIENT : goal.returns-then-k-ne-CLIENT
returns-then-k-ne-CLIENT g c = λ is. opens_anew c.args.k c.args.self.now.upstreams.items c.deref.result.now c.place_of.result c.if-k-ne-CLIENT.true c.deref.ensures.value c.place_of.ensures.absent (c.is_none.ensures ∙ ap not is)
