use Rattle.std.proofs.Common.{◌∙◌}
use Rattle.upstream_connections.proofs.Requests.{holds_at}
use Rattle.upstream_connections.proofs.held.holds.Goals as goal

pub returns : goal.returns
returns c = c.is_some.ensures ∙ holds_at c.args.held.now c.requires c.args.id c.place_of.result c.place_of.ensures.found c.place_of.ensures.absent
