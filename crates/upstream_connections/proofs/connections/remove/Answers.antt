use Rattle.std.proofs.Common.{◌∙◌, ap, sym}
use Rattle.std.specs.Prelude.{reverse}
use Rattle.upstream_connections.specs.Connections.{IsOpenAt}
use Rattle.upstream_connections.proofs.Openings.{removed, none_removed}
use Rattle.upstream_connections.proofs.connections.remove.Goals as goal

pub returns-in-Some : goal.returns-in-Some
returns-in-Some c =
    let is : IsOpenAt c.args.connections.now.items c.args.k c.in-Some.place = rw (← c.deref.ensures.value) c.in-Some.ensures.found in
    ap reverse c.remove.ensures.items ∙ sym (removed c.args.connections.now.items c.requires c.args.k c.in-Some.place is)

pub returns-in_default : goal.returns-in_default
returns-in_default c = sym (none_removed c.args.connections.now.items c.args.k (rw (← c.deref.ensures.value) c.in_default.ensures.absent))
