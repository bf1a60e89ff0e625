use Rattle.std.proofs.Common.{◌∙◌, ap}
use Rattle.upstream_connections.specs.Requests.{IsHeldAt}
use Rattle.upstream_connections.specs.Ways.{way_of}
use Rattle.upstream_connections.proofs.Requests.{held_there, held_new}
use Rattle.std.specs.Prelude.{reverse}
use Rattle.upstream_connections.proofs.held.hold.Goals as goal

pub returns-in-Some-clause-ok : goal.returns-in-Some-clause-ok
returns-in-Some-clause-ok c =
    let is : IsHeldAt c.args.held.now.items c.args.id c.in-Some.place = rw (← c.deref.ensures.value) c.in-Some.ensures.found in
    held_there c.args.held.now.items c.requires c.args.id c.in-Some.place is (way_of c.args.way)

pub returns-in_ok-push-in-None-clause-ok : goal.returns-in_ok-push-in-None-clause-ok
returns-in_ok-push-in-None-clause-ok c =
    ap reverse c.in_ok-push-in-None.ensures.items
    ∙ held_new c.args.held.now.items c.args.id (rw (← c.deref.ensures.value) c.in-None.ensures.absent) (way_of c.args.way)
