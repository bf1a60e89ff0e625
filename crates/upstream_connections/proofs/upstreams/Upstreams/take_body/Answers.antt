use Rattle.std.proofs.Common.{sym, subst}
use Rattle.std.specs.Prelude.{reverse}
use Rattle.theory_requests.specs.State.{held_of}
use Rattle.upstream_connections.specs.Connections.{lives}
use Rattle.upstream_connections.specs.Requests.{due_by, Takes}
use Rattle.upstream_connections.proofs.Requests.{takes_idle}
use Rattle.upstream_connections.proofs.upstreams.Upstreams.take_body.Goals as goal

pub returns-clause-takes : goal.returns-clause-takes
returns-clause-takes c =
    let ls = lives (reverse c.self.inside.connections.items) in
    let hs = reverse c.self.inside.held.items in
    let left = reverse c.take_body.new.held.items in
    rw (← c.self.view_is)
    (subst (λ d. Takes ls c.args.id c.args.octets.now c.args.trailers.now c.args.ends hs (held_of c.args.id hs) d left) (sym c.on_idle.ensures)
    (takes_idle ls c.args.id c.args.octets.now c.args.trailers.now c.args.ends hs left (held_of c.args.id hs) (due_by c.in_ok-due.due) c.in_ok-due.ensures.takes))
