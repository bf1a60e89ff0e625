use Rattle.std.proofs.Common.{◌≡◌, true, [], None, sym, ap, ◌∙◌, subst}
use Rattle.theory_requests.specs.State.{Way, Held}
use Rattle.theory_requests.specs.State.Way.{Going}
use Rattle.upstream_connections.specs.Ways.{way_of}
use Rattle.upstream_connections.specs.Requests.{due_by, GoesBy}
use Rattle.upstream_connections.proofs.Passed.{passes_last}
use Rattle.upstream_connections.proofs.held.Held.finish.Goals as goal

pub returns-in_ok-text-in-Going : goal.returns-in_ok-text-in-Going
returns-in_ok-text-in-Going c =
    let way : c.args.self.way ≡ Going c.in-Going.number c.in-Going.going = sym (ap (λ (h : Held). h.way) c.self.view_is) ∙ ap way_of c.in-Going.is in
    subst (λ (w : Way). GoesBy [] c.args.self.id c.args.octets.now c.args.trailers.now true w (due_by c.to_send.result) None) (sym way)
    (passes_last c.args.octets.now c.args.trailers.now c.in-Going.number c.in-Going.going c.pass.new.self c.in_ok-text-in-Going.text.items (due_by c.to_send.result) c.in_ok-text-in-Going.ensures c.to_send.ensures)
