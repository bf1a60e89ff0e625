use Rattle.std.proofs.Common.{◌≡◌, true, sym, subst}
use Rattle.std.specs.Prelude.{is_some, IfOk, IfSome}
use Rattle.theory_requests.specs.Lines.{find}
use Rattle.upstream_connections.specs.Connections.{number_of}
use Rattle.refinement.specs.View.{View}
use Rattle.event_handlers.specs.exchanges.Taking.{AreTaken, answered_with}
use Rattle.event_handlers.proofs.Results.{if_ok}
use Rattle.event_handlers.proofs.exchanges.Lends.{octets_taken}
use Rattle.event_handlers.proofs.exchanges.listening.take_octets.Goals as goal

pub returns : goal.returns
returns c =
    let old : View = record { inbound = c.session.inside.inbound; offers = c.session.inside.offers; upstreams = c.session.inside.upstreams; marks = c.session.inside.marks; encoding = c.session.inside.encoder; untaken = c.session.inside.untaken } in
    let opened : is_some (find number_of c.args.k old.upstreams.live) ≡ true = subst (λ (v : View). is_some (find number_of c.args.k v.upstreams.live) ≡ true) (sym c.session.view_is) c.requires.opened in
    let of : IfSome (find number_of c.args.k old.upstreams.live) (λ x. c.args.stream ≡ x.live.stream) = subst (λ (v : View). IfSome (find number_of c.args.k v.upstreams.live) (λ x. c.args.stream ≡ x.live.stream)) (sym c.session.view_is) c.requires.of in
    let left = c.hear_answer.new.answer in
    let offers = c.hear_answer.new.offers in
    subst (λ (v : View). IfOk c.hear_answer.result (λ heard. AreTaken v c.args.k c.args.octets.now heard (answered_with c.args.k left offers old))) c.session.view_is
    (if_ok c.hear_answer.result (λ heard. octets_taken old c.args.k c.args.stream c.in-Some.answer.now left offers opened of c.in-Some.ensures.is c.args.octets.now heard) c.hear_answer.ensures)
