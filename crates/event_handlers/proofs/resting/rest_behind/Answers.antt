use Rattle.std.proofs.Common.{◌≡◌, true, sym, subst}
use Rattle.connection_state.specs.Inbound.{Inbound}
use Rattle.theory_responses.specs.State as theory_responses
use Rattle.streams.specs.Asked.{has}
use Rattle.refinement.specs.View.{balanced}
use Rattle.refinement.specs.Rest.{NoneCut, back_of}
use Rattle.event_handlers.proofs.Calming.{calm_behind}
use Rattle.event_handlers.specs.Resting.{now_of}
use Rattle.event_handlers.proofs.Following.{follows_then}
use Rattle.event_handlers.proofs.Results.{if_ok, on_over}
use Rattle.event_handlers.proofs.Stays.{on_as}
use Rattle.event_handlers.proofs.resting.rest_behind.Goals as goal

pub rest-requires-clause-reached : goal.rest-requires-clause-reached
rest-requires-clause-reached c =
    let before = c.requires.reached in
    let here = c.in_ok-close_unserved.ensures.performs before.0 before.1 before.3.0 before.3.1 before.3.2 in
    (before.0, before.1, (λ on. before.2 (on_as c.args.session.now c.close_unserved.new.session c.in_ok-close_unserved.ensures.inbound on)), (_, here.segment.state, here.segment.leads))

pub rest-requires-clause-none_cut : goal.rest-requires-clause-none_cut
rest-requires-clause-none_cut c = subst (λ (o : theory_responses.State). NoneCut o) (sym c.in_ok-close_unserved.ensures.offers) c.requires.mid.none_cut

pub rest-requires-clause-numbered : goal.rest-requires-clause-numbered
rest-requires-clause-numbered c id kept = c.requires.mid.numbered id (subst (λ (i : Inbound). has i.rows id ≡ true) c.in_ok-close_unserved.ensures.inbound kept)

pub returns-clause-follows : goal.returns-clause-follows
returns-clause-follows c =
    if_ok c.rest.result
    (λ went follows back is_back setup.
    follows_then setup c.args.session.now c.close_unserved.new.session (back_of back) (back_of back) balanced c.args.out.now c.close_unserved.new.out c.rest.new.out (now_of went c.rest.new.session) (c.in_ok-close_unserved.ensures.performs setup back)
    (follows back (λ on. is_back (on_as c.args.session.now c.close_unserved.new.session c.in_ok-close_unserved.ensures.inbound on)) setup)) c.rest.ensures.follows

pub returns-clause-over : goal.returns-clause-over
returns-clause-over c =
    on_over c.rest.result
    (λ ends back is_back setup.
    calm_behind setup c.args.session.now c.close_unserved.new.session (back_of back) (back_of back) c.args.out.now c.close_unserved.new.out c.rest.new.out (c.in_ok-close_unserved.ensures.performs setup back)
    (ends back (λ on. is_back (on_as c.args.session.now c.close_unserved.new.session c.in_ok-close_unserved.ensures.inbound on)) setup)) c.rest.ensures.over
