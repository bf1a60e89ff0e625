use Rattle.refinement.specs.View.{balanced}
use Rattle.refinement.specs.Rest.{back_of}
use Rattle.event_handlers.specs.Resting.{now_of}
use Rattle.event_handlers.proofs.Calming.{calm_behind}
use Rattle.event_handlers.proofs.Following.{follows_then}
use Rattle.event_handlers.proofs.MidSteps.{mid_returned}
use Rattle.event_handlers.proofs.Results.{if_ok, on_over, stopped}
use Rattle.event_handlers.proofs.resting.come_to_rest.Goals as goal

pub rest_behind-requires-clause-reached : goal.rest_behind-requires-clause-reached
rest_behind-requires-clause-reached c =
    let before = c.requires.reached in
    let returned = c.in_ok-return_dropped.ensures.performs in
    let there = returned.2 before.0 before.1.0 before.1.1 before.1.2 in
    (before.0, returned.0, returned.1, (_, there.segment.state, there.segment.leads))

pub rest_behind-requires-clause-mid : goal.rest_behind-requires-clause-mid
rest_behind-requires-clause-mid c = mid_returned c.args.id c.args.session.now c.return_dropped.new.session c.in_ok-return_dropped.ensures.stays c.requires.mid

pub returns-clause-follows : goal.returns-clause-follows
returns-clause-follows c =
    let returned = c.in_ok-return_dropped.ensures.performs in
    if_ok c.rest_behind.result
    (λ went follows setup.
    follows_then setup c.args.session.now c.return_dropped.new.session (back_of c.args.dropped) (back_of returned.0) balanced c.args.out.now c.return_dropped.new.out c.rest_behind.new.out (now_of went c.rest_behind.new.session) (returned.2 setup)
    (follows returned.0 returned.1 setup)) c.rest_behind.ensures.follows

pub returns-in_err-return_dropped-clause-over : goal.returns-in_err-return_dropped-clause-over
returns-in_err-return_dropped-clause-over c =
    stopped c.from_residual.result c.in_err-return_dropped.field-0.0 c.from_residual.ensures.1 (λ ends. ends) c.in_err-return_dropped.ensures.over

pub returns-clause-over : goal.returns-clause-over
returns-clause-over c =
    let returned = c.in_ok-return_dropped.ensures.performs in
    on_over c.rest_behind.result
    (λ ends setup.
    calm_behind setup c.args.session.now c.return_dropped.new.session (back_of c.args.dropped) (back_of returned.0) c.args.out.now c.return_dropped.new.out c.rest_behind.new.out (returned.2 setup)
    (ends returned.0 returned.1 setup)) c.rest_behind.ensures.over
