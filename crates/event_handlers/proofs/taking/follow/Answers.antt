use Rattle.std.proofs.Common.{refl, ◌∙◌}
use Rattle.refinement.specs.View.{balanced}
use Rattle.event_handlers.proofs.MidSteps.{mid_returned}
use Rattle.event_handlers.proofs.Calming.{calm_behind}
use Rattle.event_handlers.specs.Resting.{now_of}
use Rattle.event_handlers.proofs.Ends.{shut_follows}
use Rattle.event_handlers.proofs.Following.{follows_then}
use Rattle.event_handlers.proofs.Results.{if_ok, on_over, stopped}
use Rattle.event_handlers.proofs.Stays.{ends_as}
use Rattle.event_handlers.proofs.taking.follow.Goals as goal

pub shut-requires : goal.shut-requires
shut-requires c = record { exhausted = ends_as c.args.session.now _ c.is_exhausted.result c.session.view_is c.is_exhausted.ensures ∙ c.if-is_exhausted.true }

pub returns-then-is_exhausted-clause-follows : goal.returns-then-is_exhausted-clause-follows
returns-then-is_exhausted-clause-follows c setup = shut_follows setup c.args.session.now c.args.octets c.args.dropped balanced c.args.out.now c.shut.new.out (λ run s leads. c.in_ok-shut.ensures setup run s c.args.octets c.args.dropped leads)

pub settle-requires-clause-goes_on : goal.settle-requires-clause-goes_on
settle-requires-clause-goes_on c = ends_as c.args.session.now _ c.is_exhausted.result c.session.view_is c.is_exhausted.ensures ∙ c.if-is_exhausted.false

pub rest_behind-requires-clause-reached : goal.rest_behind-requires-clause-reached
rest_behind-requires-clause-reached c =
    let before = c.requires.reached in
    let here = c.in_ok-settle.ensures.performs before.0 before.1.0 before.1.1 before.1.2 in
    (before.0, 0, (λ on. refl), (_, here.segment.state, here.segment.leads))

pub returns-clause-follows : goal.returns-clause-follows
returns-clause-follows c =
    if_ok c.rest_behind.result
    (λ went follows setup.
    follows_then setup c.args.session.now c.settle.new.session (record balanced { fresh = c.args.octets; shared = c.args.dropped }) balanced balanced c.args.out.now c.settle.new.out c.rest_behind.new.out (now_of went c.rest_behind.new.session) (c.in_ok-settle.ensures.performs setup) (follows 0 (λ on. refl) setup)) c.rest_behind.ensures.follows

pub returns-in_err-settle-clause-over : goal.returns-in_err-settle-clause-over
returns-in_err-settle-clause-over c = stopped c.from_residual-in_err-settle.result c.in_err-settle.field-0.0 c.from_residual-in_err-settle.ensures.1 (λ ends. ends) c.in_err-settle.ensures.over

pub returns-clause-over : goal.returns-clause-over
returns-clause-over c =
    on_over c.rest_behind.result
    (λ ends setup.
    calm_behind setup c.args.session.now c.settle.new.session (record balanced { fresh = c.args.octets; shared = c.args.dropped }) balanced c.args.out.now c.settle.new.out c.rest_behind.new.out (c.in_ok-settle.ensures.performs setup) (ends 0 (λ on. refl) setup)) c.rest_behind.ensures.over

pub rest_behind-requires-clause-mid : goal.rest_behind-requires-clause-mid
rest_behind-requires-clause-mid c = mid_returned c.args.id c.args.session.now c.settle.new.session c.in_ok-settle.ensures.stays c.requires.mid
