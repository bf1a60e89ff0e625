use Rattle.std.proofs.Common.{refl}
use Rattle.model.specs.Logs.Event.{UpEnd}
use Rattle.model.specs.Tapes.Entry.{Happened}
use Rattle.theory_requests.specs.Lines.{find}
use Rattle.upstream_connections.specs.Connections.{number_of}
use Rattle.refinement.specs.View.{balanced}
use Rattle.refinement.specs.Rest.{back_of}
use Rattle.event_handlers.proofs.MidSteps.{mid_of}
use Rattle.event_handlers.proofs.Calming.{calm_comes}
use Rattle.event_handlers.specs.Inputs.Input.{OfEvent}
use Rattle.event_handlers.specs.Resting.{now_of}
use Rattle.event_handlers.proofs.Following.{comes_then}
use Rattle.event_handlers.proofs.Results.{if_ok, on_over, stopped}
use Rattle.event_handlers.proofs.hearing.end_to_rest.Goals as goal

pub come_to_rest-requires-clause-reached : goal.come_to_rest-requires-clause-reached
come_to_rest-requires-clause-reached c =
    let before = c.requires.reached in
    let here = c.in_ok-back.ensures.brings before.0 before.1.0 before.1.1 before.1.2 in
    (before.0, (_, here.segment.state, here.segment.leads))

pub come_to_rest-requires-clause-mid : goal.come_to_rest-requires-clause-mid
come_to_rest-requires-clause-mid c =
    mid_of (find number_of c.args.k c.args.session.now.upstreams.live) c.stream_of-stream.result c.end.new.session c.requires.admitted c.stream_of-stream.ensures c.in_ok-back.ensures.mid

pub returns-clause-comes : goal.returns-clause-comes
returns-clause-comes c =
    if_ok c.come_to_rest.result
    (λ went follows setup.
    comes_then setup c.args.session.now c.end.new.session balanced (back_of c.in_ok-back.back) balanced c.args.out.now c.end.new.out c.come_to_rest.new.out (Happened (UpEnd c.args.k)) (OfEvent (UpEnd c.args.k)) (now_of went c.come_to_rest.new.session) refl
    (c.in_ok-back.ensures.brings setup) (follows setup)) c.come_to_rest.ensures.follows

-- ---- the connection ends in place of a frame

pub returns-in_err-back-clause-over : goal.returns-in_err-back-clause-over
returns-in_err-back-clause-over c = stopped c.from_residual.result c.in_err-back.field-0.0 c.from_residual.ensures.1 (λ comes. comes) c.in_err-back.ensures.over

pub returns-clause-over : goal.returns-clause-over
returns-clause-over c =
    on_over c.come_to_rest.result
    (λ ends setup.
    calm_comes setup c.args.session.now c.end.new.session balanced (back_of c.in_ok-back.back) c.args.out.now c.end.new.out c.come_to_rest.new.out (Happened (UpEnd c.args.k)) (OfEvent (UpEnd c.args.k)) refl
    (c.in_ok-back.ensures.brings setup) (ends setup)) c.come_to_rest.ensures.over
