use Rattle.std.proofs.Common.{refl}
use Rattle.std.specs.Prelude.{is_some}
use Rattle.std.proofs.lemmas.Bool.{and_parts}
use Rattle.model.specs.Logs.Event.{Up}
use Rattle.model.specs.Tapes.Entry.{Happened}
use Rattle.theory_requests.specs.Lines.{find}
use Rattle.upstream_connections.specs.Connections.{number_of}
use Rattle.refinement.specs.View.{balanced}
use Rattle.refinement.specs.Rest.{back_of}
use Rattle.event_handlers.proofs.MidSteps.{mid_of}
use Rattle.event_handlers.proofs.Calming.{calm_comes}
use Rattle.event_handlers.specs.Inputs.Input.{OfEvent}
use Rattle.event_handlers.specs.Resting.{now_of}
use Rattle.event_handlers.proofs.Following.{comes_then}
use Rattle.event_handlers.proofs.Results.{if_ok, on_over, stopped}
use Rattle.event_handlers.proofs.hearing.hear_to_rest.Goals as goal

pub come_to_rest-requires-clause-reached : goal.come_to_rest-requires-clause-reached
come_to_rest-requires-clause-reached c =
    let before = c.requires.reached in
    let here = c.in_ok-back.ensures.brings before.0 before.1 before.2.0 before.2.1 before.2.2 in
    (before.0, (_, here.segment.state, here.segment.leads))

pub come_to_rest-requires-clause-mid : goal.come_to_rest-requires-clause-mid
come_to_rest-requires-clause-mid c =
    mid_of (find number_of c.args.k c.args.session.now.upstreams.live) c.stream_of-stream.result c.hear.new.session (and_parts (is_some (find number_of c.args.k c.args.session.now.upstreams.live)) _ c.requires.admitted).0 c.stream_of-stream.ensures c.in_ok-back.ensures.mid

pub returns-clause-comes : goal.returns-clause-comes
returns-clause-comes c =
    if_ok c.come_to_rest.result
    (λ went follows setup keeps.
    comes_then setup c.args.session.now c.hear.new.session balanced (back_of c.in_ok-back.back) balanced c.args.out.now c.hear.new.out c.come_to_rest.new.out (Happened (Up c.args.k c.args.octets.now)) (OfEvent (Up c.args.k c.args.octets.now)) (now_of went c.come_to_rest.new.session) refl
    (c.in_ok-back.ensures.brings setup keeps) (follows setup)) c.come_to_rest.ensures.follows

-- ---- the connection ends in place of a frame

pub returns-in_err-back-clause-over : goal.returns-in_err-back-clause-over
returns-in_err-back-clause-over c = stopped c.from_residual.result c.in_err-back.field-0.0 c.from_residual.ensures.1 (λ comes. comes) c.in_err-back.ensures.over

pub returns-clause-over : goal.returns-clause-over
returns-clause-over c =
    on_over c.come_to_rest.result
    (λ ends setup keeps.
    calm_comes setup c.args.session.now c.hear.new.session balanced (back_of c.in_ok-back.back) c.args.out.now c.hear.new.out c.come_to_rest.new.out (Happened (Up c.args.k c.args.octets.now)) (OfEvent (Up c.args.k c.args.octets.now)) refl
    (c.in_ok-back.ensures.brings setup keeps) (ends setup)) c.come_to_rest.ensures.over
