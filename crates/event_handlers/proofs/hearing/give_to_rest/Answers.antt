use Rattle.std.proofs.Common.{◌<◌, Some, refl, sym, subst}
use Rattle.model.specs.Logs.Event.{ClientTook}
use Rattle.model.specs.Tapes.Entry.{Happened}
use Rattle.model.specs.Limits.{high_water}
use Rattle.refinement.specs.View.{View, balanced}
use Rattle.refinement.specs.Rest.{NoneDone}
use Rattle.event_handlers.proofs.Calming.{calm_comes}
use Rattle.event_handlers.specs.Inputs.Input.{OfEvent}
use Rattle.event_handlers.specs.Resting.{now_of, IsSettled}
use Rattle.event_handlers.proofs.Following.{comes_then}
use Rattle.event_handlers.proofs.Results.{if_ok, on_over}
use Rattle.event_handlers.proofs.Took.{client_rests, follows_none}
use Rattle.event_handlers.proofs.hearing.give_to_rest.Goals as goal

pub rest-requires-clause-reached : goal.rest-requires-clause-reached
rest-requires-clause-reached c =
    let before = c.requires.reached in
    let here = c.note_client_took.ensures.brings before.0 c.args.out.now before.1.0 before.1.1 before.1.2 in
    (before.0, 0, (λ on. refl), (_, here.segment.state, here.segment.leads))

pub returns-clause-comes : goal.returns-clause-comes
returns-clause-comes c =
    if_ok c.rest.result
    (λ went follows setup.
    comes_then setup c.args.session.now c.note_client_took.new.session balanced balanced balanced c.args.out.now c.args.out.now c.rest.new.out (Happened (ClientTook c.args.count)) (OfEvent (ClientTook c.args.count)) (now_of went c.rest.new.session) refl (c.note_client_took.ensures.brings setup c.args.out.now) (follows 0 (λ on. refl) setup)) c.rest.ensures.follows

pub returns-then-were_few-clause-comes : goal.returns-then-were_few-clause-comes
returns-then-were_few-clause-comes c setup =
    comes_then setup c.args.session.now c.note_client_took.new.session balanced balanced balanced c.args.out.now c.args.out.now c.args.out.now (Happened (ClientTook c.args.count)) (OfEvent (ClientTook c.args.count)) (Some c.note_client_took.new.session) refl (c.note_client_took.ensures.brings setup c.args.out.now) (follows_none setup c.note_client_took.new.session c.args.out.now)

pub returns-then-were_few-clause-rests : goal.returns-then-were_few-clause-rests
returns-then-were_few-clause-rests c = subst IsSettled (sym c.note_client_took.ensures.counts) (client_rests c.args.session.now c.args.count (subst (λ (v : View). v.untaken < high_water) c.session.view_is c.if-were_few.true) c.requires.settled)

pub rest-requires-clause-none_done : goal.rest-requires-clause-none_done
rest-requires-clause-none_done c = subst NoneDone (sym c.note_client_took.ensures.counts) c.requires.settled.rest.none_done

-- the connection ends in place of a frame
pub returns-clause-over : goal.returns-clause-over
returns-clause-over c =
    on_over c.rest.result
    (λ ends setup.
    calm_comes setup c.args.session.now c.note_client_took.new.session balanced balanced c.args.out.now c.args.out.now c.rest.new.out (Happened (ClientTook c.args.count)) (OfEvent (ClientTook c.args.count)) refl (c.note_client_took.ensures.brings setup c.args.out.now) (ends 0 (λ on. refl) setup)) c.rest.ensures.over
