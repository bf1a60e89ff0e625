use Rattle.std.proofs.Common.{◌≡◌, ℕ, ◌<◌, true, refl, sym, ◌∙◌, ap, subst, inl}
use Rattle.model.specs.Logs.Event.{Drain}
use Rattle.model.specs.Tapes.Entry.{Happened}
use Rattle.theory_requests.specs.State.Due.{Nothing}
use Rattle.connection_state.specs.Inbound.{Inbound}
use Rattle.streams.specs.Asked.{has}
use Rattle.refinement.specs.View.{View, balanced}
use Rattle.refinement.specs.Rest.{NoneCut}
use Rattle.event_handlers.specs.block_frames.Following.{goaway_frames}
use Rattle.event_handlers.specs.Inputs.Input.{OfEvent}
use Rattle.event_handlers.specs.Resting.{now_of}
use Rattle.event_handlers.proofs.Calming.{calm_ends, calm_comes, calm_behind}
use Rattle.event_handlers.proofs.Drained.{drained_done}
use Rattle.event_handlers.proofs.Following.{comes_then, follows_then}
use Rattle.event_handlers.proofs.Frames.{goaway_owed}
use Rattle.event_handlers.proofs.Results.{if_ok, on_over, stopped}
use Rattle.event_handlers.proofs.draining.drain_to_rest.Goals as goal

pub rest-requires-clause-reached : goal.rest-requires-clause-reached
rest-requires-clause-reached c =
    let r = c.requires.reached in
    let course = c.note_drain-last.ensures.brings r.0 c.args.out.now r.1.0 r.1.1 r.1.2 in
    let own = c.in_ok-say_goaway.ensures.performs r.0 Nothing 0 _ course.segment.state course.segment.leads in
    (r.0, 0, (λ on. refl), (_, own.segment.state, own.segment.leads))

pub rest-requires-clause-none_cut : goal.rest-requires-clause-none_cut
rest-requires-clause-none_cut c =
    subst NoneCut (sym (c.in_ok-say_goaway.ensures.stays.1 ∙ ap (λ (v : View). v.offers) c.note_drain-last.ensures.notes)) c.requires.settled.rest.none_cut

pub rest-requires-clause-none_done : goal.rest-requires-clause-none_done
rest-requires-clause-none_done c =
    drained_done c.args.session.now c.say_goaway.new.session (c.in_ok-say_goaway.ensures.stays.0 ∙ ap (λ (v : View). v.inbound) c.note_drain-last.ensures.notes)
    (c.in_ok-say_goaway.ensures.upstreams ∙ ap (λ (v : View). v.upstreams) c.note_drain-last.ensures.notes) c.requires.settled.rest.none_done

pub rest-requires-clause-numbered : goal.rest-requires-clause-numbered
rest-requires-clause-numbered c =
    subst (λ (i : Inbound). (id : ℕ) → has i.rows id ≡ true → id < 2147483648) (sym (c.in_ok-say_goaway.ensures.stays.0 ∙ ap (λ (v : View). v.inbound) c.note_drain-last.ensures.notes)) c.requires.settled.numbered

pub returns-clause-comes : goal.returns-clause-comes
returns-clause-comes c =
    if_ok c.rest.result
    (λ went follows setup.
    comes_then setup c.args.session.now c.note_drain-last.new.session balanced (record balanced { owed = goaway_frames c.note_drain-last.result }) balanced c.args.out.now c.args.out.now c.rest.new.out (Happened Drain) (OfEvent Drain) (now_of went c.rest.new.session) refl
    (c.note_drain-last.ensures.brings setup c.args.out.now)
    (follows_then setup c.note_drain-last.new.session c.say_goaway.new.session (record balanced { owed = goaway_frames c.note_drain-last.result }) balanced balanced c.args.out.now c.say_goaway.new.out c.rest.new.out (now_of went c.rest.new.session)
    (c.in_ok-say_goaway.ensures.performs setup Nothing 0) (follows 0 (λ on. refl) setup))) c.rest.ensures.follows

-- ---- the connection ends in place of a frame

pub returns-in_err-say_goaway-clause-over : goal.returns-in_err-say_goaway-clause-over
returns-in_err-say_goaway-clause-over c =
    stopped c.from_residual.result c.in_err-say_goaway.field-0.0 c.from_residual.ensures.1
    (λ ends setup.
    calm_comes setup c.args.session.now c.note_drain-last.new.session balanced (record balanced { owed = goaway_frames c.note_drain-last.result }) c.args.out.now c.args.out.now c.say_goaway.new.out (Happened Drain) (OfEvent Drain) refl
    (c.note_drain-last.ensures.brings setup c.args.out.now)
    (calm_ends setup c.note_drain-last.new.session (record balanced { owed = goaway_frames c.note_drain-last.result }) (inl (goaway_owed c.note_drain-last.result ends.0)) refl c.args.out.now c.say_goaway.new.out ends.1)) c.in_err-say_goaway.ensures.over

pub returns-clause-over : goal.returns-clause-over
returns-clause-over c =
    on_over c.rest.result
    (λ ends setup.
    calm_comes setup c.args.session.now c.note_drain-last.new.session balanced (record balanced { owed = goaway_frames c.note_drain-last.result }) c.args.out.now c.args.out.now c.rest.new.out (Happened Drain) (OfEvent Drain) refl
    (c.note_drain-last.ensures.brings setup c.args.out.now)
    (calm_behind setup c.note_drain-last.new.session c.say_goaway.new.session (record balanced { owed = goaway_frames c.note_drain-last.result }) balanced c.args.out.now c.say_goaway.new.out c.rest.new.out
    (c.in_ok-say_goaway.ensures.performs setup Nothing 0) (ends 0 (λ on. refl) setup))) c.rest.ensures.over
