use Rattle.std.proofs.Common.{Some, refl, sym, subst}
use Rattle.model.specs.Logs.Event.{UpTook}
use Rattle.model.specs.Tapes.Entry.{Happened}
use Rattle.refinement.specs.View.{balanced}
use Rattle.refinement.specs.Rest.{GoesOn, NoneDone}
use Rattle.event_handlers.proofs.Calming.{calm_comes, calm_behind}
use Rattle.event_handlers.specs.Inputs.Input.{OfEvent}
use Rattle.event_handlers.specs.Resting.{now_of, IsSettled}
use Rattle.event_handlers.specs.paying.Returning.{back_on}
use Rattle.event_handlers.proofs.Following.{comes_then, follows_own, follows_then}
use Rattle.event_handlers.proofs.Results.{if_ok, on_over, stopped}
use Rattle.event_handlers.proofs.Took.{up_rests, done_returned}
use Rattle.event_handlers.proofs.paying.Taken.{none_taken}
use Rattle.event_handlers.proofs.hearing.return_to_rest.Goals as goal

pub returns-then-is_nothing-clause-comes : goal.returns-then-is_nothing-clause-comes
returns-then-is_nothing-clause-comes c = λ setup.
    comes_then setup c.args.session.now c.note_up_took-taken.new.session balanced (back_on c.stream_of-stream.result c.note_up_took-taken.result) balanced c.args.out.now c.args.out.now c.args.out.now (Happened (UpTook c.args.k c.args.count)) (OfEvent (UpTook c.args.k c.args.count)) (Some c.note_up_took-taken.new.session) refl
    (c.note_up_took-taken.ensures.brings setup c.args.out.now)
    (follows_own setup c.note_up_took-taken.new.session c.note_up_took-taken.new.session (back_on c.stream_of-stream.result c.note_up_took-taken.result) balanced c.args.out.now c.args.out.now (none_taken setup c.note_up_took-taken.new.session c.stream_of-stream.result c.note_up_took-taken.result c.args.out.now (c.is_nothing.ensures.none c.if-is_nothing.true)))

pub returns-then-is_nothing-clause-rests : goal.returns-then-is_nothing-clause-rests
returns-then-is_nothing-clause-rests c = subst IsSettled (sym c.note_up_took-taken.ensures.counts) (up_rests c.args.session.now c.args.k c.stream_of-stream.result c.args.count c.requires.settled)

pub return_taken-requires-clause-reached : goal.return_taken-requires-clause-reached
return_taken-requires-clause-reached c =
    let r = c.requires.reached in
    let course = c.note_up_took-taken.ensures.brings r.0 c.args.out.now r.1.0 r.1.1 r.1.2 in
    (r.0, (_, course.segment.state, course.segment.leads))

pub return_taken-requires-clause-some : goal.return_taken-requires-clause-some
return_taken-requires-clause-some c = c.is_nothing.ensures.some c.if-is_nothing.false

pub return_taken-requires-clause-goes_on : goal.return_taken-requires-clause-goes_on
return_taken-requires-clause-goes_on c = subst GoesOn (sym c.note_up_took-taken.ensures.counts) c.requires.settled.rest.goes_on

pub rest-requires-clause-reached : goal.rest-requires-clause-reached
rest-requires-clause-reached c =
    let r = c.requires.reached in
    let course = c.note_up_took-taken.ensures.brings r.0 c.args.out.now r.1.0 r.1.1 r.1.2 in
    let own = c.in_ok-return_taken.ensures.performs r.0 _ course.segment.state course.segment.leads in
    (r.0, 0, (λ on. refl), (_, own.segment.state, own.segment.leads))

pub rest-requires-clause-none_done : goal.rest-requires-clause-none_done
rest-requires-clause-none_done c =
    done_returned c.note_up_took-taken.new.session c.return_taken.new.session c.in_ok-return_taken.ensures.stays
    (subst NoneDone (sym c.note_up_took-taken.ensures.counts) (up_rests c.args.session.now c.args.k c.stream_of-stream.result c.args.count c.requires.settled).rest.none_done)

pub returns-clause-comes : goal.returns-clause-comes
returns-clause-comes c =
    if_ok c.rest.result
    (λ went follows setup.
    comes_then setup c.args.session.now c.note_up_took-taken.new.session balanced (back_on c.stream_of-stream.result c.note_up_took-taken.result) balanced c.args.out.now c.args.out.now c.rest.new.out (Happened (UpTook c.args.k c.args.count)) (OfEvent (UpTook c.args.k c.args.count)) (now_of went c.rest.new.session) refl
    (c.note_up_took-taken.ensures.brings setup c.args.out.now)
    (follows_then setup c.note_up_took-taken.new.session c.return_taken.new.session (back_on c.stream_of-stream.result c.note_up_took-taken.result) balanced balanced c.args.out.now c.return_taken.new.out c.rest.new.out (now_of went c.rest.new.session)
    (c.in_ok-return_taken.ensures.performs setup) (follows 0 (λ on. refl) setup))) c.rest.ensures.follows

-- ---- the connection ends in place of a frame

pub returns-in_err-return_taken-clause-over : goal.returns-in_err-return_taken-clause-over
returns-in_err-return_taken-clause-over c =
    stopped c.from_residual.result c.in_err-return_taken.field-0.0 c.from_residual.ensures.1
    (λ ends setup.
    calm_comes setup c.args.session.now c.note_up_took-taken.new.session balanced (back_on c.stream_of-stream.result c.note_up_took-taken.result) c.args.out.now c.args.out.now c.return_taken.new.out (Happened (UpTook c.args.k c.args.count)) (OfEvent (UpTook c.args.k c.args.count)) refl
    (c.note_up_took-taken.ensures.brings setup c.args.out.now) (ends setup)) c.in_err-return_taken.ensures.over

pub returns-clause-over : goal.returns-clause-over
returns-clause-over c =
    on_over c.rest.result
    (λ ends setup.
    calm_comes setup c.args.session.now c.note_up_took-taken.new.session balanced (back_on c.stream_of-stream.result c.note_up_took-taken.result) c.args.out.now c.args.out.now c.rest.new.out (Happened (UpTook c.args.k c.args.count)) (OfEvent (UpTook c.args.k c.args.count)) refl
    (c.note_up_took-taken.ensures.brings setup c.args.out.now)
    (calm_behind setup c.note_up_took-taken.new.session c.return_taken.new.session (back_on c.stream_of-stream.result c.note_up_took-taken.result) balanced c.args.out.now c.return_taken.new.out c.rest.new.out
    (c.in_ok-return_taken.ensures.performs setup) (ends 0 (λ on. refl) setup))) c.rest.ensures.over
