use Rattle.std.proofs.Common.{◌≡◌, Bool, ◌∙◌, ap, refl, inl}
use Rattle.model.specs.Setup.{Setup}
use Rattle.model.specs.Tapes.Entry.{Came}
use Rattle.upstream_response.specs.Waiting.{passing_in}
use Rattle.theory_requests.specs.State.{is_streaming}
use Rattle.frames.specs.Views.{frame_of}
use Rattle.upstream_connections.specs.Requests.{due_by}
use Rattle.event_handlers.proofs.MidSteps.{mid_handed, mid_same}
use Rattle.event_handlers.proofs.Calming.{calm_ends, calm_comes}
use Rattle.event_handlers.specs.block_frames.Following.{goaway_frames}
use Rattle.refinement.specs.View.{balanced}
use Rattle.refinement.specs.Rest.{back_of}
use Rattle.event_handlers.specs.Inputs.Input.{OfFrame}
use Rattle.event_handlers.specs.Resting.{now_of, IsServed}
use Rattle.event_handlers.specs.block_frames.Taken.{IsOutlet}
use Rattle.event_handlers.specs.declared.taking.ServiceTerms.{ServiceTerms}
use Rattle.event_handlers.proofs.Following.{comes_then}
use Rattle.event_handlers.proofs.Frames.{block_mid, block_goes, block_ends, goaway_brings, block_brings, goaway_owed, fatal_comes}
use Rattle.event_handlers.proofs.Results.{if_ok, on_over, stopped}
use Rattle.event_handlers.proofs.taking.take_fragment.Goals as goal

-- requests go out as the service says
outlet_so : (setup : Setup) (service : ServiceTerms) (streams : Bool) → IsServed setup service → streams ≡ is_streaming (passing_in service.passing) → IsOutlet setup (record { at_once = streams; keep = service.keep })
outlet_so setup service streams served is = record { at_once = is ∙ ap is_streaming served.passing.passing; keep = served.keep }

pub serve-requires : goal.serve-requires
serve-requires c =
    let before = c.requires.reached in
    let passed =
    block_goes before.0 c.args.session.now c.take_block.new.session c.args.out.now c.take_block.new.out (frame_of c.args.view) c.in_ok-code.field-0 c.in-Goes.due c.in-Goes.goaway c.in-Goes.dropped c.in-Goes.is (c.in_ok-code.ensures.taken before.0 before.1.terms (outlet_so before.0 c.args.service c.is_streaming-at_once.result before.1 c.is_streaming-at_once.ensures)) in
    let here =
    goaway_brings before.0 c.args.session.now c.take_block.new.session c.say_goaway.new.session c.args.out.now c.take_block.new.out c.say_goaway.new.out (frame_of c.args.view) c.in-Goes.due c.in-Goes.goaway c.in-Goes.dropped passed
    (λ due back. c.in_ok-say_goaway-in-Goes.ensures.performs before.0 due back) before.2.0 before.2.1 before.2.2 in
    record { reached = (before.0, before.1.passing, 0, c.in-Goes.dropped, (_, here.segment.state, here.segment.leads)) }

pub returns-in_ok-end-in-Fatal-clause-comes : goal.returns-in_ok-end-in-Fatal-clause-comes
returns-in_ok-end-in-Fatal-clause-comes c setup served =
    let fatal =
    block_ends setup c.args.session.now c.take_block.new.session c.args.out.now c.take_block.new.out (frame_of c.args.view) c.in_ok-code.field-0 c.in-Fatal.code c.in-Fatal.is (c.in_ok-code.ensures.taken setup served.terms (outlet_so setup c.args.service c.is_streaming-at_once.result served c.is_streaming-at_once.ensures)) in
    fatal_comes setup c.args.session.now c.take_block.new.session c.args.out.now c.take_block.new.out c.end.new.out (frame_of c.args.view) fatal.note (λ s. fatal.next) c.in-Fatal.code c.requires.settled.rest fatal.nothing_put fatal.upstreams fatal.rows fatal.untaken fatal.fault fatal.fatal
    (λ run s kept d. c.in_ok-end-in-Fatal.ensures setup run s kept d)

-- ---- the connection ends in place of a frame

pub returns-in_err-code-clause-over : goal.returns-in_err-code-clause-over
returns-in_err-code-clause-over c =
    stopped c.from_residual.result c.in_err-code.field-0.0 c.from_residual.ensures.1
    (λ comes setup served. comes setup served.terms (outlet_so setup c.args.service c.is_streaming-at_once.result served c.is_streaming-at_once.ensures)) c.in_err-code.ensures.over

pub returns-in_err-say_goaway-in-Goes-clause-over : goal.returns-in_err-say_goaway-in-Goes-clause-over
returns-in_err-say_goaway-in-Goes-clause-over c =
    stopped c.from_residual-in_err-say_goaway-in-Goes.result c.in_err-say_goaway-in-Goes.field-0.0 c.from_residual-in_err-say_goaway-in-Goes.ensures.1
    (λ ends setup served.
    let passed =
    block_goes setup c.args.session.now c.take_block.new.session c.args.out.now c.take_block.new.out (frame_of c.args.view) c.in_ok-code.field-0 c.in-Goes.due c.in-Goes.goaway c.in-Goes.dropped c.in-Goes.is (c.in_ok-code.ensures.taken setup served.terms (outlet_so setup c.args.service c.is_streaming-at_once.result served c.is_streaming-at_once.ensures)) in
    calm_comes setup c.args.session.now c.take_block.new.session balanced (record balanced { owed = goaway_frames c.in-Goes.goaway; due = due_by c.in-Goes.due; shared = c.in-Goes.dropped }) c.args.out.now c.take_block.new.out c.say_goaway.new.out (Came (record { frame = frame_of c.args.view; note = passed.note })) (OfFrame (frame_of c.args.view)) refl
    passed.brings
    (calm_ends setup c.take_block.new.session (record balanced { owed = goaway_frames c.in-Goes.goaway; due = due_by c.in-Goes.due; shared = c.in-Goes.dropped }) (inl (goaway_owed c.in-Goes.goaway ends.0)) (passed.alone ends.0 ends.1.0) c.take_block.new.out c.say_goaway.new.out ends.1)) c.in_err-say_goaway-in-Goes.ensures.over

pub come_to_rest-requires-clause-reached : goal.come_to_rest-requires-clause-reached
come_to_rest-requires-clause-reached c =
    let before = c.requires.reached in
    let passed =
    block_goes before.0 c.args.session.now c.take_block.new.session c.args.out.now c.take_block.new.out (frame_of c.args.view) c.in_ok-code.field-0 c.in-Goes.due c.in-Goes.goaway c.in-Goes.dropped c.in-Goes.is (c.in_ok-code.ensures.taken before.0 before.1.terms (outlet_so before.0 c.args.service c.is_streaming-at_once.result before.1 c.is_streaming-at_once.ensures)) in
    let here =
    block_brings before.0 c.args.session.now c.take_block.new.session c.say_goaway.new.session c.serve.new.session c.args.out.now c.take_block.new.out c.say_goaway.new.out c.serve.new.out (frame_of c.args.view) c.in-Goes.due c.in-Goes.goaway c.in-Goes.dropped passed
    (λ due back. c.in_ok-say_goaway-in-Goes.ensures.performs before.0 due back) (λ n back. c.in_ok-serve-in-Goes.ensures.performs before.0 n back before.1.passing) before.2.0 before.2.1 before.2.2 in
    (before.0, (_, here.segment.state, here.segment.leads))

pub come_to_rest-requires-clause-mid : goal.come_to_rest-requires-clause-mid
come_to_rest-requires-clause-mid c =
    let before = c.requires.reached in
    let passed =
    block_goes before.0 c.args.session.now c.take_block.new.session c.args.out.now c.take_block.new.out (frame_of c.args.view) c.in_ok-code.field-0 c.in-Goes.due c.in-Goes.goaway c.in-Goes.dropped c.in-Goes.is (c.in_ok-code.ensures.taken before.0 before.1.terms (outlet_so before.0 c.args.service c.is_streaming-at_once.result before.1 c.is_streaming-at_once.ensures)) in
    let said = c.in_ok-say_goaway-in-Goes.ensures in
    mid_handed c.args.view.id c.say_goaway.new.session c.serve.new.session c.in_ok-serve-in-Goes.ensures.handed
    (mid_same c.args.view.id c.take_block.new.session c.say_goaway.new.session said.stays.0 said.stays.1 said.upstreams
    (block_mid before.0 c.args.session.now c.take_block.new.session c.args.out.now c.take_block.new.out (frame_of c.args.view) c.in-Goes.due c.in-Goes.goaway c.in-Goes.dropped c.requires.of_stream c.requires.settled passed))

pub returns-in_ok-serve-in-Goes-clause-comes : goal.returns-in_ok-serve-in-Goes-clause-comes
returns-in_ok-serve-in-Goes-clause-comes c =
    if_ok c.come_to_rest.result
    (λ went follows setup served.
    let passed =
    block_goes setup c.args.session.now c.take_block.new.session c.args.out.now c.take_block.new.out (frame_of c.args.view) c.in_ok-code.field-0 c.in-Goes.due c.in-Goes.goaway c.in-Goes.dropped c.in-Goes.is (c.in_ok-code.ensures.taken setup served.terms (outlet_so setup c.args.service c.is_streaming-at_once.result served c.is_streaming-at_once.ensures)) in
    comes_then setup c.args.session.now c.serve.new.session balanced (back_of c.in-Goes.dropped) balanced c.args.out.now c.serve.new.out c.come_to_rest.new.out (Came (record { frame = frame_of c.args.view; note = passed.note })) (OfFrame (frame_of c.args.view)) (now_of went c.come_to_rest.new.session) refl
    (block_brings setup c.args.session.now c.take_block.new.session c.say_goaway.new.session c.serve.new.session c.args.out.now c.take_block.new.out c.say_goaway.new.out c.serve.new.out (frame_of c.args.view) c.in-Goes.due c.in-Goes.goaway c.in-Goes.dropped passed
    (λ due back. c.in_ok-say_goaway-in-Goes.ensures.performs setup due back) (λ n back. c.in_ok-serve-in-Goes.ensures.performs setup n back served.passing))
    (follows setup)) c.come_to_rest.ensures.follows

pub returns-in_ok-serve-in-Goes-clause-over : goal.returns-in_ok-serve-in-Goes-clause-over
returns-in_ok-serve-in-Goes-clause-over c =
    on_over c.come_to_rest.result
    (λ ends setup served.
    let passed =
    block_goes setup c.args.session.now c.take_block.new.session c.args.out.now c.take_block.new.out (frame_of c.args.view) c.in_ok-code.field-0 c.in-Goes.due c.in-Goes.goaway c.in-Goes.dropped c.in-Goes.is (c.in_ok-code.ensures.taken setup served.terms (outlet_so setup c.args.service c.is_streaming-at_once.result served c.is_streaming-at_once.ensures)) in
    calm_comes setup c.args.session.now c.serve.new.session balanced (back_of c.in-Goes.dropped) c.args.out.now c.serve.new.out c.come_to_rest.new.out (Came (record { frame = frame_of c.args.view; note = passed.note })) (OfFrame (frame_of c.args.view)) refl
    (block_brings setup c.args.session.now c.take_block.new.session c.say_goaway.new.session c.serve.new.session c.args.out.now c.take_block.new.out c.say_goaway.new.out c.serve.new.out (frame_of c.args.view) c.in-Goes.due c.in-Goes.goaway c.in-Goes.dropped passed
    (λ due back. c.in_ok-say_goaway-in-Goes.ensures.performs setup due back) (λ n back. c.in_ok-serve-in-Goes.ensures.performs setup n back served.passing))
    (ends setup)) c.come_to_rest.ensures.over
