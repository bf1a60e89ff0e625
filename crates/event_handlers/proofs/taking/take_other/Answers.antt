use Rattle.std.proofs.Common.{◌≡◌, ◌<◌, false, sym, ◌∙◌, ap, refl, subst}
use Rattle.model.specs.Tapes.Entry.{Came}
use Rattle.model.specs.WindowsOnTape.{is_any, data_length}
use Rattle.theory_errors.specs.Quiet.{noted_of}
use Rattle.frames.specs.Views.{frame_of}
use Rattle.connection_state.specs.Inbound.{Inbound}
use Rattle.window_credit.specs.Sides.{is_past}
use Rattle.refinement.specs.View.{View, balanced}
use Rattle.event_handlers.proofs.MidSteps.{mid_handed}
use Rattle.event_handlers.proofs.Calming.{calm_comes}
use Rattle.event_handlers.specs.Inputs.Input.{OfFrame}
use Rattle.event_handlers.specs.Resting.{now_of}
use Rattle.event_handlers.proofs.Following.{comes_then}
use Rattle.event_handlers.proofs.Frames.{plain_mid, plain_goes, plain_ends, plain_sent, plain_brings, fatal_comes}
use Rattle.event_handlers.proofs.Results.{if_ok, on_over, stopped}
use Rattle.event_handlers.proofs.taking.take_other.Goals as goal

pub serve-requires : goal.serve-requires
serve-requires c =
    let before = c.requires.reached in
    let passed = plain_goes before.0 c.args.session.now c.take_plain.new.session (frame_of c.args.view) c.in_ok-code.field-0 c.in-Goes.due c.in-Goes.owed c.in-Goes.dropped c.in-Goes.is (c.in_ok-code.ensures before.0 before.1.terms.max_body) in
    let paid = c.in_ok-pay_owed-in-Goes.ensures in
    let here = plain_sent before.0 c.args.session.now c.take_plain.new.session c.pay_owed.new.session c.args.out.now c.pay_owed.new.out (frame_of c.args.view) c.in-Goes.due c.in-Goes.owed c.in-Goes.dropped passed paid.kept paid.puts paid.free before.2.0 before.2.1 before.2.2 in
    record { reached = (before.0, before.1.passing, data_length is_any (frame_of c.args.view), c.in-Goes.dropped, (_, here.segment.state, here.segment.leads)) }

pub follow-requires-clause-reached : goal.follow-requires-clause-reached
follow-requires-clause-reached c =
    let before = c.requires.reached in
    let passed = plain_goes before.0 c.args.session.now c.take_plain.new.session (frame_of c.args.view) c.in_ok-code.field-0 c.in-Goes.due c.in-Goes.owed c.in-Goes.dropped c.in-Goes.is (c.in_ok-code.ensures before.0 before.1.terms.max_body) in
    let paid = c.in_ok-pay_owed-in-Goes.ensures in
    let brings =
    plain_brings before.0 c.args.session.now c.pay_owed.new.session c.serve.new.session c.args.out.now c.pay_owed.new.out c.serve.new.out (frame_of c.args.view) c.in-Goes.due c.in-Goes.dropped c.data_octets.result c.data_octets.ensures
    (plain_sent before.0 c.args.session.now c.take_plain.new.session c.pay_owed.new.session c.args.out.now c.pay_owed.new.out (frame_of c.args.view) c.in-Goes.due c.in-Goes.owed c.in-Goes.dropped passed paid.kept paid.puts paid.free)
    (λ n back. c.in_ok-serve-in-Goes.ensures.performs before.0 n back before.1.passing) in
    let here = brings before.2.0 before.2.1 before.2.2 in
    (before.0, (_, here.segment.state, here.segment.leads))

pub follow-requires-clause-last : goal.follow-requires-clause-last
follow-requires-clause-last c =
    let before = c.requires.reached in
    let passed = plain_goes before.0 c.args.session.now c.take_plain.new.session (frame_of c.args.view) c.in_ok-code.field-0 c.in-Goes.due c.in-Goes.owed c.in-Goes.dropped c.in-Goes.is (c.in_ok-code.ensures before.0 before.1.terms.max_body) in
    sym (ap (λ (i : Inbound). i.last) (c.in_ok-serve-in-Goes.ensures.handed.inbound ∙ ap (λ (v : View). v.inbound) c.in_ok-pay_owed-in-Goes.ensures.kept) ∙ passed.last)

pub follow-requires-clause-newest : goal.follow-requires-clause-newest
follow-requires-clause-newest c some =
    let before = c.requires.reached in
    let passed = plain_goes before.0 c.args.session.now c.take_plain.new.session (frame_of c.args.view) c.in_ok-code.field-0 c.in-Goes.due c.in-Goes.owed c.in-Goes.dropped c.in-Goes.is (c.in_ok-code.ensures before.0 before.1.terms.max_body) in
    let paid = c.in_ok-pay_owed-in-Goes.ensures.kept in
    let last : c.pay_owed.new.session.inbound.last ≡ c.args.view.id = ap (λ (v : View). v.inbound.last) paid ∙ passed.last in
    let was : is_past c.args.view.id c.pay_owed.new.session.marks ≡ false = ap (λ (v : View). is_past c.args.view.id v.marks) paid ∙ passed.newest (subst (λ n. 0 < n) c.data_octets.ensures some) in
    subst (λ n. is_past n c.serve.new.session.marks ≡ false) last (c.in_ok-serve-in-Goes.ensures.handed.newest (subst (λ n. is_past n c.pay_owed.new.session.marks ≡ false) (sym last) was))

pub follow-requires-clause-mid : goal.follow-requires-clause-mid
follow-requires-clause-mid c =
    let before = c.requires.reached in
    let passed = plain_goes before.0 c.args.session.now c.take_plain.new.session (frame_of c.args.view) c.in_ok-code.field-0 c.in-Goes.due c.in-Goes.owed c.in-Goes.dropped c.in-Goes.is (c.in_ok-code.ensures before.0 before.1.terms.max_body) in
    mid_handed c.args.view.id c.pay_owed.new.session c.serve.new.session c.in_ok-serve-in-Goes.ensures.handed
    (plain_mid before.0 c.args.session.now c.take_plain.new.session c.pay_owed.new.session (frame_of c.args.view) c.in-Goes.due c.in-Goes.owed c.in-Goes.dropped c.requires.settled passed c.in_ok-pay_owed-in-Goes.ensures.kept)

pub returns-in_ok-end-in-Fatal-clause-comes : goal.returns-in_ok-end-in-Fatal-clause-comes
returns-in_ok-end-in-Fatal-clause-comes c setup served =
    let fatal = plain_ends setup c.args.session.now c.take_plain.new.session (frame_of c.args.view) c.in_ok-code.field-0 c.in-Fatal.code c.in-Fatal.is (c.in_ok-code.ensures setup served.terms.max_body) in
    fatal_comes setup c.args.session.now c.take_plain.new.session c.args.out.now c.args.out.now c.end.new.out (frame_of c.args.view) (noted_of (frame_of c.args.view)).note (λ s. s.tables.decoding) c.in-Fatal.code c.requires.settled.rest refl fatal.upstreams fatal.rows fatal.untaken fatal.fault fatal.fatal
    (λ run s kept d. c.in_ok-end-in-Fatal.ensures setup run s kept d)

pub returns-in_ok-serve-in-Goes-clause-comes : goal.returns-in_ok-serve-in-Goes-clause-comes
returns-in_ok-serve-in-Goes-clause-comes c =
    if_ok c.follow.result
    (λ went follows setup served.
    let passed = plain_goes setup c.args.session.now c.take_plain.new.session (frame_of c.args.view) c.in_ok-code.field-0 c.in-Goes.due c.in-Goes.owed c.in-Goes.dropped c.in-Goes.is (c.in_ok-code.ensures setup served.terms.max_body) in
    let paid = c.in_ok-pay_owed-in-Goes.ensures in
    let brings =
    plain_brings setup c.args.session.now c.pay_owed.new.session c.serve.new.session c.args.out.now c.pay_owed.new.out c.serve.new.out (frame_of c.args.view) c.in-Goes.due c.in-Goes.dropped c.data_octets.result c.data_octets.ensures
    (plain_sent setup c.args.session.now c.take_plain.new.session c.pay_owed.new.session c.args.out.now c.pay_owed.new.out (frame_of c.args.view) c.in-Goes.due c.in-Goes.owed c.in-Goes.dropped passed paid.kept paid.puts paid.free)
    (λ n back. c.in_ok-serve-in-Goes.ensures.performs setup n back served.passing) in
    comes_then setup c.args.session.now c.serve.new.session balanced (record balanced { fresh = c.data_octets.result; shared = c.in-Goes.dropped }) balanced c.args.out.now c.serve.new.out c.follow.new.out (Came (noted_of (frame_of c.args.view))) (OfFrame (frame_of c.args.view)) (now_of went c.follow.new.session) refl
    brings (follows setup)) c.follow.ensures.follows

-- ---- the connection ends in place of a frame

pub returns-in_err-pay_owed-in-Goes-clause-over : goal.returns-in_err-pay_owed-in-Goes-clause-over
returns-in_err-pay_owed-in-Goes-clause-over c =
    stopped c.from_residual-in_err-pay_owed-in-Goes.result c.in_err-pay_owed-in-Goes.field-0.0 c.from_residual-in_err-pay_owed-in-Goes.ensures.1
    (λ is setup served.
    let passed = plain_goes setup c.args.session.now c.take_plain.new.session (frame_of c.args.view) c.in_ok-code.field-0 c.in-Goes.due c.in-Goes.owed c.in-Goes.dropped c.in-Goes.is (c.in_ok-code.ensures setup served.terms.max_body) in
    passed.over c.args.out.now c.pay_owed.new.out is.0 is.1) c.in_err-pay_owed-in-Goes.ensures.over

pub returns-in_ok-serve-in-Goes-clause-over : goal.returns-in_ok-serve-in-Goes-clause-over
returns-in_ok-serve-in-Goes-clause-over c =
    on_over c.follow.result
    (λ ends setup served.
    let passed = plain_goes setup c.args.session.now c.take_plain.new.session (frame_of c.args.view) c.in_ok-code.field-0 c.in-Goes.due c.in-Goes.owed c.in-Goes.dropped c.in-Goes.is (c.in_ok-code.ensures setup served.terms.max_body) in
    let paid = c.in_ok-pay_owed-in-Goes.ensures in
    let brings =
    plain_brings setup c.args.session.now c.pay_owed.new.session c.serve.new.session c.args.out.now c.pay_owed.new.out c.serve.new.out (frame_of c.args.view) c.in-Goes.due c.in-Goes.dropped c.data_octets.result c.data_octets.ensures
    (plain_sent setup c.args.session.now c.take_plain.new.session c.pay_owed.new.session c.args.out.now c.pay_owed.new.out (frame_of c.args.view) c.in-Goes.due c.in-Goes.owed c.in-Goes.dropped passed paid.kept paid.puts paid.free)
    (λ n back. c.in_ok-serve-in-Goes.ensures.performs setup n back served.passing) in
    calm_comes setup c.args.session.now c.serve.new.session balanced (record balanced { fresh = c.data_octets.result; shared = c.in-Goes.dropped }) c.args.out.now c.serve.new.out c.follow.new.out (Came (noted_of (frame_of c.args.view))) (OfFrame (frame_of c.args.view)) refl
    brings (ends setup)) c.follow.ensures.over
