use Rattle.std.proofs.Common.{◌+◌, ◌++◌, ◌∷◌, [], length, take, drop, arith, ap, subst, length-drop, Some, None}
use Rattle.model.specs.Frames.{Spells, IsTooLong}
use Rattle.frames.specs.Views.{frame_of, IsUnfinished}
use Rattle.refinement.specs.View.{balanced}
use Rattle.event_handlers.specs.Inputs.Input.{OfFrame}
use Rattle.event_handlers.specs.Comings.{ComesFrom}
use Rattle.event_handlers.specs.Resting.{now_of, RestsSo, IsServed}
use Rattle.gateway.proofs.Framing.{taking_none, taking_more, takes_all, takes_over, takes_breach, slice_rest, cut}
use Rattle.gateway.proofs.reading.take_frames.Goals as goal

pub loop-used-init : goal.loop-used-init
loop-used-init c = record { within = omega arith; taking = taking_none (λ setup. IsServed setup c.args.service) c.args.session.now c.args.out.now c.args.text.now; settled = c.requires.settled }

pub take_frame-requires-clause-reached : goal.take_frame-requires-clause-reached
take_frame-requires-clause-reached c =
    let before = c.requires.reached in
    let here = c.loop-used.invariant.taking.comes before.0 before.1 before.2.0 before.2.1 before.2.2 in
    (before.0, before.1, (here.moves ++ before.2.0, here.stands.0, here.stands.1))

pub loop-used-preserved : goal.loop-used-preserved
loop-used-preserved c =
    let text = c.args.text.now in
    let used = c.loop-used.used in
    let n = c.in-Frame.octets in
    let h = c.in-Frame.ensures in
    let long = ap length (slice_rest text used) in record {
      within = omega (arith, h.within, length-drop used text, long, c.loop-used.invariant.within);
      taking = taking_more (λ setup. IsServed setup c.args.service) c.args.session.now c.args.out.now text c.loop-used.session c.loop-used.out c.take_frame.new.out (drop used text) (take n (drop used text)) (drop (used + n) text) (frame_of c.in-Frame.view) (Some c.take_frame.new.session) c.loop-used.invariant.taking
          (subst (λ r. Spells (take n r) (frame_of c.in-Frame.view)) (slice_rest text used) h.spells)
          (cut text used n)
          (λ setup served. subst (λ went. ComesFrom setup c.loop-used.session balanced c.loop-used.out (OfFrame (frame_of c.in-Frame.view) ∷ []) balanced (now_of went c.take_frame.new.session) c.take_frame.new.out) c.in-On.is (c.in_ok-take_frame-in-Frame.ensures.comes setup served));
      settled = subst (λ went. RestsSo went c.take_frame.new.session) c.in-On.is c.in_ok-take_frame-in-Frame.ensures.rests;
    }

pub returns-in-Over-clause-reads : goal.returns-in-Over-clause-reads
returns-in-Over-clause-reads c =
    let text = c.args.text.now in
    let used = c.loop-used.used in
    let n = c.in-Frame.octets in
    let h = c.in-Frame.ensures in (
      drop (used + n) text,
      takes_over (λ setup. IsServed setup c.args.service) c.args.session.now c.args.out.now text c.take_frame.new.out (drop (used + n) text)
          (taking_more (λ setup. IsServed setup c.args.service) c.args.session.now c.args.out.now text c.loop-used.session c.loop-used.out c.take_frame.new.out (drop used text) (take n (drop used text)) (drop (used + n) text) (frame_of c.in-Frame.view) None c.loop-used.invariant.taking
          (subst (λ r. Spells (take n r) (frame_of c.in-Frame.view)) (slice_rest text used) h.spells)
          (cut text used n)
          (λ setup served. subst (λ went. ComesFrom setup c.loop-used.session balanced c.loop-used.out (OfFrame (frame_of c.in-Frame.view) ∷ []) balanced (now_of went c.take_frame.new.session) c.take_frame.new.out) c.in-Over.is (c.in_ok-take_frame-in-Frame.ensures.comes setup served))),
    )

pub returns-in-More-clause-reads : goal.returns-in-More-clause-reads
returns-in-More-clause-reads c =
    let same = slice_rest c.args.text.now c.loop-used.used in
    takes_all (λ setup. IsServed setup c.args.service) c.args.session.now c.args.out.now c.args.text.now c.loop-used.session c.loop-used.out (drop c.loop-used.used c.args.text.now) c.loop-used.invariant.taking (subst IsUnfinished same c.in-More.ensures)

pub returns-in-TooLong-clause-reads : goal.returns-in-TooLong-clause-reads
returns-in-TooLong-clause-reads c = (
  drop c.loop-used.used c.args.text.now,
  takes_breach (λ setup. IsServed setup c.args.service) c.args.session.now c.args.out.now c.args.text.now c.loop-used.session c.loop-used.out c.leave_at.new.out (drop c.loop-used.used c.args.text.now) c.loop-used.invariant.taking
      (subst IsTooLong (slice_rest c.args.text.now c.loop-used.used) c.in-TooLong.ensures.too_long) c.in_ok-leave_at-in-TooLong.ensures,
)
