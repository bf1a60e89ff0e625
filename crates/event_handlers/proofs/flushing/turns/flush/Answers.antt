use Rattle.refinement.specs.Rest.{back_of}
use Rattle.refinement.proofs.Bringing.{own_none, own_then}
use Rattle.event_handlers.proofs.Calming.{calm_behind}
use Rattle.event_handlers.proofs.Results.{stopped}
use Rattle.event_handlers.proofs.flushing.turns.flush.Goals as goal

pub loop-session-init : goal.loop-session-init
loop-session-init c = ((λ back is_back. (back, is_back, λ setup. own_none setup c.args.session.now (back_of back) c.args.out.now)), c.requires.none_cut, c.requires.numbered, c.requires.none_done)

pub pass_one-requires-clause-reached : goal.pass_one-requires-clause-reached
pass_one-requires-clause-reached c =
    let before = c.requires.reached in
    let done = c.loop-session.invariant.0 before.1 before.2 in
    let here = done.2 before.0 before.3.0 before.3.1 before.3.2 in
    (before.0, done.0, done.1, (_, here.segment.state, here.segment.leads))

pub loop-session-preserved : goal.loop-session-preserved
loop-session-preserved c =
    let kept = c.loop-session.invariant in
    let passed = c.in_ok-pass_one.ensures in (
      (λ back is_back.
          let done = kept.0 back is_back in
          let more = passed.performs done.0 done.1 in
          (more.0, more.1, λ setup. own_then setup c.args.session.now c.loop-session.session c.pass_one.new.session (back_of back) (back_of done.0) (back_of more.0) c.args.out.now c.loop-session.out c.pass_one.new.out (done.2 setup) (more.2 setup))),
      passed.none_cut,
      passed.numbered,
      passed.none_done,
    )

-- the connection ends in place of a frame
pub returns-in_err-pass_one-clause-over : goal.returns-in_err-pass_one-clause-over
returns-in_err-pass_one-clause-over c =
    stopped c.from_residual.result c.in_err-pass_one.field-0.0 c.from_residual.ensures.1
    (λ ends back is_back setup.
    let done = c.loop-session.invariant.0 back is_back in
    calm_behind setup c.args.session.now c.loop-session.session (back_of back) (back_of done.0) c.args.out.now c.loop-session.out c.pass_one.new.out (done.2 setup) (ends done.0 done.1 setup))
    c.in_err-pass_one.ensures.over
