use Rattle.std.proofs.Common.{◌≡◌, ◌+◌, take, drop, ◌∙◌, ◌++◌, ◌∷◌, [], sym, ap, subst, Some, refl}
use Rattle.effects.specs.Views.{outputs_of}
use Rattle.driver.proofs.Adding.{cut_outputs}
use Rattle.driver.specs.Calls.{AreWhole, AppliesTo}
use Rattle.driver.specs.Worlds.{with_outputs}
use Rattle.driver.proofs.Calling.{with_none, with_more, one_more, applies_none, applies_more, applies_failed}
use Rattle.driver.proofs.services.apply_all.Goals as goal

pub loop-output-init : goal.loop-output-init
loop-output-init g c = record {
  calls = refl;
  failures = refl;
  over = refl;
  keeps_rooms = refl;
  handed = refl;
  hears_on = λ h. h;
  log = λ before step is. is ∙ ap (λ s. Some (before ++ s ∷ [])) (sym (with_none step));
  applies = λ begun calls before step along is. applies_none _ _ _ _ _ begun _ calls before step along is;
}

pub loop-output-preserved : goal.loop-output-preserved
loop-output-preserved g c =
    let i = c.loop-output.invariant in
    let n = c.loop-output.output-index in
    let outs = c.args.outputs.now in
    let more : take (n + 1) outs ≡ take n outs ++ c.output-item.result ∷ [] = one_more n outs c.output-item.result c.loop-output-test.true c.output-item.is in
    record {
      calls = c.in_default.ensures.calls ∙ i.calls;
      failures = c.in_default.ensures.failures ∙ i.failures;
      over = c.in_default.ensures.over ∙ i.over;
      keeps_rooms = c.in_default.ensures.keeps_rooms ∙ i.keeps_rooms;
      handed = c.in_default.ensures.handed ∙ i.handed;
      hears_on = λ h. c.in_default.ensures.hears_on (i.hears_on h);
      log = λ before step is. c.in_default.ensures.log before _ (i.log before step is) ∙ ap (λ s. Some (before ++ s ∷ [])) (with_more step (take n outs) c.output-item.result ∙ ap (λ os. with_outputs step (outputs_of os)) (sym more));
      applies = λ begun calls before step along is.
          subst (λ os. AppliesTo g.W.World.moves g.W.World.hears_idle_first g.W.World.could_read g.W.World.heard_at g.W.World.looks AreWhole begun calls (before ++ with_outputs step (outputs_of os) ∷ []) c.apply.new.self) (sym more)
          (applies_more _ _ _ _ _ begun _ _ calls before step (take n outs) c.output-item.result _ (record { moved = c.in_default.ensures.moves; idle_first = λ h. tt }) (i.applies begun calls before step along is));
    }

pub returns-in-Err-clause-front : goal.returns-in-Err-clause-front
returns-in-Err-clause-front g c = λ before step is. (
  outputs_of (take c.loop-output.output-index c.args.outputs.now),
  outputs_of (drop c.loop-output.output-index c.args.outputs.now),
  cut_outputs c.loop-output.output-index c.args.outputs.now,
  c.in-Err.ensures.err ∙ c.loop-output.invariant.log before step is,
)

pub returns-in-Err-clause-applies_front : goal.returns-in-Err-clause-applies_front
returns-in-Err-clause-applies_front g c = λ begun calls before step along is. (
  outputs_of (take c.loop-output.output-index c.args.outputs.now),
  outputs_of (drop c.loop-output.output-index c.args.outputs.now),
  cut_outputs c.loop-output.output-index c.args.outputs.now,
  applies_failed _ _ _ _ _ begun _ _ calls before (with_outputs step (outputs_of (take c.loop-output.output-index c.args.outputs.now))) _ c.in-Err.fault (record { moved = c.in-Err.ensures.moves; idle_first = λ h. tt })
      (c.loop-output.invariant.applies begun calls before step along is),
)
