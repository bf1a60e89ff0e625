use Rattle.std.proofs.Common.{◌≡◌, true, false, ◌∙◌, sym, subst, take, reverse, inl}
use Rattle.gateway.specs.declared.runs.RunFault.TheVariants.{Memory}
use Rattle.gateway.specs.Runs.{log_of, Stops}
use Rattle.gateway.proofs.Running.{running_none, running_more, running_promised, running_each, running_refused, running_cut}
use Rattle.gateway.proofs.runs.run_all.Goals as goal

pub loop-n-init : goal.loop-n-init
loop-n-init c = λ setup stands. running_none setup c.args.outputs.now.items c.args.gateway.now c.requires.empty stands

pub step-requires-clause-stands : goal.step-requires-clause-stands
step-requires-clause-stands c = λ alive.
    let at = c.requires.stands in
    let running = c.loop-n.invariant at.0 at.1 in
    (at.0, reverse (log_of (take c.loop-n.n c.args.events.now) c.loop-n.outputs.items), running.run, running.stands)

pub returns-then-not-admits-clause-refused : goal.returns-then-not-admits-clause-refused
returns-then-not-admits-clause-refused c = λ setup at.
    running_refused setup c.args.events.now c.loop-n.n c.loop-n.outputs.items c.loop-n.gateway c.index-events-n.result c.loop-n-test.true c.index-events-n.is
    (λ setup log run stands may. absurd (let no : true ≡ false = sym ((c.admits.ensures.log setup log run stands).1 may) ∙ c.if-not-admits.true in cc)) (c.loop-n.invariant setup at)

pub loop-n-preserved : goal.loop-n-preserved
loop-n-preserved c = λ setup at.
    running_more setup c.args.events.now c.loop-n.n c.loop-n.outputs.items c.push.new.self.items c.loop-n.gateway c.step.new.self c.index-events-n.result c.new-out.result c.step.new.out c.loop-n-test.true c.index-events-n.is c.new-out.ensures.items
    c.in-Ok-push.ensures.items c.in-Ok.ensures.stands (c.loop-n.invariant setup at)

pub returns-clause-promised : goal.returns-clause-promised
returns-clause-promised c = λ setup at. running_promised setup c.args.events.now c.loop-n.n c.loop-n.outputs.items c.loop-n.gateway c.loop-n-test.false (c.loop-n.invariant setup at)

pub returns-clause-each : goal.returns-clause-each
returns-clause-each c = running_each c.requires.stands.0 c.args.events.now c.loop-n.n c.loop-n.outputs.items c.loop-n.gateway c.loop-n-test.false (c.loop-n.invariant c.requires.stands.0 c.requires.stands.1)

pub returns-in_default-clause-refused : goal.returns-in_default-clause-refused
returns-in_default-clause-refused c = λ setup at. inl (running_cut setup c.args.events.now c.loop-n.n c.loop-n.outputs.items c.loop-n.gateway c.loop-n-test.true (c.loop-n.invariant setup at))

pub returns-in_default-push-clause-refused : goal.returns-in_default-push-clause-refused
returns-in_default-push-clause-refused c = λ setup at.
    subst (λ outputs. Stops setup c.args.events.now outputs (Memory c.loop-n.n)) (sym c.in_default-push.ensures.items)
    (inl (running_cut setup c.args.events.now c.loop-n.n c.loop-n.outputs.items c.loop-n.gateway c.loop-n-test.true (c.loop-n.invariant setup at)))
