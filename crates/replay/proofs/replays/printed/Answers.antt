use Rattle.std.proofs.Common.{◌≡◌, ◌∙◌, map, ap}
use Rattle.gateway.specs.Setups.{setup_of}
use Rattle.gateway.specs.Views.{outputs_of}
use Rattle.replay.specs.Printing.{text_of}
use Rattle.replay.proofs.RunsLemmas.{is_run}
use Rattle.replay.proofs.replays.printed.Goals as goal

pub returns-in-Ok-clause-ok : goal.returns-in-Ok-clause-ok
returns-in-Ok-clause-ok c =
    let ran = c.in_ok-run_script.ensures.ok in
    let steps : c.deref.result.now ≡ c.run_script.new.steps.items = c.deref.ensures.value in
    is_run (setup_of c.args.config.now) c.args.script.now _ ran.0 c.run_script.new.steps.items ran.1 ran.2 ran.3
    (c.in-Ok.ensures ∙ ap (λ s. text_of (map (λ o. outputs_of o.items) s)) steps)
