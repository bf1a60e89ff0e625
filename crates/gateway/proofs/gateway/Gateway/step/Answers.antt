use Rattle.std.proofs.Common.{◌∷◌, ◌++◌, ap, sym, ◌∙◌}
use Rattle.effects.specs.Views.{event_of}
use Rattle.gateway.specs.Stands.{Standing}
use Rattle.gateway.specs.Stands.{is_open}
use Rattle.gateway.proofs.Sizes.{empty_within, none_in}
use Rattle.gateway.proofs.gateway.Gateway.step.Goals as goal

pub returns-in-Ok-clause-stands : goal.returns-in-Ok-clause-stands
returns-in-Ok-clause-stands c =
    let steps = c.in-Ok.ensures.steps in (
      steps.0,
      steps.1,
      λ setup log run stands.
          let next = steps.2 setup log run stands in
          record { segment = next.segment; step_is = next.step_is; stands = c.let_go_if_over.ensures.stands setup (record { event = event_of c.args.event.now; outputs = steps.0 } ∷ log) (next.segment ++ run) next.stands },
    )

pub returns-in-Ok-clause-held : goal.returns-in-Ok-clause-held
returns-in-Ok-clause-held c = λ setup log run stands.
    let steps = c.in-Ok.ensures.steps in
    let next = steps.2 setup log run stands in
    c.let_go_if_over.ensures.held setup (record { event = event_of c.args.event.now; outputs = steps.0 }) log (next.segment ++ run) next.stands

pub returns-in-Err-clause-held : goal.returns-in-Err-clause-held
returns-in-Err-clause-held c = λ setup log run stands. empty_within setup c.let_go.new.self (ap (λ (g : Standing). g.partial) c.let_go.ensures.stays) (c.let_go.ensures.small setup) c.let_go.ensures.no_marks

pub returns-in-Ok-clause-lets_go : goal.returns-in-Ok-clause-lets_go
returns-in-Ok-clause-lets_go c = λ was over. c.let_go_if_over.ensures.nothing (sym (ap is_open c.let_go_if_over.ensures.phase) ∙ over) c.in-Ok.ensures.alive

pub returns-in-Err-clause-lets_go : goal.returns-in-Err-clause-lets_go
returns-in-Err-clause-lets_go c = λ was over. none_in c.let_go.new.self (ap (λ (g : Standing). g.partial) c.let_go.ensures.stays) c.let_go.ensures.nothing
