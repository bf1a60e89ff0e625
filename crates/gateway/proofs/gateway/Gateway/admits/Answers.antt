use Rattle.std.proofs.Common.{◌≡◌, ◌∙◌, ◌&&◌, true, false, refl, ap, sym}
use Rattle.effects.specs.Views.{event_of}
use Rattle.theory_errors.specs.Rule.{known_of}
use Rattle.theory_errors.proofs.Knowing.{known_so}
use Rattle.theory.specs.State.{conducts}
use Rattle.event_handlers.specs.Admission.{admits as admits_kept}
use Rattle.gateway.specs.Stands.{admits}
use Rattle.gateway.proofs.Admitting.{admitted_in, in_admitted}
use Rattle.gateway.proofs.gateway.Gateway.admits.Goals as goal

pub returns-then-is_open-clause-log : goal.returns-then-is_open-clause-log
returns-then-is_open-clause-log c = λ setup log run stands.
    let told : c.may_come.result ≡ admits c.args.self.now (event_of c.args.event.now) =
    c.may_come.ensures ∙ ap (λ b. b && admits_kept c.args.self.now.kept (event_of c.args.event.now)) (sym c.if-is_open.true ∙ c.is_open.ensures) in (
      λ yes. admitted_in setup c.args.self.now log run stands (event_of c.args.event.now) (sym told ∙ yes) (known_of setup (conducts run)) refl (known_so setup (conducts run)),
      λ may. told ∙ in_admitted setup c.args.self.now log run stands (event_of c.args.event.now) may,
    )

pub returns-else-is_open-clause-log : goal.returns-else-is_open-clause-log
returns-else-is_open-clause-log c = λ setup log run stands.
    let told : c.is_open.result ≡ admits c.args.self.now (event_of c.args.event.now) =
    c.if-is_open.false ∙ ap (λ b. b && admits_kept c.args.self.now.kept (event_of c.args.event.now)) (sym c.if-is_open.false ∙ c.is_open.ensures) in (
      λ yes. absurd (let no : false ≡ true = sym c.if-is_open.false ∙ yes in cc),
      λ may. told ∙ in_admitted setup c.args.self.now log run stands (event_of c.args.event.now) may,
    )
