use Rattle.std.proofs.Common.{◌≡◌, true, false, sym, ◌∙◌, ap}
use Rattle.gateway.specs.Stands.{Standing}
use Rattle.gateway.proofs.Sizes.{empty_within, not_closed_within, over_is_closed, none_in}
use Rattle.gateway.proofs.gateway.Gateway.let_go_if_over.Goals.{in-Closed, in_default}
use Rattle.gateway.proofs.gateway.Gateway.let_go_if_over.Goals as goal

pub returns-then-matches-clause-held : goal.returns-then-matches-clause-held
returns-then-matches-clause-held c = λ setup step log run stands. empty_within setup c.let_go.new.self (ap (λ (g : Standing). g.partial) c.let_go.ensures.stays) (c.let_go.ensures.small setup) c.let_go.ensures.no_marks

pub returns-else-matches-clause-held : goal.returns-else-matches-clause-held
returns-else-matches-clause-held c = λ setup step log run stands.
    not_closed_within setup c.args.self.now step log run stands (elim c.match-matches.branch [
      | in-Closed w ↦ absurd (let both : true ≡ false = sym w.matches-is ∙ c.if-matches.false in cc)
      | in_default w ↦ λ is. w.in_default.not-Closed (ap (λ (g : Standing). g.phase) c.self.view_is ∙ is)
    ])
    c.has_few_marks.ensures

pub returns-then-matches-clause-nothing : goal.returns-then-matches-clause-nothing
returns-then-matches-clause-nothing c = λ over alive. none_in c.let_go.new.self (ap (λ (g : Standing). g.partial) c.let_go.ensures.stays) c.let_go.ensures.nothing

pub returns-else-matches-clause-nothing : goal.returns-else-matches-clause-nothing
returns-else-matches-clause-nothing c = λ over alive. elim c.match-matches.branch [
  | in-Closed w ↦ absurd (let both : true ≡ false = sym w.matches-is ∙ c.if-matches.false in cc)
  | in_default w ↦ absurd (w.in_default.not-Closed (ap (λ (g : Standing). g.phase) c.self.view_is ∙ over_is_closed c.args.self.now.phase over alive))
]
