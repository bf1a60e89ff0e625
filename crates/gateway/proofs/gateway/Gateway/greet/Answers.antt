use Rattle.std.proofs.Common.{◌≡◌, true, false, ap, subst, sym, ◌∙◌}
use Rattle.model.specs.Setup.{Setup}
use Rattle.refinement.specs.View.{View}
use Rattle.refinement.specs.Rest.{Reached}
use Rattle.event_handlers.specs.Resting.{IsSettled}
use Rattle.gateway.specs.Stands.{Standing, IsFresh, pending_in}
use Rattle.gateway.specs.Receiving.{Greets}
use Rattle.gateway.proofs.Pieces.{greets_none, greets_first}
use Rattle.gateway.specs.declared.phase.Phase.{Phase}
use Rattle.gateway.specs.declared.phase.Phase.TheVariants as phase
use Rattle.gateway.proofs.gateway.Gateway.greet.Goals as goal
use Rattle.gateway.proofs.gateway.Gateway.greet.Goals.{in-New, in_default}

pub returns-else-matches : goal.returns-else-matches
returns-else-matches c = subst (λ o. Greets c.args.self.now c.args.self.now o) (sym c.requires.nothing) (greets_none c.args.self.now
    (elim c.match-matches.branch [
      | in-New w ↦ absurd (let both : true ≡ false = sym w.matches-is ∙ c.if-matches.false in cc)
      | in_default w ↦ λ is. w.in_default.not-New (ap (λ (g : Standing). g.phase) c.self.view_is ∙ is)
    ]) c.requires.settled)

pub returns-in_ok-greet : goal.returns-in_ok-greet
returns-in_ok-greet c =
    let new : c.args.self.now.phase ≡ phase.New =
    elim c.match-matches.branch [
      | in-New w ↦ ap (λ (g : Standing). g.phase) (sym c.self.view_is) ∙ w.in-New.is
      | in_default w ↦ absurd (let both : true ≡ false = sym c.if-matches.true ∙ w.matches-is in cc)
    ] in
    rw (← c.self.view_is) (greets_first _ c.greet.new.session c.args.out.now c.greet.new.out (ap (λ (g : Standing). g.phase) c.self.view_is ∙ new) (subst (λ (g : Standing). IsSettled g.kept) (sym c.self.view_is) c.requires.settled) c.requires.nothing c.in_ok-greet.ensures.performs c.in_ok-greet.ensures.puts c.in_ok-greet.ensures.counts)

-- nothing was put out yet
pub greet-requires-clause-fresh : goal.greet-requires-clause-fresh
greet-requires-clause-fresh c =
    let new : c.args.self.now.phase ≡ phase.New =
    elim c.match-matches.branch [
      | in-New w ↦ ap (λ (g : Standing). g.phase) (sym c.self.view_is) ∙ w.in-New.is
      | in_default w ↦ absurd (let both : true ≡ false = sym c.if-matches.true ∙ w.matches-is in cc)
    ] in
    ap (λ (g : Standing). g.kept.untaken) c.self.view_is ∙ subst (λ (p : Phase). IsFresh p c.args.self.now.kept) new c.requires.fresh

-- something may come in
pub greet-requires-clause-goes_on : goal.greet-requires-clause-goes_on
greet-requires-clause-goes_on c = (subst (λ (g : Standing). IsSettled g.kept) (sym c.self.view_is) c.requires.settled).rest.goes_on

-- the settings are owed
pub greet-requires-clause-reached : goal.greet-requires-clause-reached
greet-requires-clause-reached c =
    let new : c.args.self.now.phase ≡ phase.New =
    elim c.match-matches.branch [
      | in-New w ↦ ap (λ (g : Standing). g.phase) (sym c.self.view_is) ∙ w.in-New.is
      | in_default w ↦ absurd (let both : true ≡ false = sym c.if-matches.true ∙ w.matches-is in cc)
    ] in
    let setup = c.requires.reached.0 in (
      setup,
      subst (λ (p : Phase). Reached setup c.self.inside.session (pending_in setup.more_room p)) new
          (subst (λ (g : Standing). Reached setup g.kept (pending_in setup.more_room c.args.self.now.phase)) (sym c.self.view_is) c.requires.reached.1),
    )
