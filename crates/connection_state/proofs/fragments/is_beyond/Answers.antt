use Rattle.std.proofs.Common.{Bool, true, refl, sym, ◌∙◌, ap, subst}
use Rattle.connection_state.specs.Draining.{is_beyond, AreAsEver}
use Rattle.connection_state.proofs.Beyond.{beyond_is, as_ever}
use Rattle.connection_state.proofs.fragments.is_beyond.Goals as goal

pub returns-then-not-drained-clause-as_ever : goal.returns-then-not-drained-clause-as_ever
returns-then-not-drained-clause-as_ever c = λ is.
    subst (λ (d : Bool). AreAsEver d c.args.streams.now c.args.id) (sym c.if-not-drained.true) (record { stands = refl; opens = refl })

pub returns-clause-beyond : goal.returns-clause-beyond
returns-clause-beyond c = λ is.
    (c.if-not-drained.false, beyond_is _ (sym (c.is_above_last.ensures ∙ ap is_beyond c.standing.ensures) ∙ is))

pub returns-clause-as_ever : goal.returns-clause-as_ever
returns-clause-as_ever c = λ is.
    subst (λ (d : Bool). AreAsEver d c.args.streams.now c.args.id) (sym c.if-not-drained.false) (as_ever c.args.streams.now c.args.id (sym (c.is_above_last.ensures ∙ ap is_beyond c.standing.ensures) ∙ is))
