-- A worked run, move by move: the state behind a move is computed from the one before it alone, so that each move is shown to be
-- one that may come by the states before it and behind it, whatever run led there.
use Rattle.std.proofs.Common.{◌≡◌, false, List, ◌∷◌, sym, ◌∙◌, ap, subst}
use Rattle.model.specs.Setup.{Setup}
use Rattle.theory_errors.specs.Summary.{Summary}
use Rattle.theory.specs.Moves.{Decision, Move}
use Rattle.theory.specs.Moves.Move.{Does, Settles}
use Rattle.theory.specs.State.{State, state_of}
use Rattle.theory.specs.Rule.{Rests, MayDo, RestsBehind}
use Rattle.theory.specs.Steps.{after, told_by, told_behind, next, Stands}
use Rattle.theory.proofs.Stepping.{before_is, done, settled}

module _ (setup : Setup) (run : List Move) (x : State) (stands : Stands setup run x) where
  -- a decision that may come there leads on, to a state that is given
  pub goes : (d : Decision) (y : State) → after setup (told_by x) (told_by y) x d ≡ y → y.ledger.book.ends ≡ false → MayDo setup (told_by x) (told_by y) x d → Stands setup (Does d ∷ run) y
  goes d y is goes_on may =
      subst (Stands setup (Does d ∷ run)) (ap (λ (u : Summary). after setup (told_by x) u x d) behind ∙ is)
      (done setup run x stands d (ap (λ (z : State). z.ledger.book.ends) is ∙ goes_on) (subst (λ (u : Summary). MayDo setup (told_by x) u x d) (sym behind) may))
    where
      behind : told_behind setup x d ≡ told_by y
      behind = ap told_by is

  -- so does the end of an effect
  pub settles : Stands setup (Settles ∷ run) (next setup x Settles)
  settles = settled setup run x stands

  -- it rests behind the run where it rests by what is kept
  pub rests : Rests (told_by x) x → RestsBehind setup run
  rests r = subst (λ s. Rests s (state_of setup run)) (sym (before_is setup run x stands)) (subst (λ z. Rests (told_by x) z) (sym stands.is) r)
