use Rattle.std.proofs.Common.{[], ◌∷◌, None, refl, sym, subst}
use Rattle.model.specs.Tapes.Breach.{WrongPreface, TooLong}
use Rattle.theory.specs.Moves.Decision.{Breaks}
use Rattle.refinement.specs.View.{balanced}
use Rattle.event_handlers.specs.Inputs.Input.{OfBreach}
use Rattle.event_handlers.specs.Comings.{ComesFrom}
use Rattle.event_handlers.specs.Leaving.{breach_of}
use Rattle.event_handlers.specs.declared.leaving.Breach.{Breach}
use Rattle.event_handlers.specs.ending.Reasons.{IsBy}
use Rattle.event_handlers.specs.declared.ending.reason.Ending.TheVariants.{Breach as Broken}
use Rattle.event_handlers.proofs.Ends.{ends_come}
use Rattle.event_handlers.proofs.Results.{on_ok}
use Rattle.event_handlers.proofs.leaving.leave_at.Goals as goal
use Rattle.event_handlers.proofs.leaving.leave_at.Goals.{in-WrongPreface, in-TooLong}

pub returns : goal.returns
returns c =
    elim c.match-breach.branch [
      | in-WrongPreface w ↦
          on_ok c.end.result (λ ends. λ setup.
          subst (λ (b : Breach). ComesFrom setup c.args.session.now balanced c.args.out.now (OfBreach (breach_of b) ∷ []) balanced None c.end.new.out) (sym w.in-WrongPreface.is)
          (ends_come setup c.args.session.now (Broken 1) (OfBreach WrongPreface) c.args.out.now c.end.new.out c.requires (λ run s leads. (Breaks WrongPreface, (WrongPreface, refl, refl), refl))
          (λ run s d leads by. ends setup run s c.args.session.now d refl refl refl leads (subst (λ n. IsBy s (Broken n) d) (sym w.code-is) by)))) c.end.ensures
      | in-TooLong w ↦
          on_ok c.end.result (λ ends. λ setup.
          subst (λ (b : Breach). ComesFrom setup c.args.session.now balanced c.args.out.now (OfBreach (breach_of b) ∷ []) balanced None c.end.new.out) (sym w.in-TooLong.is)
          (ends_come setup c.args.session.now (Broken 6) (OfBreach TooLong) c.args.out.now c.end.new.out c.requires (λ run s leads. (Breaks TooLong, (TooLong, refl, refl), refl))
          (λ run s d leads by. ends setup run s c.args.session.now d refl refl refl leads (subst (λ n. IsBy s (Broken n) d) (sym w.code-is) by)))) c.end.ensures
    ]
