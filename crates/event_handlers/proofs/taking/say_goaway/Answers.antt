use Rattle.std.proofs.Common.{ℕ, [], ◌∷◌, Option, refl, sym, ap, subst, inr}
use Rattle.std.specs.Prelude.{is_some}
use Rattle.model.specs.Frames.{goaway, no_error}
use Rattle.refinement.specs.View.{balanced}
use Rattle.refinement.specs.Bringing.{PerformsOwn}
use Rattle.refinement.proofs.Bringing.{own_none}
use Rattle.event_handlers.specs.block_frames.Following.{goaway_frames}
use Rattle.event_handlers.proofs.Results.{on_ok, on_over}
use Rattle.event_handlers.proofs.taking.say_goaway.Goals as goal

pub returns-in-Some-clause-performs : goal.returns-in-Some-clause-performs
returns-in-Some-clause-performs c =
    on_ok c.pay.result
    (λ performs setup due back.
    subst (λ (last : Option ℕ). PerformsOwn setup c.args.session.now (record balanced { owed = goaway_frames last; due = due; shared = back }) c.args.out.now c.pay.new.session (record balanced { due = due; shared = back }) c.pay.new.out) (sym c.in-Some.is)
    (performs setup [] (record balanced { owed = goaway c.in-Some.last no_error ∷ []; due = due; shared = back }) refl refl (inr refl))) c.pay.ensures.performs

pub returns-in-None-clause-performs : goal.returns-in-None-clause-performs
returns-in-None-clause-performs c setup due back =
    subst (λ (last : Option ℕ). PerformsOwn setup c.args.session.now (record balanced { owed = goaway_frames last; due = due; shared = back }) c.args.out.now c.args.session.now (record balanced { due = due; shared = back }) c.args.out.now) (sym c.in-None.is)
    (own_none setup c.args.session.now (record balanced { due = due; shared = back }) c.args.out.now)

pub returns-in-Some-clause-over : goal.returns-in-Some-clause-over
returns-in-Some-clause-over c = on_over c.pay.result (λ is. (ap is_some c.in-Some.is, is)) c.pay.ensures.over
