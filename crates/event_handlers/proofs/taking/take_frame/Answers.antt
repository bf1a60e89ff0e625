use Rattle.std.proofs.Common.{[], ◌∷◌, Option}
use Rattle.frames.specs.Views.{frame_of}
use Rattle.model.specs.Setup.{Setup}
use Rattle.refinement.specs.View.{View, balanced}
use Rattle.event_handlers.specs.Comings.{ComesFrom}
use Rattle.event_handlers.specs.Inputs.Input.{OfFrame}
use Rattle.event_handlers.specs.Resting.{IsServed}
use Rattle.event_handlers.proofs.Results.{concluded, concluded_rests}
use Rattle.event_handlers.proofs.taking.take_frame.Goals as goal

pub returns-then-has_fragment-clause-comes : goal.returns-then-has_fragment-clause-comes
returns-then-has_fragment-clause-comes c =
    concluded (λ (now : Option View). (setup : Setup) → IsServed setup c.args.service → ComesFrom setup c.args.session.now balanced c.args.out.now (OfFrame (frame_of c.args.view) ∷ []) balanced now c.take_fragment.new.out)
    c.take_fragment.new.session c.take_fragment.result c.conclude.result c.conclude.ensures c.take_fragment.ensures.comes c.take_fragment.ensures.over

pub returns-then-has_fragment-clause-rests : goal.returns-then-has_fragment-clause-rests
returns-then-has_fragment-clause-rests c = concluded_rests c.take_fragment.new.session c.take_fragment.result c.conclude.result c.conclude.ensures c.take_fragment.ensures.rests

pub returns-else-has_fragment-clause-comes : goal.returns-else-has_fragment-clause-comes
returns-else-has_fragment-clause-comes c =
    concluded (λ (now : Option View). (setup : Setup) → IsServed setup c.args.service → ComesFrom setup c.args.session.now balanced c.args.out.now (OfFrame (frame_of c.args.view) ∷ []) balanced now c.take_other.new.out)
    c.take_other.new.session c.take_other.result c.conclude-else-has_fragment.result c.conclude-else-has_fragment.ensures c.take_other.ensures.comes c.take_other.ensures.over

pub returns-else-has_fragment-clause-rests : goal.returns-else-has_fragment-clause-rests
returns-else-has_fragment-clause-rests c = concluded_rests c.take_other.new.session c.take_other.result c.conclude-else-has_fragment.result c.conclude-else-has_fragment.ensures c.take_other.ensures.rests
