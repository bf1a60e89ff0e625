use Rattle.std.proofs.Common.{[], ◌∷◌, Option}
use Rattle.model.specs.Logs.Event.{UpEnd}
use Rattle.model.specs.Setup.{Setup}
use Rattle.refinement.specs.View.{View, balanced}
use Rattle.event_handlers.specs.Comings.{ComesFrom}
use Rattle.event_handlers.specs.Inputs.Input.{OfEvent}
use Rattle.event_handlers.proofs.Results.{concluded, concluded_rests}
use Rattle.event_handlers.proofs.hearing.end.Goals as goal

pub returns-clause-comes : goal.returns-clause-comes
returns-clause-comes c =
    concluded (λ (now : Option View). (setup : Setup) → ComesFrom setup c.args.session.now balanced c.args.out.now (OfEvent (UpEnd c.args.k) ∷ []) balanced now c.end_to_rest.new.out)
    c.end_to_rest.new.session c.end_to_rest.result c.conclude.result c.conclude.ensures c.end_to_rest.ensures.comes c.end_to_rest.ensures.over

pub returns-clause-rests : goal.returns-clause-rests
returns-clause-rests c = concluded_rests c.end_to_rest.new.session c.end_to_rest.result c.conclude.result c.conclude.ensures c.end_to_rest.ensures.rests
