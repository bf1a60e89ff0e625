use Rattle.std.proofs.Common.{[], ◌∷◌, Option}
use Rattle.model.specs.Logs.Event.{Drain}
use Rattle.model.specs.Setup.{Setup}
use Rattle.refinement.specs.View.{View, balanced}
use Rattle.event_handlers.specs.Comings.{ComesFrom}
use Rattle.event_handlers.specs.Inputs.Input.{OfEvent}
use Rattle.event_handlers.proofs.Results.{concluded, concluded_rests}
use Rattle.event_handlers.proofs.draining.drain.Goals as goal

pub returns-clause-comes : goal.returns-clause-comes
returns-clause-comes c =
    concluded (λ (now : Option View). (setup : Setup) → ComesFrom setup c.args.session.now balanced c.args.out.now (OfEvent Drain ∷ []) balanced now c.drain_to_rest.new.out)
    c.drain_to_rest.new.session c.drain_to_rest.result c.conclude.result c.conclude.ensures c.drain_to_rest.ensures.comes c.drain_to_rest.ensures.over

pub returns-clause-rests : goal.returns-clause-rests
returns-clause-rests c = concluded_rests c.drain_to_rest.new.session c.drain_to_rest.result c.conclude.result c.conclude.ensures c.drain_to_rest.ensures.rests
