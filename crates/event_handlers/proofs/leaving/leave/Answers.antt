use Rattle.std.proofs.Common.{refl}
use Rattle.model.specs.Logs.Event.{ClientEnd}
use Rattle.theory.specs.Moves.Decision.{Notes}
use Rattle.event_handlers.specs.Inputs.Input.{OfEvent}
use Rattle.event_handlers.specs.declared.ending.reason.Ending.TheVariants.{Gone}
use Rattle.event_handlers.proofs.Ends.{ends_come}
use Rattle.event_handlers.proofs.Results.{on_ok}
use Rattle.event_handlers.proofs.leaving.leave.Goals as goal

pub returns : goal.returns
returns c =
    on_ok c.end.result (λ ends. λ setup. ends_come setup c.args.session.now Gone (OfEvent ClientEnd) c.args.out.now c.end.new.out c.requires (λ run s leads. (Notes ClientEnd, refl, refl)) (λ run s d leads by. ends setup run s c.args.session.now d refl refl refl leads by)) c.end.ensures
