use Rattle.effects.proofs.Going.{update_grants, update_goes}
use Rattle.effects.proofs.laws.updates_are_told.Goals as goal

pub returns : goal.returns
returns c = record { grants = update_grants; may_go = update_goes }
