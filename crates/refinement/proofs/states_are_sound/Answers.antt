use Rattle.refinement.proofs.Sound as laws
use Rattle.refinement.proofs.states_are_sound.Goals as goal

pub returns-clause-boxes : goal.returns-clause-boxes
returns-clause-boxes c = laws.boxes

pub returns-clause-opens : goal.returns-clause-opens
returns-clause-opens c = laws.opens_next

pub returns-clause-uses : goal.returns-clause-uses
returns-clause-uses c = laws.uses_next
