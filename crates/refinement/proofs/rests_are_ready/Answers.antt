use Rattle.refinement.proofs.Resting as laws
use Rattle.refinement.proofs.rests_are_ready.Goals as goal

pub returns : goal.returns
returns c = laws.rests_are_ready
