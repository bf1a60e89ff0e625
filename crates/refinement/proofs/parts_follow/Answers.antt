use Rattle.refinement.proofs.Performing as laws
use Rattle.refinement.proofs.parts_follow.Goals as goal

pub returns-clause-none : goal.returns-clause-none
returns-clause-none c = laws.performs_none

pub returns-clause-together : goal.returns-clause-together
returns-clause-together c = laws.performs_then
