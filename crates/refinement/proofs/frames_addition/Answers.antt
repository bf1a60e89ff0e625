use Rattle.refinement.proofs.Answered as laws
use Rattle.refinement.proofs.frames_addition.Goals as goal

pub returns-clause-plain : goal.returns-clause-plain
returns-clause-plain c = laws.plain_addition

pub returns-clause-block : goal.returns-clause-block
returns-clause-block c = laws.whole_addition

pub returns-clause-part : goal.returns-clause-part
returns-clause-part c = laws.part_addition

pub returns-clause-failed : goal.returns-clause-failed
returns-clause-failed c = laws.block_failed
