use Rattle.refinement.proofs.Answered as laws
use Rattle.refinement.proofs.frames_call_for.Goals as goal

pub returns-clause-plain : goal.returns-clause-plain
returns-clause-plain c = laws.plain_owes

pub returns-clause-plain_failed : goal.returns-clause-plain_failed
returns-clause-plain_failed c = laws.plain_owes_at_fault

pub returns-clause-block : goal.returns-clause-block
returns-clause-block c = laws.whole_owes

pub returns-clause-part : goal.returns-clause-part
returns-clause-part c = laws.part_owes

pub returns-clause-block_failed : goal.returns-clause-block_failed
returns-clause-block_failed c = laws.block_owes_at_fault
