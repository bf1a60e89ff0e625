use Rattle.refinement.proofs.Passing as laws
use Rattle.refinement.proofs.parts_may_go.Goals as goal

pub returns-clause-part : goal.returns-clause-part
returns-clause-part c = laws.part_goes_on

pub returns-clause-fragment : goal.returns-clause-fragment
returns-clause-fragment c = laws.fragment_goes_on
