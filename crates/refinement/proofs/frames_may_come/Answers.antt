use Rattle.refinement.proofs.Taking as taking
use Rattle.refinement.proofs.Beside as beside
use Rattle.refinement.proofs.frames_may_come.Goals as goal

pub returns-clause-may : goal.returns-clause-may
returns-clause-may c = taking.taken_goes_on

pub returns-clause-others : goal.returns-clause-others
returns-clause-others c = beside.others_stay
