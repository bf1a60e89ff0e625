use Rattle.model.proofs.OwedSteps as laws
use Rattle.model.proofs.steps.opened_for_good.Goals as goal

pub returns : goal.returns
returns c = laws.not_again
