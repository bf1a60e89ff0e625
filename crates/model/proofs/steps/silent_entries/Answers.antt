use Rattle.model.proofs.OwedSteps as laws
use Rattle.model.proofs.steps.silent_entries.Goals as goal

pub returns-clause-acts : goal.returns-clause-acts
returns-clause-acts c = laws.did_nothing

pub returns-clause-controls : goal.returns-clause-controls
returns-clause-controls c = laws.control_owes_nothing
