use Rattle.connection_state.proofs.SendingIncrements as laws
use Rattle.connection_state.proofs.sending_laws.increments_are_told.Goals as goal

pub returns : goal.returns
returns c = laws.told
