use Rattle.gateway.proofs.Logging as logging
use Rattle.gateway.proofs.own_tables_are_in_step.Goals as goal

pub returns : goal.returns
returns c = logging.own_in_step
