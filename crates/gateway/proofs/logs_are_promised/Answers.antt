use Rattle.gateway.proofs.Logging as logging
use Rattle.gateway.proofs.logs_are_promised.Goals as goal

pub returns : goal.returns
returns c = logging.promised
