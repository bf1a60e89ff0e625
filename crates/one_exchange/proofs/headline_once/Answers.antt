use Rattle.one_exchange.proofs.Logs.{headline_holds}
use Rattle.one_exchange.proofs.headline_once.Goals as goal

pub returns : goal.returns
returns c = headline_holds
