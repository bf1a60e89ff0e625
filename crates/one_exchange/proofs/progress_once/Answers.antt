use Rattle.one_exchange.proofs.Alone.{stands}
use Rattle.one_exchange.proofs.Ending.{progress_holds}
use Rattle.one_exchange.proofs.progress_once.Goals as goal

pub returns : goal.returns
returns c known t n = progress_holds known t (stands known t n)
