use Rattle.one_exchange.proofs.Logs.{come_of_open, keeps_none}
use Rattle.one_exchange.proofs.tapes_keep_none.Goals as goal

pub returns-clause-open : goal.returns-clause-open
returns-clause-open c = come_of_open

pub returns-clause-none : goal.returns-clause-none
returns-clause-none c = keeps_none
