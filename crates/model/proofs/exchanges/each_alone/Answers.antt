use Rattle.model.proofs.AloneLaws as laws
use Rattle.model.proofs.exchanges.each_alone.Goals as goal

pub returns-clause-newest : goal.returns-clause-newest
returns-clause-newest c = laws.newest_alone

pub returns-clause-sent : goal.returns-clause-sent
returns-clause-sent c = laws.sent_alone

pub returns-clause-reads : goal.returns-clause-reads
returns-clause-reads c = laws.reads_alone
