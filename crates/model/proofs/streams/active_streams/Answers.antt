use Rattle.model.proofs.ActiveLaws as laws
use Rattle.model.proofs.streams.active_streams.Goals as goal

pub returns-clause-sent : goal.returns-clause-sent
returns-clause-sent c = laws.active_sent

pub returns-clause-beside : goal.returns-clause-beside
returns-clause-beside c = laws.active_beside

pub returns-clause-came : goal.returns-clause-came
returns-clause-came c = laws.active_came
