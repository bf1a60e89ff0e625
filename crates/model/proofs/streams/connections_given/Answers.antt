use Rattle.model.proofs.GivenLaws as laws
use Rattle.model.proofs.streams.connections_given.Goals as goal

pub returns-clause-stream : goal.returns-clause-stream
returns-clause-stream c = laws.given_is

pub returns-clause-above : goal.returns-clause-above
returns-clause-above c = laws.number_above

pub returns-clause-open : goal.returns-clause-open
returns-clause-open c = laws.open_given
