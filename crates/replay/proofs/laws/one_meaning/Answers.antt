use Rattle.replay.proofs.MeaningLemmas.{one_event, one_script}
use Rattle.replay.proofs.laws.one_meaning.Goals as goal

pub returns-clause-line : goal.returns-clause-line
returns-clause-line c = one_event

pub returns-clause-script : goal.returns-clause-script
returns-clause-script c = one_script
