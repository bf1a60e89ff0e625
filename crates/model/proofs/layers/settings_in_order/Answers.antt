use Rattle.model.proofs.LayersSettings as lemmas
use Rattle.model.proofs.layers.settings_in_order.Goals as goal

pub returns-clause-read_back : goal.returns-clause-read_back
returns-clause-read_back c = lemmas.read_back

pub returns-clause-applied : goal.returns-clause-applied
returns-clause-applied c = lemmas.applied_in_order
