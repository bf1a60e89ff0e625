use Rattle.model.proofs.PastLaws as laws
use Rattle.model.proofs.exchanges.past_its_end.Goals as goal

pub returns-clause-whole : goal.returns-clause-whole
returns-clause-whole c = laws.whole_past

pub returns-clause-shown : goal.returns-clause-shown
returns-clause-shown c = laws.shown_past
