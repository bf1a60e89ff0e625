use Rattle.model.proofs.OpenLaws as laws
use Rattle.model.proofs.exchanges.requests_joined.Goals as goal

pub returns : goal.returns
returns c = laws.sent_together
