use Rattle.model.proofs.OfferLaws as laws
use Rattle.model.proofs.clauses.one_shown.Goals as goal

pub returns : goal.returns
returns c = laws.one_shown
