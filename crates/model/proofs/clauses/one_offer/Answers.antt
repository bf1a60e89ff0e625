use Rattle.model.proofs.OfferLaws as laws
use Rattle.model.proofs.clauses.one_offer.Goals as goal

pub returns : goal.returns
returns c known t stream d e apart p q = laws.one_offer known t stream apart d e p q
