use Rattle.model.proofs.ExchangeLaws as laws
use Rattle.model.proofs.exchanges.texts_joined.Goals as goal

pub returns : goal.returns
returns c = laws.texts_joined
