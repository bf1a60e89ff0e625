use Rattle.model.proofs.ExchangeLaws as laws
use Rattle.model.proofs.exchanges.none_kept.Goals as goal

pub returns : goal.returns
returns c = laws.none_kept
