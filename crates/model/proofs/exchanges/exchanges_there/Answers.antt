use Rattle.model.proofs.ExchangeLaws as laws
use Rattle.model.proofs.exchanges.exchanges_there.Goals as goal

pub returns-clause-first : goal.returns-clause-first
returns-clause-first c = laws.opened_exchange

pub returns-clause-newest : goal.returns-clause-newest
returns-clause-newest c = laws.open_exchange
