use Rattle.model.proofs.LifeLaws as laws
use Rattle.model.proofs.streams.end_stays.Goals as goal

pub returns : goal.returns
returns c = laws.ends_sent
