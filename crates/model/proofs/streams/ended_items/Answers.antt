use Rattle.model.proofs.ItemLaws as laws
use Rattle.model.proofs.streams.ended_items.Goals as goal

pub returns : goal.returns
returns c = laws.ended_by_items
