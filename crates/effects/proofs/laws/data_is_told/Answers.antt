use Rattle.effects.proofs.Going.{data_content, data_ends, data_goes}
use Rattle.effects.proofs.laws.data_is_told.Goals as goal

pub returns : goal.returns
returns c = record { content = data_content; ends = data_ends; may_go = data_goes }
