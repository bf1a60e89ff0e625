use Rattle.effects.proofs.Cuts.{in_one}
use Rattle.effects.proofs.Fragments.{block_completes}
use Rattle.effects.proofs.laws.blocks_are_completed.Goals as goal

pub returns : goal.returns
returns c = record { one = in_one; completed = block_completes }
