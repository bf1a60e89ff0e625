use Rattle.model.proofs.LayersTurns as lemmas
use Rattle.model.proofs.layers.no_second_turn.Goals as goal

pub returns : goal.returns
returns c = lemmas.no_second_turn
