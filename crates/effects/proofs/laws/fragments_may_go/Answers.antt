use Rattle.effects.proofs.Going.{fragment_goes}
use Rattle.effects.proofs.laws.fragments_may_go.Goals as goal

pub returns : goal.returns
returns c = fragment_goes
