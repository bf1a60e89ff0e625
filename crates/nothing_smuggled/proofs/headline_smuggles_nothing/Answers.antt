use Rattle.nothing_smuggled.proofs.Fronts.{headline_smuggles_nothing}
use Rattle.nothing_smuggled.proofs.headline_smuggles_nothing.Goals as goal

pub returns : goal.returns
returns c = headline_smuggles_nothing
