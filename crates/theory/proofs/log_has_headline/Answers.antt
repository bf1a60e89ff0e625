use Rattle.theory.proofs.Stepping as stepping
use Rattle.theory.proofs.log_has_headline.Goals as goal

pub returns : goal.returns
returns c = stepping.has_headline
