use Rattle.window_credit.proofs.Looking.{above_all}
use Rattle.window_credit.proofs.laws.ids_are_above.Goals as goal

pub returns : goal.returns
returns c = λ sides id below. above_all id sides below
