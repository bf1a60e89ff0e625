use Rattle.window_credit.proofs.Telling as telling
use Rattle.window_credit.proofs.laws.marks_are_ahead.Goals as goal

pub returns : goal.returns
returns c = telling.ahead
