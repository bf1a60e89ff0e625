use Rattle.std.proofs.Common.{arith}
use Rattle.window_credit.proofs.HeldInside.{sides_are_numbers}
use Rattle.window_credit.proofs.laws.what_is_held_is_seen.Goals as goal

pub returns-clause-marks : goal.returns-clause-marks
returns-clause-marks c = λ marks. omega (arith, sides_are_numbers marks.sides.items)
