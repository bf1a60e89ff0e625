use Rattle.std.proofs.Common.{arith}
use Rattle.window_credit.proofs.HeldInQueue.{marks_are_numbers}
use Rattle.window_credit.proofs.laws.what_a_queue_holds_is_seen.Goals as goal

pub returns : goal.returns
returns c = λ waiting. omega (arith, marks_are_numbers waiting.marks.items)
