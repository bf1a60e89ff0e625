-- No octets lie in a queue of marks.
use Rattle.std.proofs.Common.{◌≡◌, List, [], ◌∷◌, refl, ◌∙◌, arith}
use Rattle.std.specs.Prelude.{sum_by}
use Rattle.std.proofs.lemmas.List.Sums.{sum_by-cons}
use Rattle.window_credit.specs.HeldInQueue.{in_mark}
use Rattle.window_credit.specs.declared.queue.Mark.{Mark}

pub marks_are_numbers : (marks : List Mark) → sum_by in_mark marks ≡ 0
marks_are_numbers [] = refl
marks_are_numbers (mark ∷ marks) = sum_by-cons in_mark mark marks ∙ omega (arith, marks_are_numbers marks)
