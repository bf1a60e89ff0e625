use Rattle.std.proofs.Common.{◌≤◌, length, List, subst}
use Rattle.theory_receive_windows.specs.Marks.{total}
use Rattle.window_credit.specs.Sides.{Side, queue_of}
use Rattle.window_credit.proofs.Counted.{few_of}
use Rattle.window_credit.proofs.marks.Marks.are_few.Goals as goal

pub returns : goal.returns
returns c = λ id. subst (λ (xs : List Side). length (queue_of id xs) ≤ total (queue_of id xs)) c.self.view_is (few_of id c.self.inside.sides.items c.self.invariant.1)
