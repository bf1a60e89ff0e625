use Rattle.std.proofs.Common.{◌≡◌, ◌<◌, ◌^◌, sym, subst, arith}
use Rattle.theory_receive_windows.specs.Marks.{total}
use Rattle.window_credit.specs.Queued.{marks_of}
use Rattle.window_credit.specs.Counts.{AreSome}
use Rattle.window_credit.proofs.CountedInQueue.{popped_some}
use Rattle.window_credit.proofs.queue.CreditQueue.reach.Goals as goal

pub invariant_of-self : goal.invariant_of-self
invariant_of-self c =
    let marks = marks_of c.self.inside.marks.items in
    let before : total marks ≡ c.self.inside.octets = c.self.invariant.0 in
    let fits : c.self.inside.octets < 2 ^ 64 = c.self.invariant.1 in
    let all = c.drop_all-count.ensures.all in
    (omega (arith, before, all), omega (arith, fits), subst AreSome (sym c.drop_all-count.ensures.left) (popped_some c.args.taken marks c.self.invariant.2))
