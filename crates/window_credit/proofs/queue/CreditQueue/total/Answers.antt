use Rattle.std.proofs.Common.{◌≡◌, ◌≤◌, length, ap, arith}
use Rattle.theory_receive_windows.specs.Marks.{total}
use Rattle.window_credit.specs.Queued.{marks_of}
use Rattle.window_credit.proofs.CountedInQueue.{few}
use Rattle.window_credit.proofs.queue.CreditQueue.total.Goals as goal

pub returns-clause-few : goal.returns-clause-few
returns-clause-few c =
    let marks = marks_of c.self.inside.marks.items in
    let no_more : length marks ≤ total marks = few marks c.self.invariant.2 in
    let all : total marks ≡ c.self.inside.octets = c.self.invariant.0 in
    let seen : length marks ≡ length c.args.self.now = ap length c.self.view_is in
    omega (arith, no_more, all, seen)
