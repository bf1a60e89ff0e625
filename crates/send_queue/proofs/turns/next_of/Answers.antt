use Rattle.std.proofs.Common.{rules, ◌≡◌, drop, take, Some, None}
use Rattle.send_queue.specs.Asked.{windows_over, first_ready}
use Rattle.send_queue.proofs.Readying.{next_above, next_again}
use Rattle.send_queue.proofs.turns.next_of.Goals as goal

pub returns-in-Some : goal.returns-in-Some
returns-in-Some c =
    let windows = windows_over c.args.streams.now c.args.first_size c.args.shared in
    let first : Some c.in-Some.id ≡ first_ready windows (drop c.count_upto.result c.args.kept.now) = search rules in
    next_above windows c.args.last c.count_upto.result c.args.kept.now c.requires c.count_upto.ensures c.in-Some.id first

pub returns-in-None : goal.returns-in-None
returns-in-None c =
    let windows = windows_over c.args.streams.now c.args.first_size c.args.shared in
    let none : None ≡ first_ready windows (drop c.count_upto.result c.args.kept.now) = search rules in
    let first : c.first_ready-in-None.result ≡ first_ready windows (take c.count_upto.result c.args.kept.now) = search rules in
    next_again windows c.args.last c.count_upto.result c.args.kept.now c.requires c.count_upto.ensures none c.first_ready-in-None.result first
