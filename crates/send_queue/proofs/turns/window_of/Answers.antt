use Rattle.std.proofs.Common.{rules, ◌≡◌, pos}
use Rattle.theory_errors.specs.Judging.{window_in}
use Rattle.theory_errors.specs.Rows.{find}
use Rattle.send_queue.proofs.Balances.{no_window}
use Rattle.send_queue.proofs.turns.window_of.Goals as goal

pub returns-in-None : goal.returns-in-None
returns-in-None c =
    let window : window_in c.args.first_size (find c.args.streams.now c.args.id) ≡ pos c.args.first_size = no_window c.args.first_size c.args.streams.now c.args.id c.in-None.ensures.kept c.in-None.ensures.none in
    search rules
