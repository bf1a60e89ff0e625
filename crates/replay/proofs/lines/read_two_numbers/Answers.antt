use Rattle.replay.proofs.LinesLemmas.{no_two_numbers, bad_first_number, bad_second_number}
use Rattle.replay.proofs.lines.read_two_numbers.Goals as goal

pub returns-in_err-first : goal.returns-in_err-first
returns-in_err-first c = rw c.from_residual.ensures (no_two_numbers c.args.words.now c.in_err-first.ensures)

pub returns-in_err-first-2 : goal.returns-in_err-first-2
returns-in_err-first-2 c =
    rw c.from_residual-in_err-first-2.ensures (bad_first_number c.args.words.now _ _ c.in_ok-first.ensures c.in_err-first-2.ensures)

pub returns-in_err-second : goal.returns-in_err-second
returns-in_err-second c =
    rw c.from_residual-in_err-second.ensures (bad_second_number c.args.words.now _ _ c.in_ok-first.ensures c.in_err-second.ensures)
