use Rattle.replay.proofs.LinesLemmas.{no_number_and_hex, bad_number_before_hex, refuses_hex}
use Rattle.replay.proofs.lines.read_up.Goals as goal

pub returns-in_default-clause-err : goal.returns-in_default-clause-err
returns-in_default-clause-err c = no_number_and_hex c.args.words.now c.in_default.ensures

pub returns-in_default-read_number-clause-err : goal.returns-in_default-read_number-clause-err
returns-in_default-read_number-clause-err c =
    bad_number_before_hex c.args.words.now _ _ c.in-Some.ensures c.in_default-read_number.ensures

pub returns-in-Err-clause-err : goal.returns-in-Err-clause-err
returns-in-Err-clause-err c =
    refuses_hex c.args.words.now _ _ c.in-Some.ensures c.in-Err.fault c.in-Err.ensures.err
