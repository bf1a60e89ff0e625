use Rattle.std.proofs.Common.{rules, arith}
use Rattle.std.proofs.lemmas.Grind.{common_steps}
use Rattle.replay.proofs.LinesLemmas.{two_octets, three_octets, up_took_nothing, up_answered}
use Rattle.replay.proofs.lines.read_line.Goals as goal

pub returns-in-None-read_two_numbers-clause-err : goal.returns-in-None-read_two_numbers-clause-err
returns-in-None-read_two_numbers-clause-err c =
    up_took_nothing c.args.line.now _ (three_octets c.args.line.now 85 84 32 (search rules) (search rules) (search rules) (search rules)) c.in-None-read_two_numbers.ensures

pub returns-in-85-clause-err : goal.returns-in-85-clause-err
returns-in-85-clause-err c =
    up_answered c.args.line.now _ c.read_up.result (two_octets c.args.line.now 85 32 (search rules) (grind (arith, common_steps)) (grind (arith, common_steps))) c.read_up.ensures.err
