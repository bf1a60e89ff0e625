use Rattle.std.proofs.Common.{arith}
use Rattle.replay.proofs.ScriptsLemmas.{ended_line, unended_line}
use Rattle.replay.proofs.lines.first_line.Goals as goal

pub returns-in-Some : goal.returns-in-Some
returns-in-Some c = ended_line c.args.text.now c.in-Some.parts.0.now c.in-Some.parts.1.now c.in-Some.ensures

pub returns-in-None : goal.returns-in-None
returns-in-None c = unended_line c.args.text.now (grind arith) c.in-None.ensures
