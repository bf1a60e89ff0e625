use Rattle.replay.proofs.LinesLemmas.{Counted}
use Rattle.replay.proofs.lines.read_number.Given as goal

abbrev pub invariant-loop-digit : goal.invariant-loop-digit
invariant-loop-digit l = Counted l.word l.digit-index l.number
