use Rattle.field_rules.proofs.octets.number.Given as goal
use Rattle.field_rules.proofs.Numbers.{Read}

abbrev pub invariant-loop-digit : goal.invariant-loop-digit
invariant-loop-digit l = Read l.digits l.digit-index l.sum
