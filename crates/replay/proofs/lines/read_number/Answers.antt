use Rattle.std.proofs.Common.{arith}
use Rattle.replay.proofs.LinesLemmas.{counted_more, counted_small, not_a_number}
use Rattle.replay.proofs.lines.read_number.Goals as goal

pub returns-then-not-is_ascii_digit : goal.returns-then-not-is_ascii_digit
returns-then-not-is_ascii_digit c =
    not_a_number c.args.word.now c.loop-digit.digit-index c.loop-digit-test.true c.if-not-is_ascii_digit.ensures.cases

pub overflow_mul-number : goal.overflow_mul-number
overflow_mul-number c =
    omega (arith, counted_small c.args.word.now c.loop-digit.digit-index c.loop-digit.number c.loop-digit-test.true (omega arith) c.loop-digit.invariant)

pub overflow_add-number : goal.overflow_add-number
overflow_add-number c =
    omega (arith, c.from.ensures, c.type_inv.word c.loop-digit.digit-index, counted_small c.args.word.now c.loop-digit.digit-index c.loop-digit.number c.loop-digit-test.true (omega arith) c.loop-digit.invariant)

pub loop-digit-preserved : goal.loop-digit-preserved
loop-digit-preserved c =
    rw c.from.ensures (counted_more c.args.word.now c.loop-digit.digit-index c.loop-digit.number c.loop-digit-test.true c.if-not-is_ascii_digit.ensures.cases c.loop-digit.invariant)
