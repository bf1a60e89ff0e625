use Rattle.std.proofs.Common.{◌<◌, subst, arith}
use Rattle.response_texts.proofs.ChunkLineLemmas.{breaks_first, breaks_digits, small_size, next_size, digit_goes, behind_digits}
use Rattle.response_texts.specs.ChunkLines.{AreDigits}
use Rattle.response_texts.proofs.chunk_line.size_step.Goals as goal

pub returns-then-digits-ge-MOST_DIGITS : goal.returns-then-digits-ge-MOST_DIGITS
returns-then-digits-ge-MOST_DIGITS c = λ text a. breaks_digits c.args.digits c.args.size c.args.octet text c.if-digits-ge-MOST_DIGITS.true c.in-Some.ensures.0 a

pub overflow_mul-more : goal.overflow_mul-more
overflow_mul-more c = let small : c.args.size < 268435456 = small_size c.args.digits c.args.size c.requires c.if-digits-ge-MOST_DIGITS.false in omega arith

pub overflow_add-more : goal.overflow_add-more
overflow_add-more c =
    let small : c.args.size < 268435456 = small_size c.args.digits c.args.size c.requires c.if-digits-ge-MOST_DIGITS.false in
    let value : c.in-Some.value < 16 = c.in-Some.ensures.2 in
    omega arith

pub returns-else-digits-ge-MOST_DIGITS : goal.returns-else-digits-ge-MOST_DIGITS
returns-else-digits-ge-MOST_DIGITS c = record {
  range = next_size c.args.digits c.args.size c.in-Some.value c.requires c.in-Some.ensures.2;
  goes = λ text a. digit_goes c.args.digits c.args.size c.args.octet c.in-Some.value text c.if-digits-ge-MOST_DIGITS.false c.in-Some.ensures.0 c.in-Some.ensures.1 a;
}

pub returns-then-digits-eq0 : goal.returns-then-digits-eq0
returns-then-digits-eq0 c = λ text a. breaks_first c.args.size c.args.octet text c.in-None.ensures (subst (λ n. AreDigits n c.args.size text) c.if-digits-eq0.true a)

pub returns-else-digits-eq0 : goal.returns-else-digits-eq0
returns-else-digits-eq0 c = behind_digits c.args.digits c.args.size c.args.octet c.space_step.result c.if-digits-eq0.false c.space_step.ensures
