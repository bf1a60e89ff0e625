use Rattle.std.proofs.Common.{arith, ◌≡◌, ℕ, ◌+◌, ◌-◌, ◌*◌, ◌%◌, ◌<◌, ◌^◌, refl, ap, ◌∙◌}
use Rattle.huffman.proofs.UpcomingLemmas.{four_join, four_number, word_fits, word_shifted}
use Rattle.huffman.proofs.upcoming.and_four.Goals as goal

pub overflow_add-result : goal.overflow_add-result
overflow_add-result c =
    let word : ℕ = c.from-5.result in
    let small : word < 4294967296 = omega arith in
    let below = word_fits c.args.coming word c.requires.aligned c.requires.few small in
    rw (word_shifted word c.args.coming.width small c.requires.few) (omega (arith, below))

pub returns-clause-aligned : goal.returns-clause-aligned
returns-clause-aligned c =
    let word : ℕ = c.from-5.result in
    let small : word < 4294967296 = omega arith in
    let is : word ≡ four_number c.args.first c.args.second c.args.third c.args.fourth = omega arith in
    let exact : c.args.coming.number + word * 2 ^ (32 - c.args.coming.width) % 18446744073709551616 ≡ c.args.coming.number + four_number c.args.first c.args.second c.args.third c.args.fourth * 2 ^ (32 - c.args.coming.width) =
    ap (λ n. c.args.coming.number + n) (word_shifted word c.args.coming.width small c.requires.few) ∙ ap (λ n. c.args.coming.number + n * 2 ^ (32 - c.args.coming.width)) is in
    (four_join c.args.coming _ c.args.first c.args.second c.args.third c.args.fourth c.requires.aligned c.requires.few c.ranges.first.fits c.ranges.second.fits c.ranges.third.fits c.ranges.fourth.fits exact refl).0

pub returns-clause-bits : goal.returns-clause-bits
returns-clause-bits c =
    let word : ℕ = c.from-5.result in
    let small : word < 4294967296 = omega arith in
    let is : word ≡ four_number c.args.first c.args.second c.args.third c.args.fourth = omega arith in
    let exact : c.args.coming.number + word * 2 ^ (32 - c.args.coming.width) % 18446744073709551616 ≡ c.args.coming.number + four_number c.args.first c.args.second c.args.third c.args.fourth * 2 ^ (32 - c.args.coming.width) =
    ap (λ n. c.args.coming.number + n) (word_shifted word c.args.coming.width small c.requires.few) ∙ ap (λ n. c.args.coming.number + n * 2 ^ (32 - c.args.coming.width)) is in
    (four_join c.args.coming _ c.args.first c.args.second c.args.third c.args.fourth c.requires.aligned c.requires.few c.ranges.first.fits c.ranges.second.fits c.ranges.third.fits c.ranges.fourth.fits exact refl).1
