use Rattle.std.proofs.Common.{arith, ◌≡◌, ℕ, ◌+◌, ◌-◌, ◌*◌, ◌%◌, ◌^◌, refl, ap, ◌∙◌}
use Rattle.huffman.proofs.UpcomingLemmas.{octet_fits, octet_joins, octet_shifted}
use Rattle.huffman.proofs.upcoming.and_octet.Goals as goal

pub overflow_add-result : goal.overflow_add-result
overflow_add-result c =
    let below = octet_fits c.args.coming c.args.octet c.requires.aligned c.requires.few c.ranges.octet.fits in
    rw (c.from.ensures, octet_shifted c.args.octet c.args.coming.width c.ranges.octet.fits c.requires.few) (omega (arith, below))

pub returns-clause-aligned : goal.returns-clause-aligned
returns-clause-aligned c =
    let sum : ℕ = c.args.coming.number + c.from.result * 2 ^ (56 - c.args.coming.width) % 18446744073709551616 in
    let exact : sum ≡ c.args.coming.number + c.args.octet * 2 ^ (56 - c.args.coming.width) =
    ap (λ n. c.args.coming.number + n * 2 ^ (56 - c.args.coming.width) % 18446744073709551616) c.from.ensures ∙ ap (λ n. c.args.coming.number + n) (octet_shifted c.args.octet c.args.coming.width c.ranges.octet.fits c.requires.few) in
    (octet_joins c.args.coming _ c.args.octet c.requires.aligned c.requires.few c.ranges.octet.fits exact refl).0

pub returns-clause-bits : goal.returns-clause-bits
returns-clause-bits c =
    let sum : ℕ = c.args.coming.number + c.from.result * 2 ^ (56 - c.args.coming.width) % 18446744073709551616 in
    let exact : sum ≡ c.args.coming.number + c.args.octet * 2 ^ (56 - c.args.coming.width) =
    ap (λ n. c.args.coming.number + n * 2 ^ (56 - c.args.coming.width) % 18446744073709551616) c.from.ensures ∙ ap (λ n. c.args.coming.number + n) (octet_shifted c.args.octet c.args.coming.width c.ranges.octet.fits c.requires.few) in
    (octet_joins c.args.coming _ c.args.octet c.requires.aligned c.requires.few c.ranges.octet.fits exact refl).1
