use Rattle.std.proofs.Common.{arith, ◌<◌, ◌^◌, ◌-◌, subst}
use Rattle.hpack_int.proofs.Written.{first, short_text, exact, writes}
use Rattle.hpack_int.proofs.write.Goals as goal

pub overflow_add-high : goal.overflow_add-high
overflow_add-high c =
    let e = exact c.args.prefix c.requires.most in
    let less : c.args.value < 2 ^ c.args.prefix - 1 = subst (λ n. c.args.value < n - 1) e c.if-value-ones.true in
    let f = first c.args.prefix c.requires.some c.requires.most c.args.high c.args.value (omega (arith, c.ranges.high)) c.requires.no_bit (omega (arith, less)) in
    omega (arith, f.octet)

pub returns-then-value-ones-clause-ok : goal.returns-then-value-ones-clause-ok
returns-then-value-ones-clause-ok c =
    let e = exact c.args.prefix c.requires.most in
    let less : c.args.value < 2 ^ c.args.prefix - 1 = subst (λ n. c.args.value < n - 1) e c.if-value-ones.true in
    let f = first c.args.prefix c.requires.some c.requires.most c.args.high c.args.value (omega (arith, c.ranges.high)) c.requires.no_bit (omega (arith, less)) in
    writes c.args.prefix c.args.high c.args.value c.args.out.now.items c.push.new.self.items _ c.in_ok-push.ensures.items (short_text c.args.prefix c.args.high c.args.value less f)
