use Rattle.std.proofs.Common.{◌≤◌, ◌+◌, ◌-◌, ◌*◌, ◌%◌, ◌^◌, subst}
use Rattle.hpack_int.proofs.Groups.{reads_groups, reads_nothing}
use Rattle.hpack_int.proofs.read.Goals as goal

pub returns-in_default : goal.returns-in_default
returns-in_default c = reads_nothing c.args.prefix c.args.octets.now c.requires.some c.in_default.len_below

pub returns : goal.returns
returns c =
    let ones = 1 * 2 ^ c.args.prefix % 18446744073709551616 - 1 in
    let are_ones = subst (λ o. ones ≤ o % (ones + 1)) c.from.ensures c.if-low_bits-ones.false in
    reads_groups c.args.prefix c.args.octets.now c.read_groups.result c.requires.some c.requires.most c.in-len1-up.len_at_least are_ones c.read_groups.ensures
