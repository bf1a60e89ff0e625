use Rattle.std.proofs.Common.{arith, ◌-◌, ◌≤◌, subst, sym}
use Rattle.hpack_int.proofs.Written.{ones_first, long_writes, no_room, exact}
use Rattle.hpack_int.proofs.write_groups.Goals as goal

pub overflow_add-text : goal.overflow_add-text
overflow_add-text c =
    let e = exact c.args.prefix c.requires.most in
    let f = ones_first c.args.prefix c.requires.some c.requires.most c.args.high (omega (arith, c.ranges.high)) c.requires.no_bit in
    rw e (omega (arith, f.octet))

pub returns-clause-ok : goal.returns-clause-ok
returns-clause-ok c =
    let large = subst (λ n. n - 1 ≤ c.args.value) (sym (exact c.args.prefix c.requires.most)) c.requires.large in
    long_writes c.args.prefix c.args.high c.args.value c.groups_of-count.result.1 c.groups_of-count.result.0 c.copy_from_slice.new.self c.args.out.now.items c.extend_from_slice.new.self.items
    c.extend_from_slice.result c.requires.some c.requires.most (omega (arith, c.ranges.high)) c.requires.no_bit (omega (arith, c.ranges.value)) large c.groups_of-count.ensures
    c.copy_from_slice.ensures.after c.extend_from_slice.ensures.items

pub returns-clause-full : goal.returns-clause-full
returns-clause-full c =
    let large = subst (λ n. n - 1 ≤ c.args.value) (sym (exact c.args.prefix c.requires.most)) c.requires.large in
    no_room c.args.prefix c.args.high c.args.value c.groups_of-count.result.1 _ _ c.groups_of-count.result.0 c.copy_from_slice.new.self
    c.extend_from_slice.result c.requires.some c.requires.most (omega (arith, c.ranges.high)) c.requires.no_bit (omega (arith, c.ranges.value)) large c.groups_of-count.ensures
    c.copy_from_slice.ensures.after c.extend_from_slice.ensures.full
