use Rattle.std.proofs.Common.{◌<◌, ◌^◌, add-one, length, arith}
use Rattle.window_credit.proofs.Behind.{taken_next, summed_next, summed_fits}
use Rattle.window_credit.proofs.older.take_from_all.Goals as goal

pub overflow_add-sum : goal.overflow_add-sum
overflow_add-sum c =
    let within : c.loop-side.side-index < length c.args.sides.now.items = rw c.deref_mut-side-items.ensures.value at c.loop-side-test.true in
    let fits = summed_fits c.args.number c.args.taken c.loop-side.side-index (2 ^ 64) c.args.sides.now.items c.loop-side.side-items c.side-item.result c.loop-side.invariant.left within c.requires in
    let sum = c.loop-side.invariant.sum in
    let more = c.take_behind-sum.ensures.released in
    omega (arith, fits, sum, more)

pub loop-side-preserved : goal.loop-side-preserved
loop-side-preserved c =
    let within : c.loop-side.side-index < length c.args.sides.now.items = rw c.deref_mut-side-items.ensures.value at c.loop-side-test.true in
    let next = summed_next c.args.number c.args.taken c.loop-side.side-index c.args.sides.now.items c.loop-side.side-items c.side-item.result c.loop-side.invariant.left within in
    let sum = c.loop-side.invariant.sum in
    let more = c.take_behind-sum.ensures.released in
    record {
      left = rw add-one (taken_next c.args.number c.args.taken c.loop-side.side-index c.args.sides.now.items c.loop-side.side-items c.side-item.result c.take_behind-sum.new.self c.loop-side.invariant.left within c.take_behind-sum.ensures.kept);
      sum = omega (arith, next, sum, more);
    }
