use Rattle.std.proofs.Common.{ap, arith}
use Rattle.model.specs.Tables.{total_size}
use Rattle.hpack_table.proofs.Kept.{total_none, total_last}
use Rattle.http1_tests.proofs.replies_tests.fields_of.Goals as goal

pub loop-line-init : goal.loop-line-init
loop-line-init c = rw (c.new-fields.ensures.items, total_none) omega arith

pub loop-line-preserved : goal.loop-line-preserved
loop-line-preserved c =
    let more = total_last c.loop-line.fields.items c.in_ok-field.field in
    let all = ap total_size c.in_ok-push.ensures.items in
    let rest = c.in-Some-room_behind.ensures in
    omega (arith, more, all, rest.0, rest.1, c.loop-line.invariant)
