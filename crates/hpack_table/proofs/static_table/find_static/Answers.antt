use Rattle.std.proofs.Common.{arith}
use Rattle.hpack_table.proofs.Walked.{start_within, static_within, walk_ends, walk_finds_none}
use Rattle.hpack_table.proofs.static_table.find_static.Goals as goal

pub overflow_cast-result : goal.overflow_cast-result
overflow_cast-result c = let within = static_within c.loop-entry_value.place _ c.in-Some.ensures in omega (arith, within)

pub overflow_add-result : goal.overflow_add-result
overflow_add-result c = let within = static_within c.loop-entry_value.place _ c.in-Some.ensures in omega (arith, within)

pub overflow_add-place : goal.overflow_add-place
overflow_add-place c = let within = static_within c.loop-entry_value.place _ c.in-Some.ensures in omega (arith, within)

pub loop-entry_value-smaller : goal.loop-entry_value-smaller
loop-entry_value-smaller c = let within = static_within c.loop-entry_value.place _ c.in-Some.ensures in omega (arith, within)

pub returns-then-place-start : goal.returns-then-place-start
returns-then-place-start c = walk_finds_none c.args.name.now c.start_of-start.result c.start_of-start.ensures (rw (← c.if-place-start.true) c.in_default.ensures)

pub overflow_cast-result-2 : goal.overflow_cast-result-2
overflow_cast-result-2 c = let within = start_within c.args.name.now c.args.value.now c.start_of-start.result c.loop-entry_value.place c.loop-entry_value.invariant c.if-place-start.false in omega (arith, within)

pub overflow_add-result-2 : goal.overflow_add-result-2
overflow_add-result-2 c = let within = start_within c.args.name.now c.args.value.now c.start_of-start.result c.loop-entry_value.place c.loop-entry_value.invariant c.if-place-start.false in omega (arith, within)

pub returns : goal.returns
returns c = walk_ends c.args.name.now c.args.value.now c.start_of-start.result c.loop-entry_value.place c.start_of-start.ensures c.loop-entry_value.invariant c.in_default.ensures c.if-place-start.false
