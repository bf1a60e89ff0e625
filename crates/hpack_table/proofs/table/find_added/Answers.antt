use Rattle.std.proofs.Common.{◌≡◌, ◌+◌, arith, sym, ◌∙◌}
use Rattle.hpack_table.specs.Searching.{table_of}
use Rattle.hpack_table.proofs.Searched.{added_end, added_here, ends, goes_on, stops}
use Rattle.hpack_table.proofs.table.find_added.Goals as goal

pub returns-then-is_both : goal.returns-then-is_both
returns-then-is_both c =
    let here = added_here c.args.fields.now c.loop-field.place c.in-Some.field.now c.name.result.now c.value.result.now c.in-Some.ensures.1 c.name.ensures c.value.ensures in
    stops (table_of c.args.fields.now) c.args.name.now c.args.value.now (62 + c.loop-field.place + 1) c.met-found.result (c.met-found.ensures (table_of c.args.fields.now) here c.loop-field.invariant) (sym c.is_both.ensures ∙ c.if-is_both.true)

pub loop-field-preserved : goal.loop-field-preserved
loop-field-preserved c =
    let here = added_here c.args.fields.now c.loop-field.place c.in-Some.field.now c.name.result.now c.value.result.now c.in-Some.ensures.1 c.name.ensures c.value.ensures in
    let at : 62 + c.loop-field.place + 1 ≡ 62 + (c.loop-field.place + 1) = omega arith in
    rw (← at) (goes_on (table_of c.args.fields.now) c.args.name.now c.args.value.now (62 + c.loop-field.place + 1) c.met-found.result (c.met-found.ensures (table_of c.args.fields.now) here c.loop-field.invariant)
    (sym c.is_both.ensures ∙ c.if-is_both.false))

pub returns : goal.returns
returns c = ends (table_of c.args.fields.now) c.args.name.now c.args.value.now (62 + c.loop-field.place) c.loop-field.found c.loop-field.invariant (added_end c.args.fields.now c.loop-field.place c.in_default.ensures)
