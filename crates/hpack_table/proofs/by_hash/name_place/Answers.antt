use Rattle.hpack_table.proofs.ByHash.{is_not_named, name_first, name_next, name_none}
use Rattle.hpack_table.proofs.by_hash.name_place.Goals as goal

pub loop-field-init : goal.loop-field-init
loop-field-init c = name_first c.args.fields.now c.args.name.now c.args.names.now c.args.hash c.first-place.result c.requires.hash c.requires.names c.first-place.ensures

pub returns-then-is_named : goal.returns-then-is_named
returns-then-is_named c =
    record { entry = c.in-Some.field.now; here = c.in-Some.ensures.1; named = c.is_named.ensures.0 c.if-is_named.true; newest = c.loop-field.invariant }

pub loop-field-preserved : goal.loop-field-preserved
loop-field-preserved c =
    let here = c.in-Some.ensures.1 in
    name_next c.args.fields.now c.args.name.now c.args.names.now c.args.hash c.loop-field.place c.after-place.result c.in-Some.field.now c.requires.hash c.requires.names c.loop-field.invariant here
    (is_not_named c.in-Some.field.now c.args.name.now c.is_named.result c.is_named.ensures c.if-is_named.false) c.after-place.ensures

pub returns : goal.returns
returns c = name_none c.args.fields.now c.args.name.now c.loop-field.place c.loop-field.invariant c.in_default.ensures
