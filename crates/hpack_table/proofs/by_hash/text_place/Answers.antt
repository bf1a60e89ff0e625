use Rattle.std.proofs.Common.{Some, ap, ◌∙◌}
use Rattle.hpack_table.proofs.ByHash.{is_no_field, text_first, text_next, text_none}
use Rattle.hpack_table.proofs.by_hash.text_place.Goals as goal

pub loop-field-init : goal.loop-field-init
loop-field-init c = text_first c.args.fields.now c.args.name.now c.args.value.now c.args.texts.now c.args.hash c.first-place.result c.requires.hash c.requires.texts c.first-place.ensures

pub returns-then-is_field : goal.returns-then-is_field
returns-then-is_field c =
    let here = c.in-Some.ensures.1 in
    record { here = here ∙ ap (λ f. Some f) (c.is_field.ensures.0 c.if-is_field.true); newest = c.loop-field.invariant }

pub loop-field-preserved : goal.loop-field-preserved
loop-field-preserved c =
    let here = c.in-Some.ensures.1 in
    text_next c.args.fields.now c.args.name.now c.args.value.now c.args.texts.now c.args.hash c.loop-field.place c.after-place.result c.requires.hash c.requires.texts c.loop-field.invariant
    (is_no_field c.args.fields.now c.args.name.now c.args.value.now c.loop-field.place c.in-Some.field.now c.is_field.result here c.is_field.ensures c.if-is_field.false) c.after-place.ensures

pub returns : goal.returns
returns c = text_none c.args.fields.now c.args.name.now c.args.value.now c.loop-field.place c.loop-field.invariant c.in_default.ensures
