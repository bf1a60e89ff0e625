use Rattle.std.proofs.Common.{sym, ◌∙◌, ap, Vec, Global, take, arith}
use Rattle.model.specs.Messages.{Field}
use Rattle.model.specs.ResponseHeads.{named_by_connection}
use Rattle.response_texts.specs.HeadSizes.{field_octets}
use Rattle.response_texts.proofs.FieldLists.{taken_more, named_more, named_none}
use Rattle.response_texts.proofs.Trailing.{octets_more, octets_less}
use Rattle.response_texts.proofs.fields.connections.Goals as goal
use Rattle.response_texts.proofs.fields.connections.Goals.{then-is_named+in_ok-copy+in_ok-push, else-is_named}

pub loop-field-preserved : goal.loop-field-preserved
loop-field-preserved c =
    let more = taken_more c.args.fields.now c.loop-field.field-index c.field-item.result c.loop-field-test.true c.field-item.is in
    let after = ap field_octets more in
    elim c.if-is_named.branch [
      | then-is_named+in_ok-copy+in_ok-push w ↦
          (let found = ap (λ (v : Vec Field Global). v.items) w.found-is ∙ w.in_ok-push.ensures.items in
          let now = ap field_octets found in
          let few = octets_more c.loop-field.found.items (take c.loop-field.field-index c.args.fields.now) _ c.field-item.result w.in_ok-copy.ensures c.loop-field.invariant.1 in (
            ap named_by_connection found
                ∙ named_more c.loop-field.found.items (take c.loop-field.field-index c.args.fields.now) _ c.field-item.result w.in_ok-copy.ensures c.loop-field.invariant.0 ∙ ap named_by_connection (sym more),
            omega (arith, now, few, after),
          ))
      | else-is_named w ↦
          (let found = ap (λ (v : Vec Field Global). v.items) w.found-is in
          let now = ap field_octets found in
          let few = octets_less c.loop-field.found.items (take c.loop-field.field-index c.args.fields.now) c.field-item.result c.loop-field.invariant.1 in (
            ap named_by_connection found
                ∙ named_none c.loop-field.found.items (take c.loop-field.field-index c.args.fields.now) c.field-item.result (sym c.is_named.ensures ∙ w.if-is_named.false) c.loop-field.invariant.0 ∙ ap named_by_connection (sym more),
            omega (arith, now, few, after),
          ))
    ]
