use Rattle.std.proofs.Common.{◌∙◌}
use Rattle.header_blocks.specs.Encoding.{is_indexing}
use Rattle.header_blocks.proofs.Wrote.{fields_and, front_then}
use Rattle.header_blocks.proofs.representations.write_fields.Goals as goal

pub loop-field-preserved : goal.loop-field-preserved
loop-field-preserved c =
    let i = c.loop-field.invariant in
    let e = c.in_ok-write_field.ensures in
    record {
      adds = fields_and (is_indexing c.args.rules.policy) c.args.table.now c.loop-field.table c.write_field.new.table c.args.fields.now c.loop-field.field-index c.field-item.result c.args.out.now.items c.loop-field.out.items c.write_field.new.out.items
          c.loop-field-test.true c.field-item.is i.adds e.ok;
      front = front_then c.args.out.now.items c.loop-field.out.items c.write_field.new.out.items i.front e.front;
      maximum = e.maximum ∙ i.maximum;
      plain = e.plain;
      bounded = λ b. e.bounded (i.bounded b);
    }
