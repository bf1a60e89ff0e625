use Rattle.header_blocks.specs.Encoding.{is_indexing}
use Rattle.header_blocks.proofs.Wrote.{encoded}
use Rattle.header_blocks.proofs.encoder.Encoder.encode.Goals as goal

pub returns-clause-encoded : goal.returns-clause-encoded
returns-clause-encoded c = rw (← c.self.view_is, c.if-self.false)
    (encoded c.self.inside.table c.self.inside.limits (is_indexing c.self.inside.policy) c.self.inside.maximum c.due_maxima-due.result c.write_block.new.table c.args.fields.now c.args.out.now.items c.write_block.new.out.items
    c.due_maxima-due.ensures (c.self.invariant.is_maximum c.if-self.false) c.in_default.ensures.ok)
