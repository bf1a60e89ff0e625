use Rattle.std.proofs.lemmas.Result.{on_ok_weaker}
use Rattle.header_blocks.specs.Encoding.{is_indexing}
use Rattle.header_blocks.proofs.Wrote.{block_added}
use Rattle.header_blocks.proofs.representations.write_block.Goals as goal

pub returns-clause-ok : goal.returns-clause-ok
returns-clause-ok c =
    on_ok_weaker c.write_fields.result
    (λ p. block_added (is_indexing c.args.rules.policy) c.args.table.now c.write_maximum.new.table c.write_maximum-2.new.table c.write_fields.new.table c.args.due c.args.fields.now c.args.out.now.items c.write_maximum.new.out.items
    c.write_maximum-2.new.out.items c.write_fields.new.out.items c.in_ok-write_maximum.ensures.ok c.in_ok-write_maximum-2.ensures.ok p)
    c.write_fields.ensures.ok
