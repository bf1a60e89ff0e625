use Rattle.header_blocks.proofs.Wrote.{raw_added}
use Rattle.header_blocks.proofs.representations.write_raw.Goals as goal

pub returns-clause-ok : goal.returns-clause-ok
returns-clause-ok c = raw_added c.extend_from_slice.result c.args.string.now c.args.out.now.items c.write.new.out.items c.extend_from_slice.new.self.items c.in_ok-write.ensures.ok c.extend_from_slice.ensures.items
