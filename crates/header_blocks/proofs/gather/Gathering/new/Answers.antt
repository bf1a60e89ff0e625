use Rattle.header_blocks.proofs.Gathered.{total_none}
use Rattle.header_blocks.proofs.gather.Gathering.new.Goals as goal

pub returns : goal.returns
returns c = (c.new.ensures.items, total_none c.args.cap)
