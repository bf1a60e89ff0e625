use Rattle.std.proofs.Common.{refl}
use Rattle.model.specs.Messages.Item.{Block}
use Rattle.streams.proofs.course.Course.with_block.Goals as goal

pub returns : goal.returns
returns c = λ fields out first. c.behind.ensures (Block fields c.args.ends) out refl refl first
