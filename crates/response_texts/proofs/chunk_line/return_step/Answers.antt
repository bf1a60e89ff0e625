use Rattle.response_texts.proofs.ChunkLineLemmas.{breaks_return, feed_goes}
use Rattle.response_texts.proofs.chunk_line.return_step.Goals as goal

pub returns-then-octet-ne10 : goal.returns-then-octet-ne10
returns-then-octet-ne10 c = λ text b. breaks_return c.args.size c.args.octet text c.if-octet-ne10.true b

pub returns : goal.returns
returns c = record { range = tt; goes = λ text b. feed_goes c.args.size c.args.octet text c.if-octet-ne10.false b }
