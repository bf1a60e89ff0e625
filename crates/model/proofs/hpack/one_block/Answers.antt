use Rattle.model.proofs.BlockLaws as blocks
use Rattle.model.proofs.hpack.one_block.Goals as goal

pub returns : goal.returns
returns c = λ table next other octets fields others. blocks.one_block table next other octets fields others
