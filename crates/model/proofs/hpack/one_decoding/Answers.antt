use Rattle.model.proofs.DecodingLaws as laws
use Rattle.model.proofs.hpack.one_decoding.Goals as goal

pub returns : goal.returns
returns c = laws.one_decoding
