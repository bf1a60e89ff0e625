use Rattle.model.proofs.HuffmanLemmas as huffman
use Rattle.model.proofs.hpack.one_string.Goals as goal

pub returns : goal.returns
returns c = huffman.one_string
