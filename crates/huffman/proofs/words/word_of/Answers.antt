use Rattle.std.proofs.Common.{rules}
use Rattle.huffman.proofs.WordLemmas.{word_at}
use Rattle.huffman.proofs.words.word_of.Goals as goal

pub returns : goal.returns
returns c = search (rules, word_at)
