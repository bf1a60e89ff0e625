use Rattle.std.proofs.Common.{length}
use Rattle.huffman.proofs.DecodeLemmas.{ReadingOn}
use Rattle.huffman.proofs.decoder.decode_onto.Given as goal

abbrev pub invariant-loop-all : goal.invariant-loop-all
invariant-loop-all l = ReadingOn l.octets l.left l.coming l.fn.out.items l.out.items

abbrev pub decreases-loop-all : goal.decreases-loop-all
decreases-loop-all l = length l.left
