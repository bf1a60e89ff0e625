use Rattle.huffman.specs.Taking.{Takes}
use Rattle.huffman.proofs.decoder.take_codes.Given as goal

abbrev pub invariant-loop-code : goal.invariant-loop-code
invariant-loop-code l = Takes l.fn.all l.rest l.fn.out.items l.out.items

abbrev pub decreases-loop-code : goal.decreases-loop-code
decreases-loop-code l = l.rest.width
