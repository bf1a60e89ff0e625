use Rattle.std.proofs.Common.{arith, subst}
use Rattle.std.proofs.lemmas.List.{take_all}
use Rattle.huffman.proofs.CodingLemmas.{Counting, counting_more, counted}
use Rattle.huffman.proofs.encoder.encoded_len.Goals as goal

pub loop-octet-preserved : goal.loop-octet-preserved
loop-octet-preserved c = record {
  small = omega (arith, c.loop-octet.invariant.small, c.word_of.ensures.wide);
  counting = counting_more c.args.string.now c.loop-octet.octet-index c.loop-octet.bits c.word_of.result (omega arith) c.loop-octet.invariant.counting c.word_of.ensures;
}

pub returns : goal.returns
returns c =
    counted c.args.string.now c.loop-octet.bits
    (subst (λ s. Counting s c.loop-octet.bits) (take_all c.loop-octet.octet-index c.args.string.now (omega arith)) c.loop-octet.invariant.counting)
