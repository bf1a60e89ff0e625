use Rattle.huffman.proofs.DecodeLemmas.{joins_four, joins_one}
use Rattle.huffman.proofs.decoder.with_next.Goals as goal

pub returns-in-len1-up-clause-some : goal.returns-in-len1-up-clause-some
returns-in-len1-up-clause-some c = joins_one c.args.coming c.and_octet.result c.args.octets.now c.in-len1-up.len_at_least c.and_octet.ensures.aligned c.and_octet.ensures.bits

pub returns-in-len4-up-clause-some : goal.returns-in-len4-up-clause-some
returns-in-len4-up-clause-some c = joins_four c.args.coming c.and_four-all.result c.args.octets.now c.in-len4-up.len_at_least c.and_four-all.ensures.aligned c.and_four-all.ensures.bits
