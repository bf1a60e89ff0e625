use Rattle.std.proofs.Common.{arith}
use Rattle.huffman.proofs.BitLemmas.{filled}
use Rattle.huffman.proofs.encoder.padded.Goals as goal

pub overflow_cast-result-3 : goal.overflow_cast-result-3
overflow_cast-result-3 c = let f = filled c.args.pending.number c.args.pending.width c.requires.waiting.number c.requires.waiting.few in omega (arith, f.0)

pub returns : goal.returns
returns c = record { is = (filled c.args.pending.number c.args.pending.width c.requires.waiting.number c.requires.waiting.few).1 }
