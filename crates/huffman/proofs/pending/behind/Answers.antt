use Rattle.std.proofs.Common.{refl}
use Rattle.huffman.proofs.BitLemmas.{behind_is}
use Rattle.huffman.proofs.pending.behind.Goals as goal

pub returns-clause-bits : goal.returns-clause-bits
returns-clause-bits c = (behind_is c.args.pending.number c.args.pending.width c.args.width _ _ c.requires.few c.requires.within refl refl).1
