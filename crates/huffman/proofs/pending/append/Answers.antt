use Rattle.huffman.proofs.BitLemmas.{joined}
use Rattle.huffman.proofs.pending.append.Goals as goal

pub returns-clause-number : goal.returns-clause-number
returns-clause-number c =
    rw (c.from.ensures, c.from-2.ensures) (joined c.args.pending.number c.args.pending.width c.args.word.number c.args.word.width c.requires.waiting c.requires.few c.requires.word c.requires.wide).0

pub returns-clause-bits : goal.returns-clause-bits
returns-clause-bits c =
    rw (c.from.ensures, c.from-2.ensures) (joined c.args.pending.number c.args.pending.width c.args.word.number c.args.word.width c.requires.waiting c.requires.few c.requires.word c.requires.wide).1
