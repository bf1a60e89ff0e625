use Rattle.std.proofs.Common.{arith}
use Rattle.huffman.proofs.FlushLemmas.{four_fit, four_flushed}
use Rattle.huffman.proofs.encoder.put_four.Goals as goal

pub overflow_cast-first-2 : goal.overflow_cast-first-2
overflow_cast-first-2 c =
    let fits = four_fit c.args.all.number c.args.all.width c.behind-rest.result.width c.requires.number c.behind-rest.ensures.width in
    omega (arith, fits)

pub returns-clause-ok : goal.returns-clause-ok
returns-clause-ok c =
    four_flushed c.args.all c.behind-rest.result c.to_be_bytes.result c.args.out.now.items c.extend_from_slice.new.self.items c.to_be_bytes.ensures c.behind-rest.ensures.bits c.behind-rest.ensures.number
    c.in_ok-extend_from_slice.ensures.items
