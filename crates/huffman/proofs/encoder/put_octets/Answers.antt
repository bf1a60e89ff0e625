use Rattle.std.proofs.Common.{arith, refl}
use Rattle.huffman.proofs.FlushLemmas.{one_octet, octet_fits}
use Rattle.huffman.proofs.encoder.put_octets.Goals as goal

pub overflow_cast-rest-in-loop-rest : goal.overflow_cast-rest-in-loop-rest
overflow_cast-rest-in-loop-rest c =
    let fits = octet_fits c.loop-rest.rest.number c.loop-rest.rest.width c.loop-rest-test.true c.loop-rest.invariant.flushing.below in
    omega (arith, fits)

pub loop-rest-preserved : goal.loop-rest-preserved
loop-rest-preserved c =
    record {
      flushing = one_octet c.args.all c.loop-rest.rest c.behind-rest.result _ c.args.out.now.items c.loop-rest.out.items c.push.new.self.items c.loop-rest-test.true c.loop-rest.invariant.flushing refl
          c.behind-rest.ensures.width c.behind-rest.ensures.bits c.behind-rest.ensures.number c.in_ok-push.ensures.items;
      room = omega (arith, c.loop-rest.invariant.room, c.behind-rest.ensures.width, c.in_ok-push.ensures.len);
      capacity = omega (arith, c.loop-rest.invariant.capacity, c.in_ok-push.ensures.capacity);
    }
