use Rattle.std.proofs.Common.{arith, refl}
use Rattle.huffman.proofs.CodingLemmas.{coding_none, coding_more, coded_last, coded_whole, coded_padded, coding_adds, coding_adds_more, on_err}
use Rattle.huffman.proofs.encoder.encode_onto.Goals as goal

pub loop-octet-init : goal.loop-octet-init
loop-octet-init c = record { coding = coding_none _ c.args.out.now.items refl refl; room = omega arith; capacity = omega arith }

pub returns-in_err-pending-clause-err : goal.returns-in_err-pending-clause-err
returns-in_err-pending-clause-err c =
    on_err c.from_residual.result _ (coding_adds_more _ c.loop-octet.pending c.args.out.now.items c.loop-octet.out.items c.put_four.new.out.items c.loop-octet.invariant.coding c.in_err-pending.ensures.err)

pub loop-octet-preserved : goal.loop-octet-preserved
loop-octet-preserved c = record {
  coding = coding_more c.args.string.now c.loop-octet.octet-index c.loop-octet.pending c.append.result c.in_ok-pending.pending c.word_of.result c.args.out.now.items c.loop-octet.out.items c.put_four.new.out.items (omega arith)
      (let small = c.type_inv.string c.loop-octet.octet-index in omega (arith, small)) c.loop-octet.invariant.coding c.word_of.ensures c.append.ensures.bits c.in_ok-pending.ensures.ok c.in_ok-pending.ensures.few;
  room = omega (arith, c.loop-octet.invariant.room, c.in_ok-pending.ensures.room, c.append.ensures.width, c.word_of.ensures.wide);
  capacity = omega (arith, c.loop-octet.invariant.capacity, c.in_ok-pending.ensures.capacity);
}

pub returns-in_err-last-clause-err : goal.returns-in_err-last-clause-err
returns-in_err-last-clause-err c =
    on_err c.from_residual-in_err-last.result _
    (coding_adds_more _ c.loop-octet.pending c.args.out.now.items c.loop-octet.out.items c.put_octets.new.out.items c.loop-octet.invariant.coding c.in_err-last.ensures.err)

pub returns-in_err-push-clause-err : goal.returns-in_err-push-clause-err
returns-in_err-push-clause-err c =
    let last = coded_last c.args.string.now c.loop-octet.octet-index c.loop-octet.pending c.in_ok-last.last c.args.out.now.items c.loop-octet.out.items c.put_octets.new.out.items (omega arith) c.loop-octet.invariant.coding
    c.in_ok-last.ensures.ok c.in_ok-last.ensures.few in
    on_err c.from_residual-in_err-push.result _ (rw c.in_err-push.ensures.items (coding_adds c.args.string.now c.in_ok-last.last c.args.out.now.items c.put_octets.new.out.items last))

pub returns-in_ok-push-clause-ok : goal.returns-in_ok-push-clause-ok
returns-in_ok-push-clause-ok c =
    let last = coded_last c.args.string.now c.loop-octet.octet-index c.loop-octet.pending c.in_ok-last.last c.args.out.now.items c.loop-octet.out.items c.put_octets.new.out.items (omega arith) c.loop-octet.invariant.coding
    c.in_ok-last.ensures.ok c.in_ok-last.ensures.few in
    coded_padded c.args.string.now c.in_ok-last.last c.padded.result c.args.out.now.items c.put_octets.new.out.items c.push.new.self.items (omega arith) last c.padded.ensures c.in_ok-push.ensures.items

pub returns-else-last-gt0-clause-ok : goal.returns-else-last-gt0-clause-ok
returns-else-last-gt0-clause-ok c =
    let last = coded_last c.args.string.now c.loop-octet.octet-index c.loop-octet.pending c.in_ok-last.last c.args.out.now.items c.loop-octet.out.items c.put_octets.new.out.items (omega arith) c.loop-octet.invariant.coding
    c.in_ok-last.ensures.ok c.in_ok-last.ensures.few in
    coded_whole c.args.string.now c.in_ok-last.last c.args.out.now.items c.put_octets.new.out.items (omega arith) last
