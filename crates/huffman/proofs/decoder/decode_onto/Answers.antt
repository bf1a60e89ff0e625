use Rattle.std.proofs.Common.{refl}
use Rattle.std.proofs.lemmas.Result.{err_from_is_err_and}
use Rattle.huffman.proofs.DecodeLemmas.{all_read, badly_padded, reading_begins, reading_goes_on, reading_stops}
use Rattle.huffman.proofs.decoder.decode_onto.Goals as goal

pub loop-all-init : goal.loop-all-init
loop-all-init c = reading_begins c.args.octets.now _ c.args.out.now.items refl refl

pub loop-all-preserved : goal.loop-all-preserved
loop-all-preserved c =
    reading_goes_on c.args.octets.now c.loop-all.left.now c.in-Some.more.now c.args.out.now.items c.loop-all.out.items c.take_codes.new.out.items c.loop-all.coming c.in-Some.all c.in_ok-coming.coming
    c.loop-all.invariant c.in-Some.ensures.some c.in_ok-coming.ensures.ok.0 c.in_ok-coming.ensures.ok.1

pub returns-in_err-coming-clause-fault : goal.returns-in_err-coming-clause-fault
returns-in_err-coming-clause-fault c =
    let p = err_from_is_err_and c.from_residual.result c.from_residual.ensures.1 in
    rw (p.1, p.2)
    (reading_stops c.args.octets.now c.loop-all.left.now c.in-Some.more.now c.args.out.now.items c.loop-all.out.items c.take_codes.new.out.items c.loop-all.coming c.in-Some.all c.in_err-coming.field-0.0
    c.loop-all.invariant c.in-Some.ensures.some c.in_err-coming.ensures.stops)

pub returns-else-is_padding-clause-fault : goal.returns-else-is_padding-clause-fault
returns-else-is_padding-clause-fault c =
    let read = all_read c.args.octets.now c.loop-all.left.now c.loop-all.coming c.args.out.now.items c.loop-all.out.items c.loop-all.invariant c.in_default.ensures.none in
    badly_padded c.args.octets.now c.loop-all.coming c.args.out.now.items c.loop-all.out.items read c.loop-all.invariant.unended c.if-is_padding.ensures.no
