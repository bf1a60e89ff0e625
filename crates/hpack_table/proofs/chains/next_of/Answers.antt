use Rattle.std.proofs.Common.{◌+◌, subst, sym}
use Rattle.hpack_table.specs.Chaining.{IsNextOfHash, hashes_of}
use Rattle.hpack_table.proofs.Looked.{some_at}
use Rattle.hpack_table.proofs.Chained.{next_then, other_hash, step_is}
use Rattle.hpack_table.proofs.chains.next_of.Goals as goal

pub loop-link-preserved : goal.loop-link-preserved
loop-link-preserved c = λ newest added from chained before.
    let item = c.in-Some.ensures.item.3 in
    let here = some_at c.args.links.now.items c.loop-link.place c.in-Some.link.now item.0 item.1 in
    next_then (hashes_of c.args.links.now.items) c.args.hash from c.loop-link.place c.step-place.result (c.loop-link.invariant newest added from chained before)
    (other_hash c.args.links.now.items c.args.hash c.loop-link.place c.in-Some.link.now here c.if-link-hash.false)
    (subst (λ p. IsNextOfHash (hashes_of c.args.links.now.items) c.args.hash (c.loop-link.place + 1) p) (sym c.step-place.ensures)
    (step_is newest added c.args.links.now.items c.args.hash c.loop-link.place c.in-Some.link.now chained here))
