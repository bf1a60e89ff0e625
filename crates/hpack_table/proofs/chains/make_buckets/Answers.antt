use Rattle.std.proofs.Common.{arith, sym, ◌∙◌, eqb-true}
use Rattle.hpack_table.proofs.Chained.{made}
use Rattle.hpack_table.proofs.chains.make_buckets.Goals as goal

pub returns : goal.returns
returns c = λ links chained.
    let none = eqb-true c.args.newest.now.len 0 (sym c.is_empty.ensures ∙ c.if-not-is_empty.false) in
    let empty = sym c.args.newest.now.ok.0 ∙ none in
    made c.resize.result c.args.newest.now.items c.resize.new.self.items 128 c.args.newest.now.len c.args.added links c.resize.ensures.items empty (omega (arith, c.ranges.added)) chained
