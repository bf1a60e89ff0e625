use Rattle.std.proofs.Common.{◌∷◌, refl}
use Rattle.hpack_table.proofs.Kept.{oldest_fits, evicted, rest_size}
use Rattle.hpack_table.proofs.table.insert.Goals as goal

pub unreachable-requires : goal.unreachable-requires
unreachable-requires c =
    oldest_fits (c.args.field ∷ c.args.fields.now) c.turn-oldest.new.self c.turn-oldest.result c.args.size c.turn-oldest.ensures c.requires c.in-None.ensures

pub returns-clause-kept : goal.returns-clause-kept
returns-clause-kept c =
    let all = c.args.field ∷ c.args.fields.now in
    evicted all c.turn-oldest.new.self all c.turn-oldest.result c.args.size c.args.maximum c.turn-oldest.ensures c.requires c.if-size-maximum.false refl

pub returns-clause-size : goal.returns-clause-size
returns-clause-size c =
    rest_size (c.args.field ∷ c.args.fields.now) c.turn-oldest.new.self c.turn-oldest.result c.args.size c.in-Some.rest c.turn-oldest.ensures c.requires c.in-Some.ensures.1
