use Rattle.std.proofs.Common.{sym, ◌∙◌}
use Rattle.field_rules.proofs.FieldOrder.{order_at}
use Rattle.field_rules.proofs.fields.stand_first.Goals as goal

pub returns-then-not-is_pseudo : goal.returns-then-not-is_pseudo
returns-then-not-is_pseudo c =
    order_at c.are_regular.result c.first-item.result c.loop-rest.rest.now c.args.head.now c.in-len1-up.len_at_least c.first-item.is (sym c.is_pseudo.ensures ∙ c.if-not-is_pseudo.true) c.are_regular.ensures c.loop-rest.invariant
