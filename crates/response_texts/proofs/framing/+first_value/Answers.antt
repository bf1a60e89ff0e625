use Rattle.std.proofs.Common.{◌∙◌, sym, ap, List, ℕ, ◌∷◌}
use Rattle.response_texts.proofs.FieldLists.{first_there}
use Rattle.response_texts.proofs.framing.+first_value.Goals as goal

pub returns-then-is_named : goal.returns-then-is_named
returns-then-is_named t c =
    let there = first_there c.args.name.now c.args.fields.now c.field-item.result c.in-len1-up.len_at_least c.field-item.is (sym c.is_named.ensures ∙ c.if-is_named.true) in
    (there.0, there.1 ∙ ap (λ (value : List ℕ). value ∷ there.0) (sym c.value.ensures))
