use Rattle.std.proofs.Common.{◌≡◌, ◌∙◌, Ok, Err, inl, inr, sym, subst, arith}
use Rattle.std.specs.List.{remove}
use Rattle.std.proofs.lemmas.Bool.{cases_lt}
use Rattle.std.proofs.lemmas.List.Sorted.{searched}
use Rattle.upstream_connections.specs.Connections.{others, Rise}
use Rattle.upstream_connections.proofs.Numbers.{none_falls, not_there, struck}
use Rattle.upstream_connections.proofs.by_number.strike.Goals as goal

pub returns-in-Ok : goal.returns-in-Ok
returns-in-Ok c =
    let xs = c.as_slice.result.now in
    let rise : Rise xs = subst Rise (sym c.as_slice.ensures.value) c.requires in
    let found = searched xs c.args.k (Ok c.in-Ok.place) c.in-Ok.ensures.position (none_falls xs rise) in
    c.remove.ensures.items ∙ subst (λ ys. remove ys c.in-Ok.place ≡ others c.args.k ys) c.as_slice.ensures.value (struck c.args.k xs c.in-Ok.place rise found.0 found.1)

pub returns-in_default : goal.returns-in_default
returns-in_default c =
    let xs = c.as_slice.result.now in
    let rise : Rise xs = subst Rise (sym c.as_slice.ensures.value) c.requires in
    let parted = searched xs c.args.k (Err c.in_default.field-0) c.in_default.ensures.position (none_falls xs rise) in
    subst (λ ys. ys ≡ others c.args.k ys) c.as_slice.ensures.value
    (not_there c.args.k xs (λ i within same. elim (cases_lt i c.in_default.field-0) [
      | inl before ↦ (let less = parted.1 i before in omega (arith, less, same))
      | inr from ↦ (let less = parted.2 i from within in omega (arith, less, same))
    ]))
