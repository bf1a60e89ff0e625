use Rattle.std.proofs.Common.{◌≡◌, ℕ, List, ◌∙◌, subst}
use Rattle.std.specs.List.{insert}
use Rattle.upstream_connections.specs.Connections.{among}
use Rattle.upstream_connections.proofs.Numbers.{inserted}
use Rattle.upstream_connections.proofs.by_route.enter.Goals as goal

pub returns : goal.returns
returns c =
    let facts = c.place_for-place.ensures in
    c.insert.ensures.items
    ∙ subst (λ (xs : List ℕ). insert xs c.place_for-place.result c.args.key ≡ among c.args.key xs) c.as_slice.ensures.value
    (inserted c.args.key c.as_slice.result.now c.place_for-place.result facts.within facts.before facts.behind)
