use Rattle.std.proofs.Common.{rules, ◌≡◌, ℕ, subst, sym}
use Rattle.std.specs.Prelude.{Option, None, IfSome, IfNone}
use Rattle.std.proofs.lemmas.List.Sorted.{answers_always}
use Rattle.window_credit.specs.Sides.{find}
use Rattle.window_credit.specs.Places.{IsAt}
use Rattle.window_credit.proofs.Finding.{searched}
use Rattle.window_credit.proofs.places.place_of.Goals as goal

pub returns-clause-found : goal.returns-clause-found
returns-clause-found c =
    let facts = c.binary_search_by_key.ensures in
    let by_id = facts.position (λ side. side.id) (answers_always _ _ _ (λ f a r g called. search rules)) in
    subst (λ (r : Option ℕ). IfSome r (IsAt c.args.sides.now c.args.id)) (sym c.ok.ensures.value) (searched c.args.sides.now c.requires c.args.id c.binary_search_by_key.result facts.bound by_id).found

pub returns-clause-absent : goal.returns-clause-absent
returns-clause-absent c =
    let facts = c.binary_search_by_key.ensures in
    let by_id = facts.position (λ side. side.id) (answers_always _ _ _ (λ f a r g called. search rules)) in
    subst (λ (r : Option ℕ). IfNone r (find c.args.id c.args.sides.now ≡ None)) (sym c.ok.ensures.value) (searched c.args.sides.now c.requires c.args.id c.binary_search_by_key.result facts.bound by_id).absent
