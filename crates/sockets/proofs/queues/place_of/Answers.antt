use Rattle.std.proofs.Common.{rules, ◌≡◌, ℕ, get_or, sym, subst}
use Rattle.std.specs.Prelude.{Option, IfSome, IfNone}
use Rattle.std.proofs.lemmas.List.Sorted.{answers_always}
use Rattle.sockets.specs.declared.upstream.Upstream.{Upstream}
use Rattle.sockets.specs.Performed.{AreRising, IsOpenNowhere}
use Rattle.sockets.proofs.Rising.{searched, not_found}
use Rattle.sockets.proofs.queues.place_of.Goals as goal

pub returns-clause-found : goal.returns-clause-found
returns-clause-found g c =
    let by_number = c.binary_search_by_key.ensures.position (λ u. u.k) (answers_always _ _ _ (λ f a r g called. search rules)) in
    subst (λ (r : Option ℕ). IfSome r (λ place. (other : Upstream g.row.S.Denot) → (get_or c.args.upstreams.now place other).k ≡ c.args.k)) (sym c.ok.ensures.value)
    (searched c.args.upstreams.now c.args.k c.binary_search_by_key.result by_number)

pub returns-clause-absent : goal.returns-clause-absent
returns-clause-absent g c =
    let by_number = c.binary_search_by_key.ensures.position (λ u. u.k) (answers_always _ _ _ (λ f a r g called. search rules)) in
    subst (λ (r : Option ℕ). IfNone r (AreRising c.args.upstreams.now → IsOpenNowhere c.args.k c.args.upstreams.now)) (sym c.ok.ensures.value)
    (not_found c.args.upstreams.now c.args.k c.binary_search_by_key.result by_number)
