use Rattle.std.proofs.Common.{ℕ, List, slice_get, subst, sym, ◌∙◌, ap}
use Rattle.hpack_table.specs.Chaining.{IsNextOfHash, entries_since, hashes_of}
use Rattle.hpack_table.proofs.Chained.{first_is}
use Rattle.hpack_table.proofs.chains.Chains.first.Goals as goal

pub returns : goal.returns
returns c =
    let newest : List ℕ = c.self.inside.newest.items in
    let added : ℕ = c.self.inside.added in
    let links = c.self.inside.links.items in
    let place = c.since-place.ensures ∙ ap (λ ns. entries_since added (slice_get ns c.bucket_of.result)) c.deref.ensures.value ∙ ap (λ b. entries_since added (slice_get newest b)) c.bucket_of.ensures in
    rw (← c.self.view_is)
    (c.next_of.ensures newest added 0 c.self.invariant (subst (λ p. IsNextOfHash (hashes_of links) c.args.hash 0 p) (sym place) (first_is newest added links c.args.hash c.self.invariant)))
