use Rattle.std.proofs.Common.{ℕ, List, ◌+◌, length, subst, sym, refl}
use Rattle.std.proofs.lemmas.Option.{slice_get_read}
use Rattle.hpack_table.specs.Chaining.{IsNextOfHash, hashes_of}
use Rattle.hpack_table.proofs.Chained.{step_is, within_hashes}
use Rattle.hpack_table.proofs.chains.Chains.after.Goals as goal

pub returns : goal.returns
returns c =
    let newest : List ℕ = c.self.inside.newest.items in
    let added : ℕ = c.self.inside.added in
    let links = c.self.inside.links.items in
    let within = within_hashes links c.args.self.now c.args.place c.self.view_is c.requires in
    let here = slice_get_read links (length links) c.args.place c.index.result.now refl within c.index.ensures in
    rw (← c.self.view_is)
    (c.next_of.ensures newest added (c.args.place + 1) c.self.invariant
    (subst (λ p. IsNextOfHash (hashes_of links) c.args.hash (c.args.place + 1) p) (sym c.step.ensures) (step_is newest added links c.args.hash c.args.place c.index.result.now c.self.invariant here)))
