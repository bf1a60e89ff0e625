use Rattle.std.proofs.Common.{rules}
use Rattle.std.proofs.lemmas.List.Sorted.{answers_always}
use Rattle.streams.proofs.Searches.{searched}
use Rattle.streams.proofs.entries.place_of.Goals as goal

-- the closure gives an entry's id
pub returns : goal.returns
returns c =
    let facts = c.binary_search_by_key.ensures in
    let by_id = facts.position (λ e. e.id) (answers_always _ _ _ (λ f a r g called. search rules)) in
    searched c.args.entries.now c.requires c.args.id c.binary_search_by_key.result facts.bound by_id
