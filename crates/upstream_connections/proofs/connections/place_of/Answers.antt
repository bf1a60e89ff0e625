use Rattle.std.proofs.Common.{rules}
use Rattle.std.proofs.lemmas.List.Sorted.{answers_always}
use Rattle.upstream_connections.proofs.Openings.{searched}
use Rattle.upstream_connections.proofs.connections.place_of.Goals as goal

-- the closure gives a connection's number
pub returns : goal.returns
returns c =
    let facts = c.binary_search_by_key.ensures in
    let by_number = facts.position (λ connection. connection.live.k) (answers_always _ _ _ (λ f a r g called. search rules)) in
    rw c.ok.ensures.value (searched c.args.connections.now c.requires c.args.k c.binary_search_by_key.result facts.bound by_number)
