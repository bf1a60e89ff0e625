use Rattle.hpack_table.proofs.HeldInside.{chains_are_numbers, index_if}
use Rattle.hpack_table.proofs.laws.what_is_held_is_seen.Goals as goal

pub returns-clause-chains : goal.returns-clause-chains
returns-clause-chains c = λ chains. chains_are_numbers chains.newest.items chains.links.items

pub returns-clause-index : goal.returns-clause-index
returns-clause-index c = index_if
