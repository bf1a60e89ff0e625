-- How many octets lie in this crate's types. Each count takes the struct apart by the names of all its fields, and counts each by its type: what lies in
-- one field more has to be counted here.
use Rattle.std.specs.Prelude.{ℕ, ◌+◌, List, Option, Some, None, sum_by}
use Rattle.hpack_table.specs.declared.chains.Link.{Link}
use Rattle.hpack_table.specs.declared.chains.Chains.TheInside.{Inside as ChainsInside}
use Rattle.hpack_table.specs.declared.index.Index.{Index}

-- none in a number
abbrev pub in_number : ℕ → ℕ
in_number number = 0

-- in an entry of a chain
abbrev pub in_link : Link → ℕ
in_link = λ record { hash = hash; gap = gap }. in_number hash + in_number gap

-- in chains: the number of each bucket's newest entry, and all entries
abbrev pub in_chains : ChainsInside → ℕ
in_chains = λ record { newest = newest; links = links; added = added }. sum_by in_number newest.items + sum_by in_link links.items + in_number added

-- in what is seen of chains, which are hashes
abbrev pub in_hashes : List ℕ → ℕ
in_hashes hashes = sum_by in_number hashes

-- in the index of a table, and in that of one that has it or hasn't
abbrev pub in_index : Index → ℕ
in_index = λ record { names = names; texts = texts }. in_hashes names + in_hashes texts

abbrev pub in_index_if : Option Index → ℕ
in_index_if None = 0
in_index_if (Some index) = in_index index
