-- No octets lie in an index.
use Rattle.std.proofs.Common.{◌≡◌, ◌+◌, ℕ, List, [], ◌∷◌, Option, Some, None, refl, arith}
use Rattle.std.specs.Prelude.{sum_by}
use Rattle.std.proofs.lemmas.List.Sums.{sum_by-cons}
use Rattle.hpack_table.specs.HeldInside.{in_number, in_link, in_index, in_index_if}
use Rattle.hpack_table.specs.declared.chains.Link.{Link}
use Rattle.hpack_table.specs.declared.index.Index.{Index}

numbers : (ns : List ℕ) → sum_by in_number ns ≡ 0
numbers [] = refl
numbers (n ∷ ns) = omega (arith, sum_by-cons in_number n ns, numbers ns)

entries : (links : List Link) → sum_by in_link links ≡ 0
entries [] = refl
entries (link ∷ links) = omega (arith, sum_by-cons in_link link links, entries links)

pub chains_are_numbers : (newest : List ℕ) (links : List Link) → sum_by in_number newest + sum_by in_link links + 0 ≡ 0
chains_are_numbers newest links = omega (arith, numbers newest, entries links)

index_is : (index : Index) → in_index index ≡ 0
index_is index = omega (arith, numbers index.names, numbers index.texts)

pub index_if : (index : Option Index) → in_index_if index ≡ 0
index_if None = refl
index_if (Some index) = index_is index
