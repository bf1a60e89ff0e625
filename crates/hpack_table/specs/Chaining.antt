-- Entries of a ring, chained by their hashes.
use Rattle.std.specs.Prelude.{◌≡◌, ℕ, ◌+◌, ◌-◌, ◌%◌, ◌^◌, ◌<◌, ◌≤◌, ◌==◌, nat_lt, if◌then◌else◌, List, map, length, slice_get, set, Option, Some, None}
use Rattle.hpack_table.specs.declared.chains.Link.{Link}

abbrev pub hashes_of : List Link → List ℕ
hashes_of links = map (λ (link : Link). link.hash) links

-- the bucket of a hash
abbrev pub bucket : ℕ → ℕ
bucket hash = hash % 128

-- how many entries were added behind the one with a number; numbers have 32 bits
abbrev pub entries_since : ℕ → Option ℕ → ℕ
entries_since added None = 0
entries_since added (Some number) = (added + (2 ^ 32 - number)) % 2 ^ 32

-- a number in its place, if there is one
abbrev pub with_number : List ℕ → ℕ → ℕ → List ℕ
with_number numbers place number = if nat_lt place (length numbers) then set numbers place number else numbers

-- the place behind an entry on the way to those with a hash
abbrev pub step_from : Link → ℕ → ℕ → ℕ
step_from link hash place = if bucket link.hash == bucket hash then place + 1 + link.gap else place + 1

-- No entry of a bucket is newer than the one that is noted, and none stands in the gap behind another one.
pub record IsChained (newest : List ℕ) (added : ℕ) (links : List Link) : Type 0 where
  pub heads : (place : ℕ) (link : Link) → slice_get links place ≡ Some link → entries_since added (slice_get newest (bucket link.hash)) ≤ place
  pub gaps : (place later : ℕ) (link other : Link) → slice_get links place ≡ Some link → slice_get links later ≡ Some other → place < later
      → bucket other.hash ≡ bucket link.hash → place + 1 + link.gap ≤ later

-- From a place to another one, no entry has the hash.
pub record IsNextOfHash (hashes : List ℕ) (hash from place : ℕ) : Type 0 where
  pub behind : from ≤ place
  pub none : (other : ℕ) → from ≤ other → other < place → slice_get hashes other ≡ Some hash → ⊥
