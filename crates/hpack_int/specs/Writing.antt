-- What `write` adds.
use Rattle.std.specs.Prelude.{◌≡◌, ℕ, ◌-◌, ◌/◌, ◌^◌, ◌≤◌, ◌⊎◌, List, ◌++◌, length, take}
use Rattle.model.specs.Integers.{AreGroups, groups_value, IsInt, IsMarkedInt}

-- A text of the value, with this mark in the bits above the prefix, than which none is shorter.
pub record IsShortestInt (prefix mark : ℕ) (octets : List ℕ) (value : ℕ) : Type 0 where
  pub marked : IsMarkedInt prefix mark octets value
  pub shortest : (other : List ℕ) → IsInt prefix other value → length octets ≤ length other

-- The shortest text of the value, with the bits of `high` above the prefix, is added at the end.
pub record Writes (prefix high value : ℕ) (old new : List ℕ) : Type 0 where
  pub text : List ℕ
  pub added : new ≡ old ++ text
  pub shortest : IsShortestInt prefix (high / 2 ^ prefix) text value

-- The first groups, so many, say the value, and fewer can't.
pub record AreGroupsOf (value : ℕ) (groups : List ℕ) (count : ℕ) : Type 0 where
  pub some : 1 ≤ count
  pub few : count ≤ 5
  pub within : count ≤ length groups
  pub are_groups : AreGroups (take count groups)
  pub sum : groups_value (take count groups) ≡ value
  pub fewest : (count ≡ 1) ⊎ (128 ^ (count - 1) ≤ value)
