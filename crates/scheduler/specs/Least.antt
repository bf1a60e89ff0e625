-- The least of the ids above one.
use Rattle.std.specs.Prelude.{◌≡◌, ℕ, ◌<◌, ◌≤◌, List, Option, Some, None, slice_index}

-- The id stands among the first so many, and is the least of them that are above the last.
pub record IsLeastOf (last : ℕ) (ready : List ℕ) (count id : ℕ) : Type 0 where
  pub place : ℕ
  pub within : place < count
  pub is : slice_index ready place ≡ id
  pub above : last < id
  pub least : (k : ℕ) → k < count → last < slice_index ready k → id ≤ slice_index ready k

-- The least id of the first so many that is above the last, or that none of them is above it.
abbrev pub IsLeastAbove : ℕ → List ℕ → ℕ → Option ℕ → Type 0
IsLeastAbove last ready count (Some id) = IsLeastOf last ready count id
IsLeastAbove last ready count None = (k : ℕ) → k < count → slice_index ready k ≤ last
