-- What an answer of `read` says of the octets.
use Rattle.std.specs.Prelude.{◌≡◌, ℕ, ◌+◌, ◌-◌, ◌≤◌, ◌<◌, ◌⊎◌, List, [], ◌∷◌, ◌++◌, length, take}
use Rattle.model.specs.Integers.{greatest, AreGroups, groups_value, IsInt, BeginsNoInt}
use Rattle.hpack_int.specs.declared.IntRead.{IntRead}
use Rattle.hpack_int.specs.declared.IntRead.TheVariants.{Value, More, Bad}

-- The first octets, so many, are a text of the value.
pub record ReadsValue (prefix : ℕ) (octets : List ℕ) (value used : ℕ) : Type 0 where
  pub within : used ≤ length octets
  pub text : IsInt prefix (take used octets) value

-- No front of the octets is a text, and a continuation of them is.
pub record NeedsMore (prefix : ℕ) (octets : List ℕ) : Type 0 where
  pub no_front : BeginsNoInt prefix octets
  pub more : List ℕ
  pub value : ℕ
  pub continued : IsInt prefix (octets ++ more) value

-- No front of the octets is a text, nor of any continuation of them.
abbrev pub IsBad : ℕ → List ℕ → Type 0
IsBad prefix octets = (more : List ℕ) → BeginsNoInt prefix (octets ++ more)

abbrev pub Reads : ℕ → List ℕ → IntRead → Type 0
Reads prefix octets (Value value used) = ReadsValue prefix octets value used
Reads prefix octets More = NeedsMore prefix octets
Reads prefix octets Bad = IsBad prefix octets

-- The top bit of each octet is set.
abbrev pub AreSet : List ℕ → Type 0
AreSet [] = Unit {0}
AreSet (group ∷ groups) = (128 ≤ group) × AreSet groups

-- Groups end the octets after the prefix, whose ones count for so much.
pub record EndsWithin (ones : ℕ) (groups : List ℕ) (value used : ℕ) : Type 0 where
  pub some : 2 ≤ used
  pub few : used ≤ 6
  pub within : used ≤ length groups + 1
  pub are_groups : AreGroups (take (used - 1) groups)
  pub sum : ones + groups_value (take (used - 1) groups) ≡ value
  pub in_range : value ≤ greatest

-- No group is the last, and one more may be.
pub record IsUnended (groups : List ℕ) : Type 0 where
  pub are_set : AreSet groups
  pub few : length groups < 5

-- No group of five is the last.
pub record IsEndless (groups : List ℕ) : Type 0 where
  pub many : 5 ≤ length groups
  pub are_set : AreSet (take 5 groups)

-- The groups up to one count for too much.
pub record PassesRange (ones : ℕ) (groups : List ℕ) : Type 0 where
  pub place : ℕ
  pub within : place < length groups
  pub are_set : AreSet (take place groups)
  pub over : greatest < ones + groups_value (take (place + 1) groups)

abbrev pub ReadsGroups : ℕ → List ℕ → IntRead → Type 0
ReadsGroups ones groups (Value value used) = EndsWithin ones groups value used
ReadsGroups ones groups More = IsUnended groups
ReadsGroups ones groups Bad = IsEndless groups ⊎ PassesRange ones groups
