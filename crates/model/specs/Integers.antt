-- Integers of HPACK (RFC 7541, section 5.1).
use Rattle.std.specs.Prelude.{◌≡◌, ℕ, ◌+◌, ◌*◌, ◌-◌, ◌/◌, ◌%◌, ◌^◌, ◌<◌, ◌≤◌, ◌⊎◌, List, [], ◌∷◌, ◌++◌, length, slice_index}

-- The greatest integer that is read or written (this project's profile).
abbrev pub greatest : ℕ
greatest = 4294967295

-- Octets that tell by their top bit where they end: it is set on all but the last.
abbrev pub AreGroups : List ℕ → Type 0
AreGroups [] = ⊥
AreGroups (last ∷ []) = last < 128
AreGroups (group ∷ next ∷ more) = (128 ≤ group) × AreGroups (next ∷ more)

-- What groups of seven bits say together, the lowest first.
abbrev pub groups_value : List ℕ → ℕ
groups_value [] = 0
groups_value (group ∷ more) = group % 128 + 128 * groups_value more

-- The value stands in the low bits of one octet, which aren't all ones.
pub record IsShortInt (prefix : ℕ) (octets : List ℕ) (value : ℕ) : Type 0 where
  pub first : ℕ
  pub is : octets ≡ first ∷ []
  pub low_bits : first % 2 ^ prefix ≡ value
  pub not_ones : value < 2 ^ prefix - 1

-- The low bits of the first octet are ones, and one to five groups say what is above them; needless groups of zeros are
-- among them (at most five octets follow, by this project's profile).
pub record IsLongInt (prefix : ℕ) (octets : List ℕ) (value : ℕ) : Type 0 where
  pub first : ℕ
  pub groups : List ℕ
  pub is : octets ≡ first ∷ groups
  pub ones : first % 2 ^ prefix ≡ 2 ^ prefix - 1
  pub are_groups : AreGroups groups
  pub few : length groups ≤ 5
  pub sum : 2 ^ prefix - 1 + groups_value groups ≡ value
  pub in_range : value ≤ greatest

-- The octets are a text of the value with a prefix of so many bits; what stands above the prefix doesn't matter.
abbrev pub IsInt : ℕ → List ℕ → ℕ → Type 0
IsInt prefix octets value = IsShortInt prefix octets value ⊎ IsLongInt prefix octets value

-- A text of the value, with this mark in the bits above the prefix.
pub record IsMarkedInt (prefix mark : ℕ) (octets : List ℕ) (value : ℕ) : Type 0 where
  pub int : IsInt prefix octets value
  pub marked : slice_index octets 0 / 2 ^ prefix ≡ mark

-- No front of the octets is a text of an integer.
abbrev pub BeginsNoInt : ℕ → List ℕ → Type 0
BeginsNoInt prefix octets = (front rest : List ℕ) (value : ℕ) → octets ≡ front ++ rest → IsInt prefix front value → ⊥
