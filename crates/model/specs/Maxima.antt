-- The maxima with which a block begins (RFC 7541, section 4.2).
use Rattle.std.specs.Prelude.{◌≡◌, ℕ, ◌≤◌, ◌==◌, nat_lt, min, if◌then◌else◌, List, [], ◌∷◌, ◌++◌, map, Contains}
use Rattle.std.specs.List.{All}
use Rattle.model.specs.Limits.{first_maximum}

-- A limit as it is counted: at most the greatest maximum (this project's profile).
abbrev pub counted : ℕ → ℕ
counted limit = min limit first_maximum

-- The least of numbers: it is one of them, and none is below it.
pub record IsLeast (numbers : List ℕ) (least : ℕ) : Type 0 where
  pub named : Contains numbers least
  pub below : All (λ number. least ≤ number) numbers

-- The last of numbers.
pub record IsLast (numbers : List ℕ) (last : ℕ) : Type 0 where
  pub before : List ℕ
  pub is : numbers ≡ before ++ last ∷ []

-- The least of the limits, if it is below the maximum; then the last, if it differs from the maximum so reached.
pub record Announces (maximum : ℕ) (limits maxima : List ℕ) : Type 0 where
  pub least : ℕ
  pub last : ℕ
  pub is_least : IsLeast limits least
  pub is_last : IsLast limits last
  pub is : maxima ≡ (if nat_lt least maximum then least ∷ [] else []) ++ (if last == min least maximum then [] else last ∷ [])

-- What a block begins with, where the table has this maximum and these are the limits that the peer named since the block
-- before.
abbrev pub Maxima : ℕ → List ℕ → List ℕ → Type 0
Maxima maximum [] maxima = maxima ≡ []
Maxima maximum (limit ∷ limits) maxima = Announces maximum (map counted (limit ∷ limits)) maxima
