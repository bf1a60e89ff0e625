-- Where things lie in lists, the oldest first.
use Rattle.std.specs.Prelude.{◌≡◌, ℕ, ◌<◌, List, length, slice_index_or}

-- The thing at a place is the one with this key.
pub record IsAt {A : Type 0} (key : A → ℕ) (d : A) (xs : List A) (n place : ℕ) : Type 0 where
  pub within : place < length xs
  pub has_key : key (slice_index_or xs place d) ≡ n

-- None has it.
abbrev pub IsNowhere : {A : Type 0} → (A → ℕ) → A → List A → ℕ → Type 0
IsNowhere key d xs n = (i : ℕ) → i < length xs → key (slice_index_or xs i d) ≡ n → ⊥
