-- Whose turn is next among the streams that are ready: each in turn, by rising ids (this project's profile).
use Rattle.std.specs.Prelude.{◌≡◌, ◌≢◌, ℕ, ◌+◌, ◌<◌, ◌≤◌, ◌==◌, if◌then◌else◌, ◌⊎◌, List, [], ◌∷◌, Option, Some, None, slice_index, EachIndex, SomeIndex}

-- The id is the least of the ready ones that are above the last.
pub record IsNextAbove (last : ℕ) (ready : List ℕ) (id : ℕ) : Type 0 where
  pub is_ready : SomeIndex ready (λ k. slice_index ready k ≡ id)
  pub above : last < id
  pub least : EachIndex ready (λ k. last < slice_index ready k → id ≤ slice_index ready k)

-- No ready id is above the last, and this one is the least of all.
pub record IsFirstAgain (last : ℕ) (ready : List ℕ) (id : ℕ) : Type 0 where
  pub is_ready : SomeIndex ready (λ k. slice_index ready k ≡ id)
  pub none_above : EachIndex ready (λ k. slice_index ready k ≤ last)
  pub least : EachIndex ready (λ k. id ≤ slice_index ready k)

-- The next turn behind that of the last: the least ready id above it, else the least ready one; none just where none is
-- ready.
abbrev pub IsNextTurn : ℕ → List ℕ → Option ℕ → Type 0
IsNextTurn last ready (Some id) = IsNextAbove last ready id ⊎ IsFirstAgain last ready id
IsNextTurn last ready None = ready ≡ []

-- A turn: the streams that were ready, and the one whose turn it was.
pub record Turn : Type 0 where
  pub ready : List ℕ
  pub id : ℕ

-- The turns follow each other behind that of the last, the oldest first.
abbrev pub AreTurns : ℕ → List Turn → Type 0
AreTurns last [] = Unit {0}
AreTurns last (turn ∷ turns) = IsNextTurn last turn.ready (Some turn.id) × AreTurns turn.id turns

-- The stream is ready at each of the turns, and none is its own.
abbrev pub IsPassedOver : ℕ → List Turn → Type 0
IsPassedOver id [] = Unit {0}
IsPassedOver id (turn ∷ turns) =
    SomeIndex turn.ready (λ k. slice_index turn.ready k ≡ id) × (turn.id ≢ id) × IsPassedOver id turns

-- how many of the turns are those of a stream
abbrev pub turns_of : ℕ → List Turn → ℕ
turns_of id [] = 0
turns_of id (turn ∷ turns) = (if turn.id == id then 1 else 0) + turns_of id turns
