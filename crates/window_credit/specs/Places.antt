-- Streams that are kept, in the order of their ids.
use Rattle.std.specs.Prelude.{◌≡◌, ℕ, ◌<◌, Bool, true, nat_lt, List, [], ◌∷◌, length, slice_index_or}
use Rattle.std.specs.List.{list_all}
use Rattle.window_credit.specs.Counts.{AreSome}
use Rattle.window_credit.specs.Sides.{Side, opened}

-- the stream at a place
abbrev pub at : List Side → ℕ → Side
at sides place = slice_index_or sides place (opened 0 0 0 0)

-- an id is below those of all
abbrev pub is_below_all : ℕ → List Side → Bool
is_below_all id sides = list_all (λ (side : Side). nat_lt id side.id) sides

-- The ids rise: each is below those of the streams behind it.
abbrev pub AreRising : List Side → Type 0
AreRising [] = Unit {0}
AreRising (side ∷ sides) = (is_below_all side.id sides ≡ true) × AreRising sides

-- The stream at this place has the id.
pub record IsAt (sides : List Side) (id place : ℕ) : Type 0 where
  pub within : place < length sides
  pub has_id : (at sides place).id ≡ id

-- Behind each mark of each stream wait some octets.
abbrev pub AllAreSome : List Side → Type 0
AllAreSome [] = Unit {0}
AllAreSome (side ∷ sides) = AreSome side.queue × AllAreSome sides
