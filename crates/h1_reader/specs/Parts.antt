-- What a reader tells of a response.
use Rattle.std.specs.Prelude.{ℕ, List, [], ◌∷◌}
use Rattle.model.specs.Messages.{Field}
use Rattle.model.specs.ResponseHeads.{Head}

-- A piece, as a plain value.
pub data Part : Type 0 where
  Interim : (head : Head) → Part
  Final : (head : Head) → Part
  Body : (octets : List ℕ) → Part
  -- trailers, of which there are some
  Trailing : (fields : List Field) → Part
  Done : Part

-- What is told where a response is whole: its trailers, if there are some, and that it is.
abbrev pub ends_with : List Field → List Part
ends_with [] = Done ∷ []
ends_with (field ∷ fields) = Trailing (field ∷ fields) ∷ Done ∷ []
