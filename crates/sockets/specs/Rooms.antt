-- Room for octets of upstreams.
use Rattle.std.specs.Prelude.{◌==◌, ℕ, List, [], ◌∷◌, if◌then◌else◌}

-- the room of a connection, and none where it isn't listed
abbrev pub room_in : ℕ → List (ℕ × ℕ) → ℕ
room_in k [] = 0
room_in k (pair ∷ pairs) = if pair.0 == k then pair.1 else room_in k pairs
