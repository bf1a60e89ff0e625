-- What a book holds of octets.
use Rattle.std.specs.Prelude.{ℕ, length, Option, Some, None}
use Rattle.model.specs.Decoding.{Partial}

-- the octets of a header block that isn't complete
abbrev pub octets_begun : Option Partial → ℕ
octets_begun None = 0
octets_begun (Some block) = length block.fragments
