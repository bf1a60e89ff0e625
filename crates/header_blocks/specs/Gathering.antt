-- What is taken off the front of octets, and what of a block is gathered.
use Rattle.std.specs.Prelude.{◌≡◌, ℕ, ◌+◌, ◌≤◌, ◌<◌, List, length, take, Option, Some, None}
use Rattle.model.specs.Messages.{Field}
use Rattle.model.specs.Tables.{total_size}
use Rattle.model.specs.Blocks.{IsRawString}
use Rattle.header_blocks.specs.declared.gather.Decoded.{Decoded}
use Rattle.header_blocks.specs.declared.gather.Decoded.TheVariants.{Fields, TooLarge}

-- The first octets, so many, are a raw string.
pub record ReadsString (octets string : List ℕ) (used : ℕ) : Type 0 where
  pub within : used ≤ length octets
  pub is_string : IsRawString (take used octets) string

-- All fields are kept and leave so much room, or they have passed the maximum.
abbrev pub Holds : ℕ → List Field → List Field → Option ℕ → Type 0
Holds cap all kept (Some room) = (kept ≡ all) × (total_size all + room ≡ cap)
Holds cap all kept None = cap < total_size all

-- what is answered once all fields are gathered
abbrev pub Finishes : List Field → Option ℕ → Decoded → Type 0
Finishes kept (Some room) (Fields fields) = fields.items ≡ kept
Finishes kept (Some room) TooLarge = ⊥
Finishes kept None (Fields fields) = ⊥
Finishes kept None TooLarge = Unit {0}
