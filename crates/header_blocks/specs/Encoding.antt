-- What an encoder is seen as.
use Rattle.std.specs.Prelude.{◌≡◌, ℕ, min, Bool, true, false, List, [], map, Option, Some, None}
use Rattle.model.specs.Tables.{Table, first_table}
use Rattle.model.specs.Maxima.{counted, IsLeast, IsLast}
use Rattle.header_blocks.specs.declared.limits.Limits.{Limits}
use Rattle.header_blocks.specs.declared.policy.Policy.{Policy}
use Rattle.header_blocks.specs.declared.policy.Policy.TheVariants.{Plain, Indexing}

-- whether fields are inserted into the table
abbrev pub is_indexing : Policy → Bool
is_indexing Plain = false
is_indexing Indexing = true

-- The table of a direction, the limits that the peer named since the last block, if any, whether fields are inserted, and
-- whether memory was refused.
pub record Encoding : Type 0 where
  pub table : Table
  pub limits : Option Limits
  pub indexing : Bool
  pub refused : Bool

-- an encoder before its first block
abbrev pub first_encoding : Bool → Encoding
first_encoding indexing = record { table = first_table; limits = None; indexing = indexing; refused = false }

-- one limit more
abbrev pub limits_with : Option Limits → ℕ → Limits
limits_with None limit = record { least = counted limit; last = counted limit }
limits_with (Some limits) limit = record { least = min limits.least (counted limit); last = counted limit }

-- The least and the last stand for these limits, each as it is counted.
pub record AreEndsOf (limits : List ℕ) (ends : Limits) : Type 0 where
  pub least : IsLeast (map counted limits) ends.least
  pub last : IsLast (map counted limits) ends.last

-- What is kept stands for these limits.
abbrev pub StandsFor : List ℕ → Option Limits → Type 0
StandsFor limits None = limits ≡ []
StandsFor limits (Some ends) = AreEndsOf limits ends
