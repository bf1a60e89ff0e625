-- What octets say by a table.
use Rattle.std.specs.Prelude.{◌++◌, ◌≡◌, ℕ, ◌≤◌, ◌<◌, ◌/◌, ◌^◌, ◌⊎◌, if◌then◌else◌, List, length, take, slice_index}
use Rattle.model.specs.Messages.{Field}
use Rattle.model.specs.Tables.{Table, added}
use Rattle.model.specs.Blocks.{IsString, IsNewName, IsNameOfEntry, IsLiteral, Represents, IsNewMaximum}
use Rattle.header_blocks.specs.declared.fields.TakenField.{TakenField}
use Rattle.header_blocks.specs.declared.fault.DecodeFault.{DecodeFault}
use Rattle.header_blocks.specs.declared.fault.DecodeFault.TheVariants.{Memory}

-- The first octets, so many, are a string.
pub record TakesString (octets string : List ℕ) (used : ℕ) : Type 0 where
  pub within : used ≤ length octets
  pub is_string : IsString (take used octets) string

-- The first octets, so many, are the name of a literal with this name index.
pub record TakesName (table : Table) (index : ℕ) (octets name : List ℕ) (used : ℕ) : Type 0 where
  pub within : used ≤ length octets
  pub is_name : IsNewName index (take used octets) name ⊎ IsNameOfEntry table index (take used octets) name

-- The first octets, so many, are a literal, by whatever mark stands there.
pub record TakesLiteral (table : Table) (prefix : ℕ) (octets : List ℕ) (field : Field) (used : ℕ) : Type 0 where
  pub some : 0 < used
  pub within : used ≤ length octets
  pub is_literal : IsLiteral prefix (slice_index octets 0 / 2 ^ prefix) table (take used octets) field

-- The first octets are one field, which is inserted into the table or not.
pub record TakesField (table : Table) (octets : List ℕ) (taken : TakenField) : Type 0 where
  pub some : 0 < taken.used
  pub within : taken.used ≤ length octets
  pub is_field : Represents table (take taken.used octets) taken.field (if taken.inserts then added taken.field table else table)

-- The first octets, so many, are one field, which leaves the table as it is.
pub record SkipsField (table : Table) (octets : List ℕ) (used : ℕ) : Type 0 where
  pub field : Field
  pub some : 0 < used
  pub within : used ≤ length octets
  pub is_field : Represents table (take used octets) field table

-- a fact, where it isn't memory that was refused
abbrev pub UnlessMemory : DecodeFault → Type 0 → Type 0
UnlessMemory Memory P = Unit {0}
UnlessMemory _ P = P

-- No front of the octets is a string.
abbrev pub BeginsNoString : List ℕ → Type 0
BeginsNoString octets = (front rest string : List ℕ) → octets ≡ front ++ rest → IsString front string → ⊥

-- No front of the octets is the name of a literal with this name index.
abbrev pub BeginsNoName : Table → ℕ → List ℕ → Type 0
BeginsNoName table index octets = (front rest name : List ℕ) → octets ≡ front ++ rest → IsNewName index front name ⊎ IsNameOfEntry table index front name → ⊥

-- No front of the octets is a literal whose name index has this prefix.
abbrev pub BeginsNoLiteral : Table → ℕ → List ℕ → Type 0
BeginsNoLiteral table prefix octets = (mark : ℕ) (front rest : List ℕ) (field : Field) → octets ≡ front ++ rest → IsLiteral prefix mark table front field → ⊥

-- No front of the octets is a field.
abbrev pub BeginsNoField : Table → List ℕ → Type 0
BeginsNoField table octets = (front rest : List ℕ) (field : Field) (next : Table) → octets ≡ front ++ rest → Represents table front field next → ⊥

-- No front of the octets is a maximum.
abbrev pub BeginsNoMaximum : List ℕ → Type 0
BeginsNoMaximum octets = (front rest : List ℕ) (maximum : ℕ) → octets ≡ front ++ rest → IsNewMaximum front maximum → ⊥
