-- A search by rising indices.
use Rattle.std.specs.Prelude.{◌≡◌, ℕ, ◌+◌, ◌-◌, ◌*◌, ◌%◌, ◌<◌, ◌≤◌, Bool, true, false, List, [], length, get_or, slice_get, Option, Some, None}
use Rattle.model.specs.Messages.{Field}
use Rattle.model.specs.Tables.{Table, look_up, field_of, static_table}
use Rattle.hpack_table.specs.Finding.{FindsBoth, FindsName}
use Rattle.hpack_table.specs.declared.found.Found.{Found}
use Rattle.hpack_table.specs.declared.found.Found.TheVariants.{Both, Name, Absent}

-- a table of fields; a search doesn't ask for the maximum
abbrev pub table_of : List Field → Table
table_of fields = record { fields = fields; maximum = 0 }

-- the static table alone
abbrev pub static_alone : Table
static_alone = table_of []

-- the slot of a name, by its length, its first octet and its last
abbrev pub slot_of : List ℕ → ℕ
slot_of name = (length name % 128 * 89 + get_or name 0 0 * 66 + get_or name (length name - 1) 0) % 128

-- No entry of the static table has the name at this place.
abbrev pub HasNotName : List ℕ → ℕ → Type 0
HasNotName name place = (entry : Field) → slice_get static_table place ≡ Some entry → entry.name ≡ name → ⊥

-- No entry before the place has the name, and from there on none with another name stands before one that has it.
pub record IsStartOf (name : List ℕ) (place : ℕ) : Type 0 where
  pub none : (other : ℕ) → other < place → HasNotName name other
  pub together : (other later : ℕ) → place ≤ other → other ≤ later → HasNotName name other → HasNotName name later

-- what is known of the name below an index
abbrev pub Named : Table → List ℕ → ℕ → Option ℕ → Type 0
Named table name index None = (lower : ℕ) → lower < index → (other : Field) → look_up table lower ≡ Some other → other.name ≡ name → ⊥
Named table name index (Some found) = FindsName table name found

-- what is known below an index
pub record Searched (table : Table) (name value : List ℕ) (index : ℕ) (named : Option ℕ) : Type 0 where
  pub some : 0 < index
  pub no_both : (lower : ℕ) → lower < index → look_up table lower ≡ Some (field_of name value) → ⊥
  pub is_named : Named table name index named

-- the name and the value are found
abbrev pub is_both : Found → Bool
is_both (Both index) = true
is_both (Name index) = false
is_both Absent = false

-- What is found below an index, where no entry there has the name and the value.
abbrev pub Seeks : Table → List ℕ → List ℕ → ℕ → Found → Type 0
Seeks table name value index (Both found) = ⊥
Seeks table name value index (Name found) = Searched table name value index (Some found)
Seeks table name value index Absent = Searched table name value index None

-- what is found below an index
abbrev pub Met : Table → List ℕ → List ℕ → ℕ → Found → Type 0
Met table name value index (Both found) = FindsBoth table name value found
Met table name value index (Name found) = Searched table name value index (Some found)
Met table name value index Absent = Searched table name value index None
