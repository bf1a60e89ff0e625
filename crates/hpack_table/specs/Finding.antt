-- What `find` answers.
use Rattle.std.specs.Prelude.{◌≡◌, ℕ, ◌<◌, List, Some}
use Rattle.model.specs.Messages.{Field}
use Rattle.model.specs.Tables.{Table, look_up, field_of}
use Rattle.hpack_table.specs.declared.found.Found.{Found}
use Rattle.hpack_table.specs.declared.found.Found.TheVariants.{Both, Name, Absent}

-- The index has an entry with the name and the value, and no lower one has.
pub record FindsBoth (table : Table) (name value : List ℕ) (index : ℕ) : Type 0 where
  pub here : look_up table index ≡ Some (field_of name value)
  pub least : (lower : ℕ) → lower < index → look_up table lower ≡ Some (field_of name value) → ⊥

-- The index has an entry with the name, and no lower one has.
pub record FindsName (table : Table) (name : List ℕ) (index : ℕ) : Type 0 where
  pub entry : Field
  pub here : look_up table index ≡ Some entry
  pub named : entry.name ≡ name
  pub least : (lower : ℕ) (other : Field) → lower < index → look_up table lower ≡ Some other → other.name ≡ name → ⊥

-- No index has an entry with the name and the value.
abbrev pub HasNone : Table → List ℕ → List ℕ → Type 0
HasNone table name value = (index : ℕ) → look_up table index ≡ Some (field_of name value) → ⊥

-- No index has an entry with the name.
abbrev pub HasNoName : Table → List ℕ → Type 0
HasNoName table name = (index : ℕ) (entry : Field) → look_up table index ≡ Some entry → entry.name ≡ name → ⊥

abbrev pub Finds : Table → List ℕ → List ℕ → Found → Type 0
Finds table name value (Both index) = FindsBoth table name value index
Finds table name value (Name index) = FindsName table name index × HasNone table name value
Finds table name value Absent = HasNoName table name
