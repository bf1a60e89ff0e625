-- An index of a table's fields by hashes.
use Rattle.std.specs.Prelude.{◌≡◌, ℕ, ◌<◌, List, map, slice_get, Some}
use Rattle.std.specs.Hash.FoldHasher.{initial, write, finish}
use Rattle.model.specs.Messages.{Field}
use Rattle.model.specs.Tables.{field_of}
use Rattle.hpack_table.specs.declared.index.Index.{Index}

-- the hash of a name
abbrev pub name_hash : List ℕ → ℕ
name_hash name = finish (write initial name)

-- the hash of a name and a value
abbrev pub text_hash : List ℕ → List ℕ → ℕ
text_hash name value = finish (write (write initial name) value)

-- the hashes of fields' names
abbrev pub name_hashes : List Field → List ℕ
name_hashes fields = map (λ (field : Field). name_hash field.name) fields

-- the hashes of fields' names and values
abbrev pub text_hashes : List Field → List ℕ
text_hashes fields = map (λ (field : Field). text_hash field.name field.value) fields

-- The index has the hashes of the fields.
pub record IsIndexOf (index : Index) (fields : List Field) : Type 0 where
  pub names : index.names ≡ name_hashes fields
  pub texts : index.texts ≡ text_hashes fields

-- No field has the name and the value.
abbrev pub HasNoText : List Field → List ℕ → List ℕ → Type 0
HasNoText fields name value = (place : ℕ) → slice_get fields place ≡ Some (field_of name value) → ⊥

-- The field at the place has the name and the value, and no newer one has.
pub record IsNewestText (fields : List Field) (name value : List ℕ) (place : ℕ) : Type 0 where
  pub here : slice_get fields place ≡ Some (field_of name value)
  pub newest : (other : ℕ) → other < place → slice_get fields other ≡ Some (field_of name value) → ⊥

-- No field has the name.
abbrev pub HasNoName : List Field → List ℕ → Type 0
HasNoName fields name = (place : ℕ) (entry : Field) → slice_get fields place ≡ Some entry → entry.name ≡ name → ⊥

-- The field at the place has the name, and no newer one has.
pub record IsNewestName (fields : List Field) (name : List ℕ) (place : ℕ) : Type 0 where
  pub entry : Field
  pub here : slice_get fields place ≡ Some entry
  pub named : entry.name ≡ name
  pub newest : (other : ℕ) (entry : Field) → other < place → slice_get fields other ≡ Some entry → entry.name ≡ name → ⊥
