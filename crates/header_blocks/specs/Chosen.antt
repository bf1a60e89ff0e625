-- Which representation a field is written in.
use Rattle.std.specs.Prelude.{◌≡◌, ℕ, ◌≤◌, ◌<◌, ◌⊎◌, Bool, true, false, List, [], ◌∷◌, ◌++◌, length}
use Rattle.model.specs.Messages.{Field}
use Rattle.model.specs.Tables.{Table, field_size}
use Rattle.model.specs.Huffman.{Huff}
use Rattle.model.specs.Blocks.{IsRawString, IsHuffmanString, IsIndexed, IsInserted, IsNotInserted}
use Rattle.hpack_table.specs.Finding.{FindsBoth, FindsName, HasNone, HasNoName}

-- A field whose strings can be written.
pub record HasShortStrings (field : Field) : Type 0 where
  pub name : length field.name ≤ 65536
  pub value : length field.value ≤ 65536

-- The table in which fields are sought: the static one alone, where none is inserted.
abbrev pub sought : Bool → Table → Table
sought true table = table
sought false table = record { fields = []; maximum = table.maximum }

-- The least index of an entry with the name, or 0 where there is none.
abbrev pub IsNameIndex : Table → List ℕ → ℕ → Type 0
IsNameIndex table name index = FindsName table name index ⊎ (HasNoName table name × (index ≡ 0))

-- The string's Huffman text is shorter than the string (RFC 7541, section 5.2).
pub record IsShortened (string : List ℕ) : Type 0 where
  pub text : List ℕ
  pub huffman : Huff text string
  pub shorter : length text < length string

-- The string stands raw: its Huffman text isn't to be taken, or isn't shorter.
pub record StandsRaw (compress : Bool) (octets string : List ℕ) : Type 0 where
  pub is_raw : IsRawString octets string
  pub not_shorter : compress ≡ true → IsShortened string → ⊥

-- The string stands as its Huffman text, which is to be taken and is shorter.
pub record StandsShortened (compress : Bool) (octets string : List ℕ) : Type 0 where
  pub is_text : IsHuffmanString octets string
  pub is_taken : compress ≡ true
  pub shortened : IsShortened string

-- How a string is written, where Huffman text is to be taken or not.
abbrev pub IsChosenString : Bool → List ℕ → List ℕ → Type 0
IsChosenString compress octets string = StandsRaw compress octets string ⊎ StandsShortened compress octets string

-- How the strings of a literal are written: its name, where that has no index, and its value.
pub record AreChosenStrings (compress : Bool) (index : ℕ) (name_octets value_octets : List ℕ) (field : Field) : Type 0 where
  pub name : index ≡ 0 → IsChosenString compress name_octets field.name
  pub value : IsChosenString compress value_octets field.value

-- The least index of the field.
pub record GoesAsIndex (indexing : Bool) (table : Table) (octets : List ℕ) (field : Field) (next : Table) : Type 0 where
  pub indexed : IsIndexed table octets field next
  pub least : FindsBoth (sought indexing table) field.name field.value indexed.index

-- A literal that is inserted, of a field that stands nowhere and fits the table.
pub record GoesIn (indexing : Bool) (table : Table) (octets : List ℕ) (field : Field) (next : Table) : Type 0 where
  pub absent : HasNone (sought indexing table) field.name field.value
  pub inserted : IsInserted table octets field next
  pub name : IsNameIndex (sought indexing table) field.name inserted.literal.index
  pub is_indexing : indexing ≡ true
  pub fits : field_size field ≤ table.maximum
  pub strings : AreChosenStrings indexing inserted.literal.index inserted.literal.name_octets inserted.literal.value_octets field

-- A literal that isn't inserted, of a field that stands nowhere; one that fits the table only where none is inserted.
pub record StaysOut (indexing : Bool) (table : Table) (octets : List ℕ) (field : Field) (next : Table) : Type 0 where
  pub absent : HasNone (sought indexing table) field.name field.value
  pub left_out : IsNotInserted table octets field next
  pub name : IsNameIndex (sought indexing table) field.name left_out.literal.index
  pub too_large : indexing ≡ true → table.maximum < field_size field
  pub strings : AreChosenStrings indexing left_out.literal.index left_out.literal.name_octets left_out.literal.value_octets field

-- How a field is written. Where fields are inserted, Huffman text is taken.
abbrev pub IsChosen : Bool → Table → List ℕ → Field → Table → Type 0
IsChosen indexing table octets field next =
    GoesAsIndex indexing table octets field next ⊎ (GoesIn indexing table octets field next ⊎ StaysOut indexing table octets field next)

-- How fields are written, one after another.
abbrev pub AreChosen : Bool → Table → List ℕ → List Field → Table → Type 0
AreChosen indexing table octets [] next = (octets ≡ []) × (next ≡ table)
AreChosen indexing table octets (field ∷ fields) next =
    (front rest : List ℕ) × (between : Table) × (octets ≡ front ++ rest) × IsChosen indexing table front field between
    × AreChosen indexing between rest fields next
