-- Header blocks (RFC 7541, sections 3, 5.2 and 6).
use Rattle.std.specs.Prelude.{◌≡◌, ℕ, ◌≤◌, ◌⊎◌, List, [], ◌∷◌, ◌++◌, length, Some}
use Rattle.model.specs.Messages.{Field}
use Rattle.model.specs.Integers.{IsMarkedInt}
use Rattle.model.specs.Huffman.{Huff}
use Rattle.model.specs.Tables.{Table, added, resized, look_up}
use Rattle.model.specs.Limits.{first_maximum}

-- The string's octets themselves behind their number (section 5.2).
pub record IsRawString (octets string : List ℕ) : Type 0 where
  pub header : List ℕ
  pub is : octets ≡ header ++ string
  pub number : IsMarkedInt 7 0 header (length string)

-- Huffman text of the string behind the number of its octets (section 5.2).
pub record IsHuffmanString (octets string : List ℕ) : Type 0 where
  pub header : List ℕ
  pub text : List ℕ
  pub is : octets ≡ header ++ text
  pub number : IsMarkedInt 7 1 header (length text)
  pub huffman : Huff text string

-- The octets are a string literal.
abbrev pub IsString : List ℕ → List ℕ → Type 0
IsString octets string = IsRawString octets string ⊎ IsHuffmanString octets string

-- The name index is 0 and the name follows as a string.
pub record IsNewName (index : ℕ) (octets name : List ℕ) : Type 0 where
  pub is_zero : index ≡ 0
  pub string : IsString octets name

-- The name is that of the entry at the index, and nothing follows.
pub record IsNameOfEntry (table : Table) (index : ℕ) (octets name : List ℕ) : Type 0 where
  pub is_empty : octets ≡ []
  pub entry : Field
  pub found : look_up table index ≡ Some entry
  pub same : entry.name ≡ name

-- A literal: a name index behind its mark, the name, the value (section 6.2). The name is looked up in the table as it is
-- before the literal.
pub record IsLiteral (prefix mark : ℕ) (table : Table) (octets : List ℕ) (field : Field) : Type 0 where
  pub index : ℕ
  pub index_octets : List ℕ
  pub name_octets : List ℕ
  pub value_octets : List ℕ
  pub is : octets ≡ index_octets ++ name_octets ++ value_octets
  pub marked : IsMarkedInt prefix mark index_octets index
  pub name : IsNewName index name_octets field.name ⊎ IsNameOfEntry table index name_octets field.name
  pub string : IsString value_octets field.value

-- A field by its index alone (section 6.1).
pub record IsIndexed (table : Table) (octets : List ℕ) (field : Field) (next : Table) : Type 0 where
  pub index : ℕ
  pub marked : IsMarkedInt 7 1 octets index
  pub found : look_up table index ≡ Some field
  pub same : next ≡ table

-- A literal that is inserted into the table (section 6.2.1).
pub record IsInserted (table : Table) (octets : List ℕ) (field : Field) (next : Table) : Type 0 where
  pub literal : IsLiteral 6 1 table octets field
  pub inserted : next ≡ added field table

-- A literal that isn't inserted (section 6.2.2).
pub record IsNotInserted (table : Table) (octets : List ℕ) (field : Field) (next : Table) : Type 0 where
  pub literal : IsLiteral 4 0 table octets field
  pub same : next ≡ table

-- A literal that is never to be indexed, and so isn't inserted (section 6.2.3).
pub record IsNeverIndexed (table : Table) (octets : List ℕ) (field : Field) (next : Table) : Type 0 where
  pub literal : IsLiteral 4 1 table octets field
  pub same : next ≡ table

-- From the table the octets are one field's representation, and leave the next table.
abbrev pub Represents : Table → List ℕ → Field → Table → Type 0
Represents table octets field next =
    IsIndexed table octets field next ⊎ (IsInserted table octets field next ⊎ (IsNotInserted table octets field next ⊎ IsNeverIndexed table octets field next))

-- Representations of the fields, one after another.
abbrev pub AreFields : Table → List ℕ → List Field → Table → Type 0
AreFields table octets [] next = (octets ≡ []) × (next ≡ table)
AreFields table octets (field ∷ fields) next =
    (front rest : List ℕ) × (between : Table) × (octets ≡ front ++ rest) × Represents table front field between × AreFields between rest fields next

-- A new maximum of the table (section 6.3).
pub record IsNewMaximum (octets : List ℕ) (maximum : ℕ) : Type 0 where
  pub marked : IsMarkedInt 5 1 octets maximum
  pub in_range : maximum ≤ first_maximum

-- New maxima of the table, one after another.
abbrev pub AreMaxima : Table → List ℕ → List ℕ → Table → Type 0
AreMaxima table octets [] next = (octets ≡ []) × (next ≡ table)
AreMaxima table octets (maximum ∷ maxima) next =
    (front rest : List ℕ) × (octets ≡ front ++ rest) × IsNewMaximum front maximum × AreMaxima (resized maximum table) rest maxima next

-- From the table the octets are a block that begins with these maxima, has these fields and leaves the next table; any
-- number of maxima comes first (section 4.2; this project's profile).
pub record IsBlock (table : Table) (octets maxima : List ℕ) (fields : List Field) (next : Table) : Type 0 where
  pub front : List ℕ
  pub rest : List ℕ
  pub between : Table
  pub is : octets ≡ front ++ rest
  pub are_maxima : AreMaxima table front maxima between
  pub are_fields : AreFields between rest fields next

-- From the table the octets are a block of these fields, and leave the next table.
pub record Block (table : Table) (octets : List ℕ) (fields : List Field) (next : Table) : Type 0 where
  pub maxima : List ℕ
  pub is_block : IsBlock table octets maxima fields next

-- From the table the octets are no block.
abbrev pub NoBlock : Table → List ℕ → Type 0
NoBlock table octets = (fields : List Field) (next : Table) → Block table octets fields next → ⊥
