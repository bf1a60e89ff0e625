-- Which fault stands where a block can't be read on (RFC 7541, sections 2.3.3, 5 and 6). An index or a maximum is judged where
-- its integer ends.
use Rattle.std.specs.Prelude.{◌≡◌, ℕ, ◌+◌, ◌/◌, ◌≤◌, ◌<◌, ◌⊎◌, List, [], ◌∷◌, length, take, drop, slice_index, None}
use Rattle.model.specs.Messages.{Field}
use Rattle.model.specs.Huffman.{Huff}
use Rattle.model.specs.Tables.{Table, look_up}
use Rattle.model.specs.Limits.{first_maximum}
use Rattle.model.specs.Blocks.{IsBlock}
use Rattle.hpack_int.specs.Reading.{ReadsValue, NeedsMore, IsBad}
use Rattle.header_blocks.specs.Represented.{TakesName}
use Rattle.header_blocks.specs.declared.fault.DecodeFault.{DecodeFault}
use Rattle.header_blocks.specs.declared.fault.DecodeFault.TheVariants.{Integer, Text, Index, Maximum, Late, Cut}

-- The octets end within an integer, or become none however they go on.
abbrev pub IsIntFault : ℕ → List ℕ → DecodeFault → Type 0
IsIntFault prefix octets Cut = NeedsMore prefix octets
IsIntFault prefix octets Integer = IsBad prefix octets
IsIntFault prefix octets _ = ⊥

-- Fewer octets follow a string's number.
pub record IsCutString (octets : List ℕ) : Type 0 where
  pub number : ℕ
  pub used : ℕ
  pub read : ReadsValue 7 octets number used
  pub short : length octets < used + number

-- A string is marked as Huffman text, and its octets are there and aren't such text.
pub record IsBadText (octets : List ℕ) : Type 0 where
  pub number : ℕ
  pub used : ℕ
  pub read : ReadsValue 7 octets number used
  pub marked : 128 ≤ slice_index octets 0
  pub whole : used + number ≤ length octets
  pub no_text : (string : List ℕ) → Huff (take number (drop used octets)) string → ⊥

-- The fault of octets that begin with no string.
abbrev pub IsStringFault : List ℕ → DecodeFault → Type 0
IsStringFault octets Integer = IsBad 7 octets
IsStringFault octets Cut = NeedsMore 7 octets ⊎ IsCutString octets
IsStringFault octets Text = IsBadText octets
IsStringFault octets _ = ⊥

-- The index has no entry.
pub record HasNoEntry (table : Table) (index : ℕ) (fault : DecodeFault) : Type 0 where
  pub nothing : look_up table index ≡ None
  pub is : fault ≡ Index

-- The fault of octets that begin with no name for this name index.
abbrev pub IsNameFault : Table → ℕ → List ℕ → DecodeFault → Type 0
IsNameFault table index octets fault = ((index ≡ 0) × IsStringFault octets fault) ⊎ ((0 < index) × HasNoEntry table index fault)

-- The name index is read, and no name.
pub record StopsAtName (table : Table) (prefix : ℕ) (octets : List ℕ) (fault : DecodeFault) : Type 0 where
  pub index : ℕ
  pub used : ℕ
  pub read : ReadsValue prefix octets index used
  pub stops : IsNameFault table index (drop used octets) fault

-- The name is read, and no value.
pub record StopsAtValue (table : Table) (prefix : ℕ) (octets : List ℕ) (fault : DecodeFault) : Type 0 where
  pub index : ℕ
  pub used : ℕ
  pub read : ReadsValue prefix octets index used
  pub name : List ℕ
  pub name_used : ℕ
  pub named : TakesName table index (drop used octets) name name_used
  pub stops : IsStringFault (drop (used + name_used) octets) fault

-- The fault of octets that begin with no literal.
abbrev pub IsLiteralFault : Table → ℕ → List ℕ → DecodeFault → Type 0
IsLiteralFault table prefix octets fault = IsIntFault prefix octets fault ⊎ (StopsAtName table prefix octets fault ⊎ StopsAtValue table prefix octets fault)

-- The index is read, and has no entry.
pub record StopsAtIndex (table : Table) (octets : List ℕ) (fault : DecodeFault) : Type 0 where
  pub index : ℕ
  pub used : ℕ
  pub read : ReadsValue 7 octets index used
  pub stops : HasNoEntry table index fault

-- The fault of octets that begin with no field, by their mark.
abbrev pub IsFieldFault : Table → List ℕ → DecodeFault → Type 0
IsFieldFault table octets fault =
    ((slice_index octets 0 / 128 ≡ 1) × (IsIntFault 7 octets fault ⊎ StopsAtIndex table octets fault))
    ⊎ (((slice_index octets 0 / 64 ≡ 1) × IsLiteralFault table 6 octets fault)
    ⊎ ((slice_index octets 0 / 32 ≡ 0) × IsLiteralFault table 4 octets fault))

-- The maximum is read, and is over the greatest.
pub record PassesGreatest (octets : List ℕ) (fault : DecodeFault) : Type 0 where
  pub maximum : ℕ
  pub used : ℕ
  pub read : ReadsValue 5 octets maximum used
  pub over : first_maximum < maximum
  pub is : fault ≡ Maximum

-- A maximum is read, and it stands behind a field.
pub record ComesLate (octets : List ℕ) (fault : DecodeFault) : Type 0 where
  pub maximum : ℕ
  pub used : ℕ
  pub read : ReadsValue 5 octets maximum used
  pub is : fault ≡ Late

-- The fault of octets with the mark of a maximum, behind these fields.
abbrev pub IsMaximumFault : List Field → List ℕ → DecodeFault → Type 0
IsMaximumFault [] octets fault = IsIntFault 5 octets fault ⊎ PassesGreatest octets fault
IsMaximumFault (field ∷ fields) octets fault = IsIntFault 5 octets fault ⊎ ComesLate octets fault

-- The fault of a block, by the first place that can't be read: before it the octets are a block, and behind it stands
-- neither a field nor a maximum.
pub record IsFaultOf (table : Table) (block : List ℕ) (fault : DecodeFault) : Type 0 where
  pub place : ℕ
  pub within : place < length block
  pub maxima : List ℕ
  pub fields : List Field
  pub now : Table
  pub is_block : IsBlock table (take place block) maxima fields now
  pub stops : IsFieldFault now (drop place block) fault ⊎ ((slice_index (drop place block) 0 / 32 ≡ 1) × IsMaximumFault fields (drop place block) fault)
