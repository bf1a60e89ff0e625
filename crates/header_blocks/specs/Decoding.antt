-- What blocks say by a table.
use Rattle.std.specs.Prelude.{◌≡◌, ℕ, ◌≤◌, ◌<◌, if◌then◌else◌, List, [], ◌∷◌, ◌++◌, length, take, Option}
use Rattle.model.specs.Messages.{Field}
use Rattle.model.specs.Tables.{Table, total_size, added}
use Rattle.model.specs.Blocks.{AreMaxima, IsNewMaximum, IsBlock, Block}
use Rattle.header_blocks.specs.Gathering.{Holds}
use Rattle.header_blocks.specs.declared.fields.TakenField.{TakenField}
use Rattle.header_blocks.specs.declared.gather.Decoded.{Decoded}
use Rattle.header_blocks.specs.declared.gather.Decoded.TheVariants.{Fields, TooLarge}

-- The first octets, so many, are a maximum.
pub record TakesMaximum (octets : List ℕ) (maximum used : ℕ) : Type 0 where
  pub some : 0 < used
  pub within : used ≤ length octets
  pub is_maximum : IsNewMaximum (take used octets) maximum

-- The first octets, so many, are maxima, which lead from one table to another.
pub record TakesMaxima (old : Table) (block : List ℕ) (used : ℕ) (new : Table) : Type 0 where
  pub within : used ≤ length block
  pub maxima : List ℕ
  pub are_maxima : AreMaxima old (take used block) maxima new

-- A field is inserted, where it is to be, and gathered.
pub record Settles (taken : TakenField) (old new : Table) (kept : List Field) (room : Option ℕ) (more : List Field) (rest : Option ℕ) : Type 0 where
  pub table : new ≡ (if taken.inserts then added taken.field old else old)
  pub gathered : (cap : ℕ) (all : List Field) → Holds cap all kept room → Holds cap (all ++ taken.field ∷ []) more rest

-- The octets are a block whose fields are all gathered, and lead from one table to another.
pub record GathersFrom (first : Table) (octets : List ℕ) (cap : ℕ) (kept : List Field) (room : Option ℕ) (now : Table) : Type 0 where
  pub maxima : List ℕ
  pub all : List Field
  pub is_block : IsBlock first octets maxima all now
  pub holds : Holds cap all kept room

-- The block has these fields, whose sizes sum to at most the maximum.
pub record HasFieldsFrom (table : Table) (block : List ℕ) (cap : ℕ) (next : Table) (fields : List Field) : Type 0 where
  pub is_block : Block table block fields next
  pub fits : total_size fields ≤ cap

-- The block has fields whose sizes pass the maximum.
pub record PassesCapFrom (table : Table) (block : List ℕ) (cap : ℕ) (next : Table) : Type 0 where
  pub fields : List Field
  pub is_block : Block table block fields next
  pub over : cap < total_size fields

-- what an answer says of a block
abbrev pub DecodesFrom : Table → List ℕ → ℕ → Table → Decoded → Type 0
DecodesFrom table block cap next (Fields fields) = HasFieldsFrom table block cap next fields.items
DecodesFrom table block cap next TooLarge = PassesCapFrom table block cap next
