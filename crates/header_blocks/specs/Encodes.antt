-- What an encoder writes.
use Rattle.std.specs.Prelude.{◌≡◌, ℕ, Bool, List, ◌++◌}
use Rattle.model.specs.Messages.{Field}
use Rattle.model.specs.Tables.{Table}
use Rattle.model.specs.Blocks.{IsRawString, IsLiteral, AreMaxima, IsBlock}
use Rattle.model.specs.Maxima.{Maxima}
use Rattle.header_blocks.specs.Encoding.{Encoding, StandsFor}
use Rattle.header_blocks.specs.Chosen.{AreChosenStrings, IsChosenString, IsChosen, AreChosen}

-- A raw string is added at the end.
pub record AddsRaw (string old new : List ℕ) : Type 0 where
  pub text : List ℕ
  pub added : new ≡ old ++ text
  pub is_raw : IsRawString text string

-- A string is added at the end.
pub record AddsString (compress : Bool) (string old new : List ℕ) : Type 0 where
  pub text : List ℕ
  pub added : new ≡ old ++ text
  pub chosen : IsChosenString compress text string

-- A literal is added at the end, with this name index.
pub record AddsLiteral (compress : Bool) (prefix mark : ℕ) (table : Table) (index : ℕ) (field : Field) (old new : List ℕ) : Type 0 where
  pub text : List ℕ
  pub added : new ≡ old ++ text
  pub literal : IsLiteral prefix mark table text field
  pub same : literal.index ≡ index
  pub strings : AreChosenStrings compress literal.index literal.name_octets literal.value_octets field

-- A field is added at the end.
pub record AddsField (indexing : Bool) (table : Table) (field : Field) (next : Table) (old new : List ℕ) : Type 0 where
  pub text : List ℕ
  pub added : new ≡ old ++ text
  pub chosen : IsChosen indexing table text field next

-- Fields are added at the end.
pub record AddsFields (indexing : Bool) (table : Table) (fields : List Field) (next : Table) (old new : List ℕ) : Type 0 where
  pub text : List ℕ
  pub added : new ≡ old ++ text
  pub chosen : AreChosen indexing table text fields next

-- Maxima are added at the end.
pub record AddsMaxima (table : Table) (maxima : List ℕ) (next : Table) (old new : List ℕ) : Type 0 where
  pub text : List ℕ
  pub added : new ≡ old ++ text
  pub are_maxima : AreMaxima table text maxima next

-- The octets are a block of the fields as the encoder writes it, which leaves this table. It begins with the maxima that the
-- limits since the block before make due, and each field is written as the policy says.
pub record IsWrittenBy (encoding : Encoding) (fields : List Field) (next : Table) (written : List ℕ) : Type 0 where
  pub maxima : List ℕ
  pub is_block : IsBlock encoding.table written maxima fields next
  pub due : (limits : List ℕ) → StandsFor limits encoding.limits → Maxima encoding.table.maximum limits maxima
  pub chosen : AreChosen encoding.indexing is_block.between is_block.rest fields next

-- Such a block is added at the end.
pub record Encodes (encoding : Encoding) (fields : List Field) (next : Table) (before after : List ℕ) : Type 0 where
  pub written : List ℕ
  pub added : after ≡ before ++ written
  pub is_written : IsWrittenBy encoding fields next written
