-- What the answers of a decoder say to the rule. A joiner is seen as the block that was begun itself.
use Rattle.std.specs.Prelude.{◌≡◌, ℕ, ◌<◌, ◌≤◌, false, List, Some}
use Rattle.model.specs.Messages.{Field}
use Rattle.model.specs.Tables.{Table, total_size}
use Rattle.model.specs.Tapes.{Note}
use Rattle.model.specs.Tapes.Note.{Fields, Undecodable, Unread}
use Rattle.model.specs.Decoding.{Partial}
use Rattle.header_blocks.specs.declared.gather.Decoded.{Decoded}
use Rattle.header_blocks.specs.declared.gather.Decoded.TheVariants.{Fields as Fits, TooLarge}
use Rattle.header_blocks.specs.declared.fault.DecodeFault.{DecodeFault}
use Rattle.header_blocks.specs.declared.fault.DecodeFault.TheVariants.{Memory}
use Rattle.theory_header_tables.specs.Rule.{IsNoted}

-- The note of a block that was decoded has its fields, the ones that were answered where they fit.
abbrev pub IsNoteFor : ℕ → Decoded → List Field → Type 0
IsNoteFor cap (Fits fields) noted = (noted ≡ fields.items) × (total_size noted ≤ cap)
IsNoteFor cap TooLarge noted = cap < total_size noted

-- A block of these octets is noted with fields, by what was answered, and leaves this table.
pub record IsReadAs (table : Table) (octets : List ℕ) (cap : ℕ) (decoded : Decoded) (next : Table) : Type 0 where
  pub fields : List Field
  pub of_answer : IsNoteFor cap decoded fields
  pub is_noted : (block : Partial) → block.fragments ≡ octets → IsNoted (Some block) false table (Fields fields) next

-- the note of a block that wasn't: it can't be decoded, or memory was refused
abbrev pub note_of : DecodeFault → Note
note_of Memory = Unread
note_of fault = Undecodable

-- A block of these octets is noted by its fault, and leaves the table as it was.
pub record IsUnreadAs (table : Table) (octets : List ℕ) (fault : DecodeFault) : Type 0 where
  pub is_noted : (block : Partial) → block.fragments ≡ octets → IsNoted (Some block) false table (note_of fault) table
