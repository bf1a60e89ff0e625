-- Header blocks in the order of the wire, read over the one table of their direction (RFC 9113, section 4.3).
use Rattle.std.specs.Prelude.{◌≡◌, ℕ, Bool, true, false, ◌&&◌, ◌==◌, if◌then◌else◌, List, [], ◌∷◌, ◌++◌, Option, Some, None}
use Rattle.model.specs.Frames.{Frame, headers_kind, continuation_kind, ends_headers, ends_stream, content}
use Rattle.model.specs.Tables.{Table, first_table}
use Rattle.model.specs.Blocks as blocks
use Rattle.model.specs.Tapes.{Note, Noted}
use Rattle.model.specs.Tapes.Note.{NoBlock, Fields, Undecodable, Unread}

-- A header block as far as its frames are there (RFC 9113, section 4.3).
pub record Partial : Type 0 where
  pub id : ℕ
  -- whether its HEADERS has END_STREAM
  pub ends : Bool
  pub fragments : List ℕ

-- the block that a frame begins, or goes on with on the same stream, behind what was begun before it
abbrev pub joined : Option Partial → Frame → Option Partial
joined (Some begun) frame =
    if frame.kind == continuation_kind && frame.id == begun.id
    then Some (record { id = begun.id; ends = begun.ends; fragments = begun.fragments ++ content frame })
    else None
joined None frame =
    if frame.kind == headers_kind
    then Some (record { id = frame.id; ends = ends_stream frame; fragments = content frame })
    else None

-- the block that was begun and isn't complete, the newest frame first
abbrev pub begun : List Noted → Option Partial
begun [] = None
begun (noted ∷ before) = if ends_headers noted.frame then None else joined (begun before) noted.frame

-- the block that a frame completes
abbrev pub completed : List Noted → Frame → Option Partial
completed before frame = if ends_headers frame then joined (begun before) frame else None

-- The note is right for a block, from this table to that one. Behind a block that isn't read nothing comes any more.
abbrev pub IsNoteOf : Option Partial → Table → Note → Table → Type 0
IsNoteOf None table note table' = (note ≡ NoBlock) × (table' ≡ table)
IsNoteOf (Some block) table NoBlock table' = ⊥
IsNoteOf (Some block) table (Fields fields) table' = blocks.Block table block.fragments fields table'
IsNoteOf (Some block) table Undecodable table' = blocks.NoBlock table block.fragments × (table' ≡ table)
IsNoteOf (Some block) table Unread table' = table' ≡ table

-- the block was read
abbrev pub is_read : Note → Bool
is_read Unread = false
is_read _ = true

-- each block was read
abbrev pub are_read : List Noted → Bool
are_read [] = true
are_read (noted ∷ before) = is_read noted.note && are_read before

-- Each frame's note is right, where the blocks are read one after the other from the first table of the direction,
-- whatever stream they belong to; they leave this table.
abbrev pub Decodes : List Noted → Table → Type 0
Decodes [] table = table ≡ first_table
Decodes (noted ∷ before) table =
    (old : Table) × Decodes before old × IsNoteOf (completed before noted.frame) old noted.note table × (are_read before ≡ true)
