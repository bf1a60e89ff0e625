-- What is kept of the header tables of both directions, and the moves: the entries of the tape, each with what was decided there.
use Rattle.std.specs.Prelude.{ℕ, Bool, true, false, not, ◌&&◌, ◌||◌, if◌then◌else◌, List, [], ◌∷◌, Option, Some, None, unwrap_or}
use Rattle.std.specs.List.{last_or}
use Rattle.model.specs.Frames.{Frame}
use Rattle.model.specs.Tables.{Table, first_table}
use Rattle.model.specs.Limits.{first_maximum}
use Rattle.model.specs.Setup.{Policy}
use Rattle.model.specs.Setup.Policy.{Plain, Indexing}
use Rattle.model.specs.Logs.{Event, Act}
use Rattle.model.specs.Tapes.{Noted, Breach, Entry}
use Rattle.model.specs.Tapes.Entry.{Came, Breached, Happened, Sent, Did}
use Rattle.model.specs.Decoding.{Partial, is_read}
use Rattle.model.specs.SettingValues.{settings_in, header_table_size, values_of}
use Rattle.header_blocks.specs.Encoding.{Encoding, first_encoding, limits_with}
use Rattle.header_blocks.specs.declared.limits.Limits.{Limits}
use Rattle.theory_errors.specs.Judging.{completed_in}

-- What is kept of both directions.
pub record State : Type 0 where
  -- the table of the client's blocks
  pub decoding : Table
  -- a block wasn't read, and of one that wasn't the frame was in order: memory was refused
  pub unread : Bool
  pub lost : Bool
  -- what the encoder keeps
  pub encoding : Encoding
  -- the greatest table that the client allows now
  pub limit : ℕ

-- What the book of `theory_errors` says of a frame of the client: whether it is an error of the connection before a header block of it is
-- read, whether it has settings that are taken, and the header block that it completes.
pub record Verdict : Type 0 where
  pub is_error : Bool
  pub is_taken : Bool
  pub block : Option Partial

-- A move: an entry of the tape, with the table that is left by the block that the frame completes, if it does. Of a frame to the
-- client the book says which block was begun before it.
pub data Move : Type 0 where
  Takes : (noted : Noted) → (verdict : Verdict) → (next : Table) → Move
  Sends : (noted : Noted) → (before : Option Partial) → (next : Table) → Move
  Breaks : (breach : Breach) → Move
  Hears : (event : Event) → Move
  Acts : (act : Act) → Move

-- what a move is on the tape
abbrev pub entry_of : Move → Entry
entry_of (Takes noted verdict next) = Came noted
entry_of (Sends noted before next) = Sent noted
entry_of (Breaks breach) = Breached breach
entry_of (Hears event) = Happened event
entry_of (Acts act) = Did act

-- ---- what is kept behind a move

-- the limits of the table that a frame of the client names, in their order
abbrev pub named_by : Verdict → Frame → List ℕ
named_by verdict frame = if verdict.is_taken then values_of header_table_size (settings_in frame.payload) else []

-- what is kept of limits behind more of them
abbrev pub limits_and : Option Limits → List ℕ → Option Limits
limits_and before [] = before
limits_and before (limit ∷ named) = limits_and (Some (limits_with before limit)) named

-- the limit that holds behind more of them
abbrev pub limit_and : ℕ → List ℕ → ℕ
limit_and before named = unwrap_or (last_or None named) before

-- a table changes with a whole block
abbrev pub table_after : Option Partial → Table → Table → Table
table_after None next table = table
table_after (Some block) next table = next

-- an encoder too, and then it keeps no limits
abbrev pub encoding_after : Option Partial → Table → Encoding → Encoding
encoding_after None next encoding = encoding
encoding_after (Some block) next encoding = record encoding { table = next; limits = None }

-- behind a frame of the client
abbrev pub taken : State → Noted → Verdict → Table → State
taken s noted verdict next = record {
  decoding = table_after verdict.block next s.decoding;
  unread = s.unread || not (is_read noted.note);
  lost = s.lost || not (is_read noted.note) && not verdict.is_error;
  encoding = record s.encoding { limits = limits_and s.encoding.limits (named_by verdict noted.frame) };
  limit = limit_and s.limit (named_by verdict noted.frame);
}

-- behind a frame to the client
abbrev pub given : State → Noted → Option Partial → Table → State
given s noted before next = record s { encoding = encoding_after (completed_in before noted.frame) next s.encoding }

-- the state behind a move
abbrev pub after : State → Move → State
after s (Takes noted verdict next) = taken s noted verdict next
after s (Sends noted before next) = given s noted before next
after s _ = s

-- ---- the state is a fold of the moves

-- whether blocks are written with fields in the table
abbrev pub inserts : Policy → Bool
inserts Plain = false
inserts Indexing = true

-- before the first entry
abbrev pub start : Policy → State
start policy = record {
  decoding = first_table;
  unread = false;
  lost = false;
  encoding = first_encoding (inserts policy);
  limit = first_maximum;
}

-- the state behind all moves, the newest first
abbrev pub state_of : Policy → List Move → State
state_of policy [] = start policy
state_of policy (m ∷ moves) = after (state_of policy moves) m

-- the entries of moves
abbrev pub tape_of : List Move → List Entry
tape_of [] = []
tape_of (m ∷ moves) = entry_of m ∷ tape_of moves
