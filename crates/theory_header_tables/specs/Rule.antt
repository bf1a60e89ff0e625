-- Which move may come, by what is kept. No tape is named here.
use Rattle.std.specs.Prelude.{◌≡◌, Bool, true, false, List, [], ◌∷◌, Option, Some, None}
use Rattle.model.specs.Messages.{Field}
use Rattle.model.specs.Tables.{Table}
use Rattle.model.specs.Setup.{Policy}
use Rattle.model.specs.Tapes.{Note, Noted}
use Rattle.model.specs.Tapes.Note.{NoBlock, Fields, Unread}
use Rattle.model.specs.Decoding.{Partial, IsNoteOf}
use Rattle.model.specs.FrameErrors.{is_between}
use Rattle.header_blocks.specs.Encoding.{Encoding}
use Rattle.header_blocks.specs.Encodes.{IsWrittenBy}
use Rattle.theory_errors.specs.Judging.{completed_in}
use Rattle.theory_header_tables.specs.State.{State, Verdict, Move, state_of}
use Rattle.theory_header_tables.specs.State.Move.{Takes, Sends}

-- ---- frames of the client

-- What is noted of a frame: of no block nothing; a block is left unread where its frame is an error before; any other is noted
-- as the decoder answers, whatever its stream is, and left unread where memory is refused.
abbrev pub IsNoted : Option Partial → Bool → Table → Note → Table → Type 0
IsNoted None is_error table note next = note ≡ NoBlock
IsNoted (Some block) true table note next = (note ≡ Unread) × (next ≡ table)
IsNoted (Some block) false table note next = IsNoteOf (Some block) table note next

-- What is asked of a frame of the client beside its turn: its note is right.
pub record IsTaken (s : State) (noted : Noted) (verdict : Verdict) (next : Table) : Type 0 where
  pub is_noted : IsNoted verdict.block verdict.is_error s.decoding noted.note next

-- A frame of the client may come: every block before it was read, and it is such a frame.
pub record MayTake (s : State) (noted : Noted) (verdict : Verdict) (next : Table) : Type 0 where
  pub all_read : s.unread ≡ false
  pub is_taken : IsTaken s noted verdict next

-- ---- frames to the client

-- The octets are a block as the encoder writes it, which leaves it with this table; the note has its fields.
pub record IsEncoded (encoding : Encoding) (block : Partial) (note : Note) (next : Table) : Type 0 where
  pub fields : List Field
  pub is_noted : note ≡ Fields fields
  pub encodes : IsWrittenBy encoding fields next block.fragments

-- What is noted of a frame that is sent: of no block nothing, and of a whole one its fields.
abbrev pub IsGiven : Option Partial → Encoding → Note → Table → Type 0
IsGiven None encoding note next = note ≡ NoBlock
IsGiven (Some block) encoding note next = IsEncoded encoding block note next

-- A frame may be sent: inside a block CONTINUATION of its stream alone, and a whole block is as the encoder writes it.
pub record MayGive (s : State) (noted : Noted) (before : Option Partial) (next : Table) : Type 0 where
  pub together : is_between before noted.frame ≡ false
  pub is_given : IsGiven (completed_in before noted.frame) s.encoding noted.note next

-- ---- moves

-- The move may come.
abbrev pub MayCome : State → Move → Type 0
MayCome s (Takes noted verdict next) = MayTake s noted verdict next
MayCome s (Sends noted before next) = MayGive s noted before next
MayCome s _ = Unit {0}

-- Each move, the newest first, might come where it came.
abbrev pub AllCame : Policy → List Move → Type 0
AllCame policy [] = Unit {0}
AllCame policy (m ∷ moves) = AllCame policy moves × MayCome (state_of policy moves) m

-- ---- the same, where others see to it that nothing comes behind an error of the connection

-- The move may come in its turn.
abbrev pub IsFit : State → Move → Type 0
IsFit s (Takes noted verdict next) = IsTaken s noted verdict next
IsFit s m = MayCome s m

-- Each move is fit where it came.
abbrev pub AllFit : Policy → List Move → Type 0
AllFit policy [] = Unit {0}
AllFit policy (m ∷ moves) = AllFit policy moves × IsFit (state_of policy moves) m
