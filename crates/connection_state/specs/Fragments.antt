-- What an answer says of a frame with a fragment of a header block, HEADERS or CONTINUATION (RFC 9113, sections 6.2 and 6.10), by what is noted of the block.
use Rattle.std.specs.Prelude.{◌≡◌, ◌⊎◌, ℕ, Bool, true, false, ◌==◌, List, Some, None}
use Rattle.model.specs.Messages.{Field}
use Rattle.model.specs.Tapes.{Note}
use Rattle.model.specs.Tapes.Note.{Fields, Undecodable}
use Rattle.model.specs.Tables.{Table}
use Rattle.model.specs.Decoding.{Partial, is_read}
use Rattle.model.specs.Errors as errors
use Rattle.model.specs.Errors.{first_of}
use Rattle.theory_errors.specs.Judging.{completed_in, continuations_in, frame_rows_in}
use Rattle.theory_errors.specs.Owing.{fault_in}
use Rattle.theory_errors.specs.Rows.{find}
use Rattle.theory_errors.specs.Book.{summary_in}
use Rattle.theory_header_tables.specs.Rule.{IsNoted}
use Rattle.theory_header_tables.specs.Verdicts.{verdict_in}
use Rattle.header_blocks.specs.declared.fault.DecodeFault.{DecodeFault}
use Rattle.header_blocks.specs.declared.fault.DecodeFault.TheVariants.{Memory}
use Rattle.connection_state.specs.declared.answers.FrameError.TheVariants as fault
use Rattle.connection_state.specs.Inbound.{Inbound, Outside, book_of, told_of}
use Rattle.connection_state.specs.Judgement.{fault_told}
use Rattle.connection_state.specs.Blocks.{SaysOf}
use Rattle.connection_state.specs.declared.answers.BlockJudged.{BlockJudged}
use Rattle.connection_state.specs.declared.answers.BlockJudged.TheVariants as judged
use Rattle.model.specs.Frames.{Frame, headers_kind, continuation_kind, data_kind, rst_stream_kind, settings_kind, window_update_kind}
use Rattle.model.specs.Setup.{Setup}
use Rattle.model.specs.Tapes.{Noted}
use Rattle.model.specs.Tapes.Entry.{Came}
use Rattle.model.specs.ErrorClause.{rst_stream}
use Rattle.theory_errors.specs.Quiet.{sending}
use Rattle.theory_errors.specs.Book.{Book, book_after}

-- The frame is of no other type that a row of the error table asks for.
pub record IsFragment (frame : Frame) : Type 0 where
  pub no_data : (frame.kind == data_kind) ≡ false
  pub no_reset : (frame.kind == rst_stream_kind) ≡ false
  pub no_update : (frame.kind == window_update_kind) ≡ false
  pub no_settings : (frame.kind == settings_kind) ≡ false

-- the book behind a frame as it is noted
abbrev pub noted_behind : Setup → Book → Noted → Book
noted_behind setup book noted = book_after setup false book (Came noted)

-- The book behind a frame that is an error of its stream, and behind the reset that it calls for; the octets of that are counted
-- where they are put out.
abbrev pub noted_reset : Setup → Book → Noted → ℕ → Book
noted_reset setup book noted code =
    record (book_after setup false (noted_behind setup book noted) (sending (rst_stream noted.frame.id code))) { untaken = book.untaken }

-- The book that a frame with this fault leaves. Behind an error of the connection, with which the connection ends, the streams are as
-- before: the GOAWAY names the highest.
abbrev pub IsNotedLeft : Setup → Book → Noted → errors.Fault → Book → Type 0
IsNotedLeft setup old noted (errors.Fault.Connection code) new = new.rows ≡ old.rows
IsNotedLeft setup old noted (errors.Fault.Stream code) new = new ≡ noted_reset setup old noted code
IsNotedLeft setup old noted errors.Fault.Discarded new = new ≡ noted_behind setup old noted

-- What an answer says of a frame beside that it has no fault.
abbrev pub SaysOfNoted : Setup → Book → Noted → BlockJudged → Type 0
SaysOfNoted setup old noted judged.GoesOn = completed_in old.block noted.frame ≡ None
SaysOfNoted setup old noted answer =
    (block : Partial) × (fields : List Field) × (completed_in old.block noted.frame ≡ Some block) × (noted.note ≡ Fields fields)
    × SaysOf setup (find old.rows noted.frame.id).outline fields block.ends answer

-- The frame has this fault: the first row of the error table that applies.
pub record IsNotedFailed (setup : Setup) (old : Book) (noted : Noted) (new : Book) (fault : errors.Fault) : Type 0 where
  pub is : fault_in (summary_in old) (Came noted) ≡ Some fault
  pub left : IsNotedLeft setup old noted fault new

-- The frame has no fault, and this is the book behind it.
pub record IsNotedTaken (setup : Setup) (old : Book) (noted : Noted) (new : Book) (answer : BlockJudged) : Type 0 where
  pub faultless : fault_in (summary_in old) (Came noted) ≡ None
  pub left : new ≡ noted_behind setup old noted
  pub says : SaysOfNoted setup old noted answer

-- The answer is right of the frame, and this is the book that it leaves.
abbrev pub IsNotedJudged : Setup → Book → Noted → Book → BlockJudged → Type 0
IsNotedJudged setup old noted new (judged.Failed fault) = IsNotedFailed setup old noted new (fault_told fault)
IsNotedJudged setup old noted new answer = IsNotedTaken setup old noted new answer

-- The table that a block leaves is kept, unless the connection ends with an error.
abbrev pub IsTableLeft : Table → BlockJudged → Table → Type 0
IsTableLeft next (judged.Failed (fault.Connection code)) new = Unit {0}
IsTableLeft next answer new = new ≡ next

-- The answer is right of a frame, with what the decoder notes of the block that it completes, if it does, and the table that this leaves.
pub record IsFragmentJudged (setup : Setup) (outside : Outside) (old : Inbound) (frame : Frame) (new : Inbound) (answer : BlockJudged) : Type 0 where
  pub note : Note
  pub next : Table
  pub is_noted : IsNoted (completed_in old.block frame) (verdict_in (told_of outside old) frame).is_error old.table note next
  -- a frame that completes none leaves the table
  pub stays : completed_in old.block frame ≡ None → next ≡ old.table
  -- a block was read, unless the frame is an error before that
  pub read : is_read note ≡ false → (verdict_in (told_of outside old) frame).is_error ≡ true
  pub table : IsTableLeft next answer new.table
  pub judged : IsNotedJudged setup (book_of outside old) (record { frame = frame; note = note }) (book_of outside new) answer

-- A frame completes this block, and what is kept now is what was kept before it but for the begun block and the count of CONTINUATION frames.
pub record Completes (before now : Inbound) (frame : Frame) (block : Partial) : Type 0 where
  pub of : IsFragment frame
  pub is_block : completed_in before.block frame ≡ Some block
  pub sound : (outside : Outside) → first_of (frame_rows_in (told_of outside before) frame) ≡ None
  pub same : now ≡ record before { block = None; continuations = continuations_in before.continuations frame }

-- Octets are no header block by a table.
abbrev pub IsUndecodable : Table → List ℕ → Type 0
IsUndecodable table octets = (block : Partial) → block.fragments ≡ octets → IsNoted (Some block) false table Undecodable table

-- The frame has a fragment of a header block.
abbrev pub IsOfBlock : Frame → Type 0
IsOfBlock frame = (frame.kind ≡ headers_kind) ⊎ (frame.kind ≡ continuation_kind)

-- the fault says that memory was refused
abbrev pub is_memory : DecodeFault → Bool
is_memory Memory = true
is_memory fault = false
