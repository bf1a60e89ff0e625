-- What an answer says of a frame of the client that has no fragment of a header block.
use Rattle.std.specs.Prelude.{◌≡◌, ℕ, Bool, true, false, not, ◌&&◌, ◌||◌, ◌==◌, List, Option, Some, None}
use Rattle.model.specs.Frames.{Frame, data_kind, headers_kind, rst_stream_kind, ping_kind, window_update_kind, continuation_kind, is_ack, ends_stream, content}
use Rattle.model.specs.Setup.{Setup}
use Rattle.model.specs.SettingValues.{settings_in}
use Rattle.model.specs.WindowsOnTape.{has_settings}
use Rattle.model.specs.Errors as errors
use Rattle.model.specs.ErrorClause.{rst_stream}
use Rattle.model.specs.Causes.{Cause}
use Rattle.theory_errors.specs.Owing.{fault_in, next_outline}
use Rattle.theory_errors.specs.Rows.{find}
use Rattle.theory_errors.specs.Quiet.{coming, sending}
use Rattle.theory_errors.specs.Book.{Book, summary_in, book_after}
use Rattle.settings.specs.Views.{IsChange}
use Rattle.connection_state.specs.declared.answers.FrameError.{FrameError}
use Rattle.connection_state.specs.declared.answers.FrameError.TheVariants as fault
use Rattle.connection_state.specs.declared.answers.Judged.{Judged}
use Rattle.connection_state.specs.declared.answers.Judged.TheVariants as judged

-- a fault, in words of the model
abbrev pub fault_told : FrameError → errors.Fault
fault_told (fault.Connection code) = errors.Fault.Connection code
fault_told (fault.Stream code) = errors.Fault.Stream code
fault_told fault.Discarded = errors.Fault.Discarded

-- The frame has no fragment of a header block.
pub record IsPlain (frame : Frame) : Type 0 where
  pub no_headers : (frame.kind == headers_kind) ≡ false
  pub no_continuation : (frame.kind == continuation_kind) ≡ false

-- a WINDOW_UPDATE (RFC 9113, section 6.9)
abbrev pub update : ℕ → ℕ → List ℕ → Frame
update flags id payload = record { kind = window_update_kind; flags = flags; id = id; payload = payload }

-- a DATA (RFC 9113, section 6.1)
abbrev pub data_frame : ℕ → ℕ → List ℕ → Frame
data_frame flags id payload = record { kind = data_kind; flags = flags; id = id; payload = payload }

-- a RST_STREAM (RFC 9113, section 6.4)
abbrev pub reset : ℕ → ℕ → List ℕ → Frame
reset flags id payload = record { kind = rst_stream_kind; flags = flags; id = id; payload = payload }

-- the fault is one of the stream
abbrev pub is_of_stream : Option errors.Fault → Bool
is_of_stream (Some (errors.Fault.Stream code)) = true
is_of_stream _ = false

-- the book behind a frame
abbrev pub behind : Setup → Book → Frame → Book
behind setup book frame = book_after setup false book (coming frame)

-- The book behind a frame that is an error of its stream, and behind the reset that it calls for; the octets of that are counted
-- where they are put out.
abbrev pub reset_behind : Setup → Book → Frame → ℕ → Book
reset_behind setup book frame code =
    record (book_after setup false (behind setup book frame) (sending (rst_stream frame.id code))) { untaken = book.untaken }

-- The book that a frame with this fault leaves. An error of the connection changes nothing, since the connection ends with it.
abbrev pub IsLeft : Setup → Book → Frame → errors.Fault → Book → Type 0
IsLeft setup old frame (errors.Fault.Connection code) new = new ≡ old
IsLeft setup old frame (errors.Fault.Stream code) new = new ≡ reset_behind setup old frame code
IsLeft setup old frame errors.Fault.Discarded new = new ≡ behind setup old frame

-- the types that aren't answered: PRIORITY, GOAWAY, acknowledgements, and types that aren't known
abbrev pub is_ignored : Frame → Bool
is_ignored frame =
    not (frame.kind == data_kind || frame.kind == rst_stream_kind || frame.kind == window_update_kind || has_settings frame || frame.kind == ping_kind
    && not (is_ack frame))

-- why the gateway replies itself on the frame's stream before it and behind it, if it does
abbrev pub cause_before : Book → Frame → Option Cause
cause_before book frame = (find book.rows frame.id).outline.cause

abbrev pub cause_behind : Setup → Book → Frame → Option Cause
cause_behind setup book frame = (next_outline setup false frame.id (summary_in book) (coming frame)).cause

-- What an answer says of the frame beside that it has no fault; each answer is one to other frames, or to DATA
-- with another cause behind it.
abbrev pub Says : Setup → Book → Frame → Book → Judged → Type 0
Says setup old frame new (judged.Failed fault) = ⊥
Says setup old frame new judged.Ignored = is_ignored frame ≡ true
Says setup old frame new (judged.Settings change) =
    (has_settings frame ≡ true) × IsChange old.first_size new.first_size (settings_in frame.payload) change
Says setup old frame new (judged.Ping octets) = (frame.kind ≡ ping_kind) × (is_ack frame ≡ false) × (octets.now ≡ frame.payload)
Says setup old frame new judged.Granted = frame.kind ≡ window_update_kind
Says setup old frame new judged.Reset = frame.kind ≡ rst_stream_kind
Says setup old frame new (judged.Content octets ends) =
    (frame.kind ≡ data_kind) × (octets.now ≡ content frame) × (ends ≡ ends_stream frame) × (cause_behind setup old frame ≡ cause_before old frame)
Says setup old frame new judged.LargeBody =
    (frame.kind ≡ data_kind) × (cause_before old frame ≡ None) × (cause_behind setup old frame ≡ Some Cause.LargeBody)

-- The frame has no fault, and this is the book behind it.
pub record IsTaken (setup : Setup) (old : Book) (frame : Frame) (new : Book) (answer : Judged) : Type 0 where
  pub faultless : fault_in (summary_in old) (coming frame) ≡ None
  pub left : new ≡ behind setup old frame
  pub says : Says setup old frame new answer

-- The frame has this fault: the first row of the error table that applies.
pub record IsFailed (setup : Setup) (old : Book) (frame : Frame) (new : Book) (fault : errors.Fault) : Type 0 where
  pub is : fault_in (summary_in old) (coming frame) ≡ Some fault
  pub left : IsLeft setup old frame fault new

-- The answer is right of the frame, and this is the book that it leaves.
abbrev pub IsJudged : Setup → Book → Frame → Book → Judged → Type 0
IsJudged setup old frame new (judged.Failed fault) = IsFailed setup old frame new (fault_told fault)
IsJudged setup old frame new answer = IsTaken setup old frame new answer
