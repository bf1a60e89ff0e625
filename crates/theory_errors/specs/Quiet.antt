-- Frames by what they change: those that change no stream and no window, on each side.
use Rattle.std.specs.Prelude.{◌≡◌, true, false, ◌==◌, ◌||◌, length, ◌+◌, None}
use Rattle.model.specs.Frames.{Frame, data_kind, headers_kind, rst_stream_kind, window_update_kind, continuation_kind, spell}
use Rattle.model.specs.Tapes.{Noted, Entry}
use Rattle.model.specs.Tapes.Note.{NoBlock}
use Rattle.model.specs.Tapes.Entry.{Came, Sent}
use Rattle.model.specs.Payloads.{payload_fault}
use Rattle.model.specs.FrameErrors.{is_misplaced}
use Rattle.model.specs.ErrorClause.{is_calming}
use Rattle.model.specs.WindowsOnTape.{has_settings}
use Rattle.theory_errors.specs.Summary.{Summary}
use Rattle.theory_errors.specs.Rule.{Move}
use Rattle.theory_errors.specs.Book.{Book}

-- a frame that completes no header block, as it comes and as it is sent
abbrev pub noted_of : Frame → Noted
noted_of frame = record { frame = frame; note = NoBlock }

abbrev pub coming : Frame → Entry
coming frame = Came (noted_of frame)

abbrev pub sending : Frame → Entry
sending frame = Sent (noted_of frame)

-- the move by which it is sent
abbrev pub sends : Frame → Move
sends frame = record { entry = sending frame; fails = false }

-- The frame is of no stream's message, resets no stream and grants nothing: settings, PING, GOAWAY, and what isn't known.
pub record IsControl (frame : Frame) : Type 0 where
  pub no_data : (frame.kind == data_kind) ≡ false
  pub no_headers : (frame.kind == headers_kind) ≡ false
  pub no_reset : (frame.kind == rst_stream_kind) ≡ false
  pub no_update : (frame.kind == window_update_kind) ≡ false
  pub no_continuation : (frame.kind == continuation_kind) ≡ false

-- Nor has it settings: it changes no stream, no window and no setting.
pub record IsQuiet (frame : Frame) : Type 0 where
  pub control : IsControl frame
  pub no_settings : has_settings frame ≡ false

-- A frame that comes in order: another came before it, no block is begun, and nothing is wrong with it alone.
pub record IsInOrder (s : Summary) (frame : Frame) : Type 0 where
  pub came : s.has_come ≡ true
  pub no_block : s.block ≡ None
  pub placed : is_misplaced frame ≡ false
  pub sized : payload_fault frame ≡ None

-- the book behind a quiet frame: a frame came, and on which stream
abbrev pub heard : Book → Frame → Book
heard book frame = record book { has_come = true; continuations = 0; last = frame.id; ends = false }

-- the book behind a control frame that is sent: its octets are untaken, and where it asks the client to be calm the connection is to end
abbrev pub paid_of : Book → Frame → Book
paid_of book frame = record book { untaken = book.untaken + length (spell frame); ends = is_calming frame || book.ends }
