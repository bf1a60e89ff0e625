-- The summary of a tape: all that the error table, the clause on errors and the end of the connection need of it. Each field is
-- a search of the model's over the tape; what a program keeps for it is a value of the same type.
use Rattle.std.specs.Prelude.{ℕ, Bool, List, length, Option, is_some, ℤ}
use Rattle.std.specs.List.{list_any}
use Rattle.model.specs.Http2.{body_of}
use Rattle.model.specs.Malformed.{Carried, declared, is_begun}
use Rattle.model.specs.Causes.{Cause}
use Rattle.model.specs.Tapes.{Entry, came, sent, is_closed}
use Rattle.model.specs.Admission.{untaken}
use Rattle.model.specs.Errors.{has_come}
use Rattle.model.specs.Available.{items_on}
use Rattle.model.specs.Decoding.{Partial, begun}
use Rattle.model.specs.Known.{Known}
use Rattle.model.specs.Setup.{own_window}
use Rattle.model.specs.Openings.{Opened, exchanges, last_stream}
use Rattle.model.specs.Lifetimes.{is_drained, opened, is_ended_by_client, is_ended_by_gateway, is_reset_by_client, is_reset_by_gateway, resets_by_client}
use Rattle.model.specs.FrameErrors.{last_continuations}
use Rattle.model.specs.WindowsOnTape.{balance_on, first_size, connection_window, back_on, room_on_connection}
use Rattle.model.specs.Courses.{Course, course, is_final}
use Rattle.model.specs.ErrorClause.{calls_for_end}

-- What is needed of the course of a stream.
pub record Outline : Type 0 where
  -- an item came, what the head declares of the body, and how many octets of the body came
  pub begun : Bool
  pub declared : Option ℕ
  pub octets : ℕ
  -- the items are over, why the gateway answers the stream itself, and whether a final head was out then
  pub over : Bool
  pub cause : Option Cause
  pub head_out : Bool

-- what the stream carried, as far as it is looked at when more comes
abbrev pub carried_in : Outline → Carried
carried_in outline = record { begun = outline.begun; declared = outline.declared; octets = outline.octets; waits = is_some outline.cause }

-- What a tape leaves of a stream.
pub record Stream : Type 0 where
  -- who ended it, and who reset it
  pub ended_by_client : Bool
  pub ended_by_gateway : Bool
  pub reset_by_client : Bool
  pub reset_by_gateway : Bool
  -- what was granted to it without what was sent: its sending window less the first size that holds for all streams
  pub balance : ℤ
  -- what was given back on it without what came: its receiving window less the size with which all such windows begin
  pub room : ℤ
  -- the final head of a response was sent
  pub head_out : Bool
  -- what is needed of its items and of its cause
  pub outline : Outline

-- What a tape leaves of the whole connection.
pub record Summary : Type 0 where
  -- a frame came
  pub has_come : Bool
  -- the header block of the client that isn't complete, and how many CONTINUATION frames the last ones are
  pub block : Option Partial
  pub continuations : ℕ
  -- the header block to the client that isn't complete
  pub block_out : Option Partial
  -- the first size of streams' sending windows, and of their receiving windows
  pub first_size : ℕ
  pub own : ℕ
  -- the connection's windows, in which it sends and in which it receives
  pub window : ℤ
  pub room : ℤ
  -- the operator asked for the end of the connection
  pub drained : Bool
  -- the streams that were opened, the newest first, and what is left of each
  pub opened : List ℕ
  pub stream : ℕ → Stream
  -- how many active streams the client reset
  pub resets : ℕ
  -- the exchanges on upstream connections, and the stream of the last frame, to which a connection is given next
  pub given : List Opened
  pub last : ℕ
  -- the last that came in calls for the end, or a GOAWAY went in place of another frame
  pub ends : Bool
  pub closed : Bool
  -- the octets for the client that its side hasn't taken
  pub untaken : ℕ

-- what is needed of a course
abbrev pub outline_of : Course → Outline
outline_of course = record {
  begun = is_begun course.items;
  declared = declared course.items;
  octets = length (body_of course.items);
  over = course.over;
  cause = course.cause;
  head_out = course.head_out;
}

-- what a tape leaves of a stream
abbrev pub stream_of : Known → List Entry → ℕ → Stream
stream_of known t id = record {
  ended_by_client = is_ended_by_client id t;
  ended_by_gateway = is_ended_by_gateway id t;
  reset_by_client = is_reset_by_client id t;
  reset_by_gateway = is_reset_by_gateway id t;
  balance = balance_on id t;
  room = back_on id t;
  head_out = list_any is_final (items_on id (sent t));
  outline = outline_of (course known id t);
}

-- the summary of a tape
abbrev pub summary_of : Known → List Entry → Summary
summary_of known t = record {
  has_come = has_come (came t);
  block = begun (came t);
  continuations = last_continuations (came t);
  block_out = begun (sent t);
  first_size = first_size t;
  own = own_window known.setup;
  window = connection_window t;
  room = room_on_connection t;
  drained = is_drained t;
  opened = opened t;
  stream = stream_of known t;
  resets = resets_by_client t;
  given = exchanges t;
  last = last_stream t;
  ends = calls_for_end known t;
  closed = is_closed t;
  untaken = untaken t;
}
