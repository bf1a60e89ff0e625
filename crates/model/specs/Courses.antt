-- What becomes of a stream: its items, and why the gateway answers it itself, if it does (RFC 9113, sections 5.1 and 8.1): a
-- search over the tape.
use Rattle.std.specs.Prelude.{ℕ, ◌+◌, Bool, false, ◌&&◌, ◌||◌, ◌==◌, nat_lt, if◌then◌else◌, List, [], ◌∷◌, ◌++◌}
use Rattle.std.specs.Prelude.{length, Option, Some, None, is_some, nat_le, codes}
use Rattle.std.specs.Str.Parse.{digits_value}
use Rattle.std.specs.List.{list_any}
use Rattle.model.specs.Messages.{Item, ends_with}
use Rattle.model.specs.Messages.Item.{Block, Content}
use Rattle.model.specs.Http1.{values_of}
use Rattle.model.specs.Http2.{first_of}
use Rattle.model.specs.ResponseHeads.{Head}
use Rattle.model.specs.Deliveries.{heads_in}
use Rattle.model.specs.Malformed.{Carried, carried_by}
use Rattle.model.specs.Frames.{data_kind, content}
use Rattle.model.specs.Logs.{Event}
use Rattle.model.specs.Logs.Event.{Up, UpEnd, UpFailed}
use Rattle.model.specs.Tapes.{Note, Noted, Entry, came, sent}
use Rattle.model.specs.Tapes.Note.{Fields}
use Rattle.model.specs.Tapes.Entry.{Came, Happened}
use Rattle.model.specs.Decoding.{Partial, completed}
use Rattle.model.specs.Errors.{Fault}
use Rattle.model.specs.Streams.{is_on, is_reset, is_ended_by, items_of}
use Rattle.model.specs.Openings.{exchanges, given}
use Rattle.model.specs.Available.{items_on}
use Rattle.model.specs.Setup.{Setup, own_window}
use Rattle.model.specs.Known.{Known, fails_behind}
use Rattle.model.specs.Causes.{Cause, are_large, cause_if, cause_of_head}
use Rattle.model.specs.Causes.Cause.{LargeFields, LargeBody, BadAnswer}
use Rattle.model.specs.ErrorTable.{fault_with}

-- What has become of a stream.
pub record Course : Type 0 where
  -- its items, the oldest first
  pub items : List Item
  -- they have come to their end
  pub over : Bool
  -- the first cause of a reply of the gateway's own, if there is one
  pub cause : Option Cause
  -- the final head of a response was out when the cause came
  pub head_out : Bool
  -- the heads that were out then; they are interim heads unless the final one was
  pub heads_out : List Head

abbrev pub carried : Course → Carried
carried course = carried_by course.items (is_some course.cause)

-- ---- causes

-- the block has the status of a final head (RFC 9110, section 15)
abbrev pub is_final : Item → Bool
is_final (Block fields ends) = nat_le 200 (digits_value 10 (first_of (values_of (codes ":status") fields)))
is_final (Content octets ends) = false

-- the connection of an event that may fail
abbrev pub upstream_of : Event → ℕ
upstream_of (Up k piece) = k
upstream_of (UpEnd k) = k
upstream_of (UpFailed k) = k
upstream_of _ = 0

-- the stream that an entry is about, or 0
abbrev pub about : List Entry → Entry → ℕ
about t (Came noted) = noted.frame.id
about t (Happened event) = given (upstream_of event) (exchanges t)
about t _ = 0

-- why a header block is answered: the first one is the head, any other is of trailers
abbrev pub cause_of_block : Setup → Carried → Note → Option Cause
cause_of_block setup carried (Fields fields) =
    if carried.begun then cause_if (are_large fields) LargeFields else cause_of_head setup fields
cause_of_block setup carried _ = None

-- why a frame is answered that is no error
abbrev pub cause_of_frame : Setup → Carried → Option Partial → Noted → Option Cause
cause_of_frame setup carried (Some block) noted = cause_of_block setup carried noted.note
cause_of_frame setup carried None noted =
    cause_if (noted.frame.kind == data_kind && nat_lt setup.max_body (carried.octets + length (content noted.frame))) LargeBody

-- Why an entry about a stream is answered by the gateway, if it is. What is an error, or is discarded, is no cause.
abbrev pub cause_at : Known → Course → List Entry → Entry → Option Fault → Option Cause
cause_at known course t (Came noted) None = cause_of_frame known.setup (carried course) (completed (came t) noted.frame) noted
cause_at known course t (Happened event) found = cause_if (fails_behind known t) BadAnswer
cause_at known course t _ _ = None

-- the first cause stays
abbrev pub first_of_both : Option Cause → Option Cause → Option Cause
first_of_both None new = new
first_of_both (Some cause) new = Some cause

-- ---- the course of a stream

-- the cause that an entry is for a stream
abbrev pub new_cause : Known → ℕ → List Entry → Entry → Course → Option Fault → Option Cause
new_cause known stream t e course found =
    if about t e == stream && not_zero stream then cause_at known course t e found else None
  where
    not_zero : ℕ → Bool
    not_zero id = nat_lt 0 id

-- The entry ends the stream's items without an item: an error of the stream or the connection, what is discarded on the
-- stream, a reset of it, or a cause.
abbrev pub interrupts : ℕ → Entry → Option Fault → Option Cause → Bool
interrupts stream e found cause = is_ended_by (is_on stream e) found || is_reset stream e || is_some cause

-- Once the items are over they stay as they are: they end with the first END_STREAM, or before what interrupts them.
abbrev pub items_behind : Course → Bool → List Item → List Item
items_behind course interrupted new = if course.over || interrupted then course.items else course.items ++ new

abbrev pub course_behind : Course → Bool → List Item → Option Cause → List Item → Course
course_behind course interrupted new cause out = record {
  items = items_behind course interrupted new;
  over = course.over || interrupted || list_any ends_with new;
  cause = first_of_both course.cause cause;
  head_out = if is_some course.cause then course.head_out else is_some cause && list_any is_final out;
  heads_out = if is_some course.cause then course.heads_out else (if is_some cause then heads_in out else []);
}

abbrev pub next_course : Known → ℕ → List Entry → Entry → Course → Course
next_course known stream t e course =
    let found = fault_with (own_window known.setup) (carried course) t e in
    let cause = new_cause known stream t e course found in
    course_behind course (interrupts stream e found cause) (items_of stream t e) cause (items_on stream (sent t))

abbrev pub course : Known → ℕ → List Entry → Course
course known stream [] = record { items = []; over = false; cause = None; head_out = false; heads_out = [] }
course known stream (e ∷ t) = next_course known stream t e (course known stream t)

-- the items of a stream
abbrev pub items : Known → ℕ → List Entry → List Item
items known stream t = (course known stream t).items

-- why the gateway answers a stream itself, if it does
abbrev pub cause : Known → ℕ → List Entry → Option Cause
cause known stream t = (course known stream t).cause

-- the cause that an entry behind a tape is for a stream
abbrev pub cause_of : Known → ℕ → List Entry → Entry → Option Cause
cause_of known stream t e = let before = course known stream t in new_cause known stream t e before (fault_with (own_window known.setup) (carried before) t e)

-- the fault of an entry behind a tape
abbrev pub fault : Known → List Entry → Entry → Option Fault
fault known t e = fault_with (own_window known.setup) (carried (course known (about t e) t)) t e
