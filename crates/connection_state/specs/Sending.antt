-- What entries of the gateway's own lead to: the book behind each, and what it calls for.
use Rattle.std.specs.Prelude.{◌≡◌, ℕ, Bool, true, false, not, ◌&&◌, ◌||◌, ◌==◌, if◌then◌else◌, List, [], ◌∷◌, length, None, is_none, pos, ◌+ℤ◌, ◌-ℤ◌, ◌≤ℤ◌}
use Rattle.model.specs.Frames.{Frame, ends_stream, goaway, no_error, internal_error}
use Rattle.model.specs.Limits.{most_streams}
use Rattle.model.specs.Setup.{Setup}
use Rattle.model.specs.Logs.{Event}
use Rattle.model.specs.Logs.Event.{Up, UpEnd, UpFailed, UpTook}
use Rattle.model.specs.Tapes.{Entry}
use Rattle.model.specs.ErrorClause.{rst_stream}
use Rattle.model.specs.WindowsOnTape.{increment}
use Rattle.theory_errors.specs.Summary.{Stream as Kept}
use Rattle.theory_errors.specs.Judging.{window_in}
use Rattle.theory_errors.specs.Owing.{owes_in, highest_in}
use Rattle.theory_errors.specs.Rows.{Row, find, ids_of, slot_of}
use Rattle.theory_errors.specs.Rows.Slot.{Over}
use Rattle.theory_errors.specs.Book.{Book, summary_in, book_after}
use Rattle.theory_errors.specs.Quiet.{paid_of}
use Rattle.streams.specs.Asked.{changed}
use Rattle.streams.specs.Sending.{head_sent, data_sent, given_back, failed}
use Rattle.connection_state.specs.Inbound.{Inbound}

-- This is the book behind an entry, and what the entry calls for, the oldest first.
pub record LeadsTo (setup : Setup) (fails : Bool) (old : Book) (e : Entry) (new : Book) (called : List Frame) : Type 0 where
  pub book : book_after setup fails old e ≡ new
  pub owes : owes_in setup fails (summary_in old) e ≡ called

-- the rows where this is kept of a stream
abbrev pub with_kept : ℕ → Kept → List Row → List Row
with_kept id kept rows = changed id (slot_of kept) rows

-- Octets of DATA, if there are any, are within both sending windows (RFC 9113, section 6.9.1).
pub record AreWithin (kept : Inbound) (id count : ℕ) : Type 0 where
  pub connection : (count == 0) ≡ false → pos count ≤ℤ kept.window
  pub stream : (count == 0) ≡ false → pos count ≤ℤ window_in kept.first_size (find kept.rows id)

-- ---- behind frames that were sent

-- the book behind the last frame of a header block, which is a final head or isn't, and ends the stream or doesn't
abbrev pub behind_head : Book → Frame → Bool → Bool → Book
behind_head book frame is_final ends =
    record (paid_of book frame) { block_out = None; rows = with_kept frame.id (head_sent is_final ends (find book.rows frame.id)) book.rows }

-- that behind DATA
abbrev pub behind_data : Book → Frame → Book
behind_data book frame =
    record (paid_of book frame) {
      window = book.window -ℤ pos (length frame.payload);
      rows = with_kept frame.id (data_sent (length frame.payload) (ends_stream frame) (find book.rows frame.id)) book.rows;
    }

-- that behind RST_STREAM
abbrev pub behind_reset : Book → Frame → Book
behind_reset book frame = record (paid_of book frame) { rows = changed frame.id (Over true) book.rows }

-- that behind WINDOW_UPDATE, for the connection and for a stream
abbrev pub behind_update : Book → Frame → Book
behind_update book frame = record (paid_of book frame) { room = book.room +ℤ pos (increment frame) }

abbrev pub behind_stream_update : Book → Frame → Book
behind_stream_update book frame =
    record (paid_of book frame) { rows = with_kept frame.id (given_back (increment frame) (find book.rows frame.id)) book.rows }

-- the reset behind a frame that ends its response or doesn't, where that ends before its request
abbrev pub early_reset : Book → ℕ → Bool → List Frame
early_reset book id ends = if ends && not (find book.rows id).ended_by_client then rst_stream id no_error ∷ [] else []

-- ---- behind events

-- the event is of an upstream, and not of the end of anything else
abbrev pub is_of_upstream : Event → Bool
is_of_upstream (Up k piece) = true
is_of_upstream (UpEnd k) = true
is_of_upstream (UpFailed k) = true
is_of_upstream (UpTook k count) = true
is_of_upstream _ = false

-- the GOAWAY that the operator's wish for the end calls for, unless none might be opened before it (RFC 9113, section 6.8)
abbrev pub goaway_of_drain : Book → List Frame
goaway_of_drain book =
    if book.drained || length book.rows == most_streams then [] else goaway (highest_in (ids_of book.rows)) no_error ∷ []

-- the book behind the event with which the answer for a stream fails
abbrev pub behind_failure : Book → ℕ → Book
behind_failure book id = record book { rows = with_kept id (failed (find book.rows id)) book.rows; ends = false }

-- the reset behind it, where a final head is out and the gateway doesn't reply itself yet
abbrev pub reset_if_out : Book → ℕ → List Frame
reset_if_out book id =
    if is_none (find book.rows id).outline.cause && (find book.rows id).head_out then rst_stream id internal_error ∷ [] else []
