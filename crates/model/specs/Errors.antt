-- What an error is answered with (RFC 9113, section 5.4), and the rows of the error table on how a connection begins. Each case
-- is a row of its own, judged behind the entries before it, and the first row that applies decides.
use Rattle.std.specs.Prelude.{ℕ, Bool, true, false, not, ◌&&◌, ◌==◌, if◌then◌else◌, List, [], ◌∷◌, Option, Some, None}
use Rattle.model.specs.Frames.{Frame, settings_kind, is_ack, protocol_error, frame_size_error}
use Rattle.model.specs.Tapes.{Noted, Entry, came}
use Rattle.model.specs.Tapes.Breach.{WrongPreface, TooLong}
use Rattle.model.specs.Tapes.Entry.{Came, Breached}

-- What an entry is answered with that isn't as it should be.
pub data Fault : Type 0 where
  -- the connection ends with GOAWAY and this code
  Connection : (code : ℕ) → Fault
  -- the entry's stream ends with RST_STREAM and this code
  Stream : (code : ℕ) → Fault
  -- nothing comes of it
  Discarded : Fault

-- one frame came at least
abbrev pub has_come : List Noted → Bool
has_come [] = false
has_come (noted ∷ before) = true

-- the first frame has to be SETTINGS, and no acknowledgement (section 3.4); it is the first where none came before
abbrev pub row_first_frame : Bool → Frame → Option Fault
row_first_frame true frame = None
row_first_frame false frame =
    if frame.kind == settings_kind && not (is_ack frame) then None else Some (Connection protocol_error)

-- the client's octets begin with the preface and SETTINGS (section 3.4)
abbrev pub row_start : List Entry → Entry → Option Fault
row_start t (Breached WrongPreface) = Some (Connection protocol_error)
row_start t (Came noted) = row_first_frame (has_come (came t)) noted.frame
row_start t _ = None

-- no frame is longer than the gateway allows (section 4.2)
abbrev pub row_too_long : List Entry → Entry → Option Fault
row_too_long t (Breached TooLong) = Some (Connection frame_size_error)
row_too_long t _ = None

abbrev pub first_of : List (Option Fault) → Option Fault
first_of [] = None
first_of (None ∷ rows) = first_of rows
first_of (Some fault ∷ rows) = Some fault

-- this fault where there is one, else that
abbrev pub or_else : Option Fault → Option Fault → Option Fault
or_else None later = later
or_else (Some fault) later = Some fault
