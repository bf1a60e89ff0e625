-- The rows of the error table that look at a frame alone, and at the header block that was begun before it (RFC 9113, sections
-- 3.4, 4 and 6).
use Rattle.std.specs.Prelude.{ℕ, suc, ◌%◌, Bool, false, not, ◌&&◌, ◌||◌, ◌==◌, nat_lt, if◌then◌else◌, List, [], ◌∷◌}
use Rattle.std.specs.Prelude.{length, Option, Some, None, is_none, option_map}
use Rattle.model.specs.Limits.{longest_block, most_continuations}
use Rattle.model.specs.Frames.{Frame, data_kind, headers_kind, priority_kind, rst_stream_kind, settings_kind}
use Rattle.model.specs.Frames.{push_promise_kind, ping_kind, goaway_kind, continuation_kind, protocol_error}
use Rattle.model.specs.Frames.{enhance_your_calm}
use Rattle.model.specs.Tapes.{Noted, Entry, came}
use Rattle.model.specs.Tapes.Entry.{Came}
use Rattle.model.specs.Decoding.{Partial, joined, begun}
use Rattle.model.specs.Payloads.{payload_fault, code_of_payload}
use Rattle.model.specs.Errors.{Fault, row_start, row_too_long, first_of}
use Rattle.model.specs.Errors.Fault.{Connection}

-- the fault where there is one
abbrev pub fault_if : Bool → Fault → Option Fault
fault_if is_wrong fault = if is_wrong then Some fault else None

-- Inside a header block CONTINUATION of its stream alone may come, and CONTINUATION nowhere else (sections 4.3 and 6.10).
abbrev pub is_between : Option Partial → Frame → Bool
is_between None frame = frame.kind == continuation_kind
is_between (Some block) frame = not (frame.kind == continuation_kind && frame.id == block.id)

abbrev pub row_between : List Entry → Entry → Option Fault
row_between t (Came noted) = fault_if (is_between (begun (came t)) noted.frame) (Connection protocol_error)
row_between t _ = None

abbrev pub is_long : Option Partial → Bool
is_long None = false
is_long (Some block) = nat_lt longest_block (length block.fragments)

-- how many CONTINUATION frames the newest frames are
abbrev pub last_continuations : List Noted → ℕ
last_continuations [] = 0
last_continuations (noted ∷ before) = if noted.frame.kind == continuation_kind then suc (last_continuations before) else 0

-- a block that is longer, or has more of them
abbrev pub row_long_block : List Entry → Entry → Option Fault
row_long_block t (Came noted) =
    fault_if (is_long (joined (begun (came t)) noted.frame) || nat_lt most_continuations (last_continuations (noted ∷ came t))) (Connection enhance_your_calm)
row_long_block t _ = None

-- frames of one stream, and frames of the whole connection (sections 6.1 to 6.8)
abbrev pub is_of_stream : ℕ → Bool
is_of_stream kind = kind == data_kind || kind == headers_kind || kind == priority_kind || kind == rst_stream_kind

abbrev pub is_of_connection : ℕ → Bool
is_of_connection kind = kind == settings_kind || kind == ping_kind || kind == goaway_kind

-- A frame stands on an id that it may not have; HEADERS belong to a stream that a client may open (section 5.1.1), and a
-- client sends no PUSH_PROMISE (section 8.4).
abbrev pub is_misplaced : Frame → Bool
is_misplaced frame =
    is_of_stream frame.kind && frame.id == 0
    || is_of_connection frame.kind && not (frame.id == 0)
    || frame.kind == push_promise_kind
    || frame.kind == headers_kind && frame.id % 2 == 0

abbrev pub row_misplaced : List Entry → Entry → Option Fault
row_misplaced t (Came noted) = fault_if (is_misplaced noted.frame) (Connection protocol_error)
row_misplaced t _ = None

-- the payload's length, then its padding (sections 4.2, 6.1 and 6.2)
abbrev pub row_payload : List Entry → Entry → Option Fault
row_payload t (Came noted) = option_map (λ fault. Connection (code_of_payload fault)) (payload_fault noted.frame)
row_payload t _ = None

-- the fault of an entry behind a tape by these rows, in their order
abbrev pub frame_fault : List Entry → Entry → Option Fault
frame_fault t e =
    first_of (row_start t e ∷ row_too_long t e ∷ row_between t e ∷ row_long_block t e ∷ row_misplaced t e ∷ row_payload t e ∷ [])

-- the client's frames without such a fault
abbrev pub sound : List Entry → List Noted
sound [] = []
sound (Came noted ∷ t) = if is_none (frame_fault t (Came noted)) then noted ∷ sound t else sound t
sound (_ ∷ t) = sound t
