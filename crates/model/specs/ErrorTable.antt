-- The error table: what an entry of the tape is answered with that isn't as it should be (RFC 9113, section 5.4). Each case is a
-- row of its own, and the first row that applies decides. DATA, RST_STREAM and WINDOW_UPDATE are judged when they came, and
-- HEADERS when the header block that they begin is whole. Another case is another row.
use Rattle.std.specs.Prelude.{ℕ, Bool, true, false, not, ◌&&◌, ◌||◌, ◌==◌, nat_le, if◌then◌else◌, List, [], ◌∷◌, ◌++◌}
use Rattle.std.specs.Prelude.{length, Option, Some, None, option_map, ℤ, pos, ◌+ℤ◌, int_lt}
use Rattle.model.specs.Limits.{most_resets}
use Rattle.model.specs.Frames.{Frame, data_kind, headers_kind, rst_stream_kind, window_update_kind, ends_stream}
use Rattle.model.specs.Frames.{content, protocol_error, flow_control_error, compression_error, enhance_your_calm}
use Rattle.model.specs.Tapes.{Note, Noted, Entry, came}
use Rattle.model.specs.Tapes.Note.{Fields, Undecodable}
use Rattle.model.specs.Tapes.Entry.{Came}
use Rattle.model.specs.Decoding.{Partial, completed}
use Rattle.model.specs.SettingValues.{settings_in, settings_fault, code_of_fault, initial_window_after}
use Rattle.model.specs.StreamStates.{Standing, Verdict, verdict}
use Rattle.model.specs.StreamStates.Standing.{Idle, ServerIdle}
use Rattle.model.specs.StreamStates.Verdict.{Fails}
use Rattle.model.specs.Errors.{Fault, row_start, row_too_long, first_of, or_else}
use Rattle.model.specs.Errors.Fault.{Connection, Stream}
use Rattle.model.specs.Admission.{is_crowded}
use Rattle.model.specs.Lifetimes.{active, is_active, opens_last, resets_active, resets_by_client, standing_on}
use Rattle.model.specs.FrameErrors.{fault_if, row_between, row_long_block, row_misplaced, row_payload}
use Rattle.model.specs.WindowsOnTape.{increment, is_past, shifts_past, has_settings, first_size, stream_window, connection_window, room_on, room_on_connection}
use Rattle.model.specs.Causes.{are_large}
use Rattle.model.specs.Malformed.{Carried, is_malformed_block, is_malformed_content}

-- ---- settings and windows

-- the values of settings (section 6.5.2)
abbrev pub row_settings : List Entry → Entry → Option Fault
row_settings t (Came noted) =
    if has_settings noted.frame then option_map (λ fault. Connection (code_of_fault fault)) (settings_fault noted.frame.payload) else None
row_settings t _ = None

-- a first size that makes a stream's window too large (section 6.9.2)
abbrev pub row_shift : List Entry → Entry → Option Fault
row_shift t (Came noted) =
    fault_if (has_settings noted.frame && shifts_past (initial_window_after (first_size t) (settings_in noted.frame.payload)) t) (Connection flow_control_error)
row_shift t _ = None

-- the frame grants octets by an increment
abbrev pub grants : Frame → Bool
grants frame = frame.kind == window_update_kind

-- an increment of 0, and one that makes this window too large (sections 6.9 and 6.9.1)
abbrev pub grants_nothing : Frame → Bool
grants_nothing frame = grants frame && increment frame == 0

abbrev pub grants_past : ℤ → Frame → Bool
grants_past window frame = grants frame && is_past (window +ℤ pos (increment frame))

-- an increment of the connection's window
abbrev pub row_connection_update : List Entry → Entry → Option Fault
row_connection_update t (Came noted) =
    first_of (
    fault_if (noted.frame.id == 0 && grants_nothing noted.frame) (Connection protocol_error)
    ∷ fault_if (noted.frame.id == 0 && grants_past (connection_window t) noted.frame) (Connection flow_control_error)
    ∷ []
    )
row_connection_update t _ = None

-- DATA for which there is no room (section 6.9.1)
abbrev pub is_past_room : ℤ → Frame → Bool
is_past_room room frame = frame.kind == data_kind && int_lt room (pos (length frame.payload))

-- DATA over the connection's window
abbrev pub row_connection_data : List Entry → Entry → Option Fault
row_connection_data t (Came noted) = fault_if (is_past_room (room_on_connection t) noted.frame) (Connection flow_control_error)
row_connection_data t _ = None

-- an increment of an active stream's window
abbrev pub row_stream_update : List Entry → Entry → Option Fault
row_stream_update t (Came noted) =
    first_of (
    fault_if (is_active noted.frame.id t && grants_nothing noted.frame) (Stream protocol_error)
    ∷ fault_if (is_active noted.frame.id t && grants_past (stream_window noted.frame.id t) noted.frame) (Stream flow_control_error)
    ∷ []
    )
row_stream_update t _ = None

-- DATA over an active stream's window, where such windows begin with so many octets
abbrev pub row_stream_data : ℕ → List Entry → Entry → Option Fault
row_stream_data own t (Came noted) =
    fault_if (is_active noted.frame.id t && is_past_room (room_on own noted.frame.id t) noted.frame) (Stream flow_control_error)
row_stream_data own t _ = None

-- ---- header blocks that can't be read (section 4.3)

abbrev pub is_undecodable : Note → Bool
is_undecodable Undecodable = true
is_undecodable _ = false

abbrev pub row_block : List Entry → Entry → Option Fault
row_block t (Came noted) = fault_if (is_undecodable noted.note) (Connection compression_error)
row_block t _ = None

-- ---- the standing of a frame's stream

-- The type that a frame is judged as: HEADERS where it completes a header block, and none where its stream doesn't matter.
abbrev pub judged : Option Partial → Frame → Option ℕ
judged (Some block) frame = Some headers_kind
judged None frame =
    if frame.kind == data_kind || frame.kind == rst_stream_kind || grants frame then Some frame.kind else None

abbrev pub fault_of : Verdict → Option Fault
fault_of (Fails fault) = Some fault
fault_of _ = None

-- what comes of a type on a stream (section 5.1), by the streams so far
abbrev pub fault_on : List Entry → ℕ → Option ℕ → Option Fault
fault_on t id None = None
fault_on t id (Some kind) = fault_of (verdict (length (active t)) (standing_on t id) kind)

-- what comes of a frame
abbrev pub fault_by_standing : List Entry → Noted → Option Fault
fault_by_standing t noted = fault_on t noted.frame.id (judged (completed (came t) noted.frame) noted.frame)

abbrev pub is_idle : Standing → Bool
is_idle Idle = true
is_idle ServerIdle = true
is_idle _ = false

abbrev pub is_headers : Option ℕ → Bool
is_headers None = false
is_headers (Some kind) = kind == headers_kind

-- anything but HEADERS on an idle stream
abbrev pub row_idle : List Entry → Entry → Option Fault
row_idle t (Came noted) =
    if is_idle (standing_on t noted.frame.id) && not (is_headers (judged (completed (came t) noted.frame) noted.frame))
    then fault_by_standing t noted
    else None
row_idle t _ = None

-- one reset more of an active stream (section 6.4); resets of other streams aren't counted
abbrev pub row_resets : List Entry → Entry → Option Fault
row_resets t (Came noted) =
    fault_if (resets_active t noted.frame && nat_le most_resets (resets_by_client t)) (Connection enhance_your_calm)
row_resets t _ = None

-- the fault, unless it is one of the stream
abbrev pub unless_of_stream : Option Fault → Option Fault
unless_of_stream (Some (Stream code)) = None
unless_of_stream found = found

-- HEADERS on a skipped id, whatever comes on a stream that is closed, and what is above the last id of a GOAWAY
abbrev pub row_closed : List Entry → Entry → Option Fault
row_closed t (Came noted) = unless_of_stream (fault_by_standing t noted)
row_closed t _ = None

-- DATA and HEADERS behind the client's end of the stream, and a stream past the most that may be active
abbrev pub row_refused : List Entry → Entry → Option Fault
row_refused t (Came noted) = fault_by_standing t noted
row_refused t _ = None

-- The last stream is opened that a connection may have, and the GOAWAY that it calls for would go out while too many octets are untaken: so the
-- connection ends in its place, and what the head says isn't acted on. (So the code of this row is never sent on a stream.)
abbrev pub row_no_goaway : List Entry → Entry → Option Fault
row_no_goaway t (Came noted) = fault_if (opens_last t (Came noted) && is_crowded t) (Stream enhance_your_calm)
row_no_goaway t _ = None

-- ---- what is no request

-- the header block behind what the stream carried is malformed; one that is too large is answered, whatever it says
abbrev pub is_bad_block : Carried → Bool → Note → Bool
is_bad_block carried ends (Fields fields) = not (are_large fields) && is_malformed_block carried fields ends
is_bad_block carried ends _ = false

-- a frame brings its stream what is no request
abbrev pub is_malformed : Carried → Option Partial → Noted → Bool
is_malformed carried (Some block) noted = is_bad_block carried block.ends noted.note
is_malformed carried None noted =
    noted.frame.kind == data_kind && is_malformed_content carried (content noted.frame) (ends_stream noted.frame)

-- malformed messages (section 8.1.1); what comes behind a reply of the gateway's own isn't judged
abbrev pub row_malformed : Carried → List Entry → Entry → Option Fault
row_malformed carried t (Came noted) =
    fault_if (not carried.waits && is_malformed carried (completed (came t) noted.frame) noted) (Stream protocol_error)
row_malformed carried t _ = None

-- ---- the table

-- the rows that are judged before a header block is read
abbrev pub rows_before_block : List Entry → Entry → List (Option Fault)
rows_before_block t e =
    row_start t e
    ∷ row_too_long t e
    ∷ row_between t e
    ∷ row_long_block t e
    ∷ row_misplaced t e
    ∷ row_payload t e
    ∷ row_settings t e
    ∷ row_shift t e
    ∷ row_connection_update t e
    ∷ row_idle t e
    ∷ row_resets t e
    ∷ row_connection_data t e
    ∷ []

-- the rows that are judged when it is
abbrev pub rows_behind_block : ℕ → List Entry → Entry → List (Option Fault)
rows_behind_block own t e =
    row_block t e
    ∷ row_closed t e
    ∷ row_stream_update t e
    ∷ row_stream_data own t e
    ∷ row_refused t e
    ∷ row_no_goaway t e
    ∷ []

-- the fault by all these rows
abbrev pub fault_of_rows : ℕ → List Entry → Entry → Option Fault
fault_of_rows own t e = first_of (rows_before_block t e ++ rows_behind_block own t e)

-- The fault of an entry behind a tape, where receiving windows begin with so many octets, and its stream carried this: the last row
-- alone looks at what it carried.
abbrev pub fault_with : ℕ → Carried → List Entry → Entry → Option Fault
fault_with own carried t e = or_else (fault_of_rows own t e) (row_malformed carried t e)
