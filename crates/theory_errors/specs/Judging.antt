-- The error table over a summary: each row as the model has it over the tape.
use Rattle.std.specs.Prelude.{ℕ, suc, Bool, not, ◌&&◌, ◌||◌, ◌==◌, nat_le, nat_lt, if◌then◌else◌, List, [], ◌∷◌, ◌++◌}
use Rattle.std.specs.Prelude.{length, map, filter, Option, Some, None, is_some, option_map, ℤ, pos, ◌+ℤ◌}
use Rattle.std.specs.List.{list_any}
use Rattle.model.specs.Frames.{Frame, rst_stream_kind, continuation_kind, ends_headers, protocol_error}
use Rattle.model.specs.Frames.{flow_control_error, frame_size_error, compression_error, enhance_your_calm}
use Rattle.model.specs.Tapes.{Noted, Entry}
use Rattle.model.specs.Tapes.Breach.{WrongPreface, TooLong}
use Rattle.model.specs.Tapes.Entry.{Came, Breached}
use Rattle.model.specs.Decoding.{Partial, joined}
use Rattle.model.specs.Payloads.{payload_fault, code_of_payload}
use Rattle.model.specs.SettingValues.{settings_in, settings_fault, code_of_fault, initial_window_after}
use Rattle.model.specs.StreamStates.{StreamState, OpenedStream, Standing, standing, verdict}
use Rattle.model.specs.Limits.{most_streams, most_untaken, most_continuations, most_resets}
use Rattle.model.specs.StreamStates.StreamState.{ResetByPeer, ResetByUs}
use Rattle.model.specs.Lifetimes.{state_by_ends, opens_by}
use Rattle.model.specs.Errors.{Fault, row_first_frame, first_of, or_else}
use Rattle.model.specs.Errors.Fault.{Connection, Stream}
use Rattle.model.specs.FrameErrors.{fault_if, is_between, is_long, is_misplaced}
use Rattle.model.specs.WindowsOnTape.{has_settings, is_past}
use Rattle.model.specs.ErrorTable.{grants_nothing, grants_past, is_past_room, is_undecodable, is_malformed, judged}
use Rattle.model.specs.ErrorTable.{fault_of, is_idle, is_headers, unless_of_stream}
use Rattle.theory_errors.specs.Summary.{Outline, carried_in, Stream as Kept, Summary}

-- ---- streams

-- the state of a stream
abbrev pub state_in : Kept → StreamState
state_in kept =
    if kept.reset_by_gateway
    then ResetByUs
    else (if kept.reset_by_client then ResetByPeer else state_by_ends kept.ended_by_client kept.ended_by_gateway)

-- one side has reset it, or both have ended it
abbrev pub is_over_in : Kept → Bool
is_over_in kept = kept.reset_by_gateway || kept.reset_by_client || kept.ended_by_client && kept.ended_by_gateway

-- the streams that were opened, each with its state
abbrev pub streams_in : Summary → List OpenedStream
streams_in s = map (λ id. record { id = id; state = state_in (s.stream id) }) s.opened

-- how an id stands to the streams
abbrev pub standing_in : Summary → ℕ → Standing
standing_in s id = standing s.drained (streams_in s) id

-- the streams that are active
abbrev pub active_in : Summary → List ℕ
active_in s = filter (λ id. not (is_over_in (s.stream id))) s.opened

-- the stream was opened and is not over
abbrev pub is_active_in : ℕ → Summary → Bool
is_active_in stream s = list_any (λ id. id == stream) s.opened && not (is_over_in (s.stream stream))

-- the sending window of a stream, where settings give this first size
abbrev pub window_in : ℕ → Kept → ℤ
window_in first kept = pos first +ℤ kept.balance

-- a first size with which the window of an active stream is past the greatest
abbrev pub shifts_past_in : ℕ → Summary → Bool
shifts_past_in first s = list_any (λ id. is_past (window_in first (s.stream id))) (active_in s)

-- the block that a frame of the client completes
abbrev pub completed_in : Option Partial → Frame → Option Partial
completed_in begun frame = if ends_headers frame then joined begun frame else None

-- ---- rows that are judged before a header block is read

-- a frame between those of a header block
abbrev pub between_in : Summary → Frame → Option Fault
between_in s frame = fault_if (is_between s.block frame) (Connection protocol_error)

-- how many CONTINUATION frames the last are, with this one
abbrev pub continuations_in : ℕ → Frame → ℕ
continuations_in before frame = if frame.kind == continuation_kind then suc before else 0

-- a header block that is too long
abbrev pub long_block_in : Summary → Frame → Option Fault
long_block_in s frame =
    fault_if (is_long (joined s.block frame) || nat_lt most_continuations (continuations_in s.continuations frame)) (Connection enhance_your_calm)

-- a frame on an id that it may not have
abbrev pub misplaced_in : Frame → Option Fault
misplaced_in frame = fault_if (is_misplaced frame) (Connection protocol_error)

-- what is wrong with a frame's payload
abbrev pub payload_in : Frame → Option Fault
payload_in frame = option_map (λ fault. Connection (code_of_payload fault)) (payload_fault frame)

-- what is wrong with the values of settings
abbrev pub values_in : Frame → Option Fault
values_in frame =
    if has_settings frame then option_map (λ fault. Connection (code_of_fault fault)) (settings_fault frame.payload) else None

-- settings that make a window too large
abbrev pub shift_in : Summary → Frame → Option Fault
shift_in s frame =
    fault_if (has_settings frame && shifts_past_in (initial_window_after s.first_size (settings_in frame.payload)) s) (Connection flow_control_error)

-- an increment of the connection's window
abbrev pub connection_update_in : Summary → Frame → Option Fault
connection_update_in s frame =
    first_of (
    fault_if (frame.id == 0 && grants_nothing frame) (Connection protocol_error)
    ∷ fault_if (frame.id == 0 && grants_past s.window frame) (Connection flow_control_error)
    ∷ []
    )

-- DATA over the connection's window
abbrev pub connection_data_in : Summary → Frame → Option Fault
connection_data_in s frame = fault_if (is_past_room s.room frame) (Connection flow_control_error)

-- what comes of a type on a stream, by the streams so far
abbrev pub fault_on_in : Summary → ℕ → Option ℕ → Option Fault
fault_on_in s id None = None
fault_on_in s id (Some kind) = fault_of (verdict (length (active_in s)) (standing_in s id) kind)

-- what comes of a frame by the standing of its stream
abbrev pub fault_by_standing_in : Summary → Frame → Option Fault
fault_by_standing_in s frame = fault_on_in s frame.id (judged (completed_in s.block frame) frame)

-- anything but HEADERS on an idle stream
abbrev pub idle_in : Summary → Frame → Option Fault
idle_in s frame =
    if is_idle (standing_in s frame.id) && not (is_headers (judged (completed_in s.block frame) frame))
    then fault_by_standing_in s frame
    else None

-- the frame resets an active stream
abbrev pub resets_active_in : Summary → Frame → Bool
resets_active_in s frame = frame.kind == rst_stream_kind && is_active_in frame.id s

-- one reset more of an active stream
abbrev pub resets_row_in : Summary → Frame → Option Fault
resets_row_in s frame = fault_if (resets_active_in s frame && nat_le most_resets s.resets) (Connection enhance_your_calm)

-- ---- rows that are judged when it is

-- too many octets are untaken for a frame beside responses
abbrev pub is_crowded_in : Summary → Bool
is_crowded_in s = nat_lt most_untaken s.untaken

-- the streams that were opened, with the frame
abbrev pub opened_with : Summary → Noted → List ℕ
opened_with s noted =
    if opens_by s.drained s.opened (completed_in s.block noted.frame) noted.note then noted.frame.id ∷ s.opened else s.opened

-- none may be opened any more, since the connection is drained or these are all, and one might before
abbrev pub are_last : Summary → Bool → List ℕ → Bool
are_last s drained opened = not s.drained && nat_lt (length s.opened) most_streams && (drained || length opened == most_streams)

-- the last stream is opened, and its GOAWAY can't go out
abbrev pub no_goaway_in : Summary → Noted → Option Fault
no_goaway_in s noted = fault_if (are_last s s.drained (opened_with s noted) && is_crowded_in s) (Stream enhance_your_calm)

-- an increment of an active stream's window
abbrev pub stream_update_in : Summary → Frame → Option Fault
stream_update_in s frame =
    first_of (
    fault_if (is_active_in frame.id s && grants_nothing frame) (Stream protocol_error)
    ∷ fault_if (is_active_in frame.id s && grants_past (window_in s.first_size (s.stream frame.id)) frame) (Stream flow_control_error)
    ∷ []
    )

-- the receiving window of a stream of which this is kept, where such windows begin with so many octets
abbrev pub room_in : ℕ → Kept → ℤ
room_in own kept = pos own +ℤ kept.room

-- DATA over an active stream's window
abbrev pub stream_data_in : Summary → Frame → Option Fault
stream_data_in s frame =
    fault_if (is_active_in frame.id s && is_past_room (room_in s.own (s.stream frame.id)) frame) (Stream flow_control_error)

-- a frame that brings its stream, of which this is kept, what is no request
abbrev pub malformed_in : Outline → Summary → Entry → Option Fault
malformed_in outline s (Came noted) =
    fault_if (not (is_some outline.cause) && is_malformed (carried_in outline) (completed_in s.block noted.frame) noted) (Stream protocol_error)
malformed_in outline s e = None

-- ---- the table

-- the rows that look at the frame, and at the header block that was begun before it
abbrev pub frame_rows_in : Summary → Frame → List (Option Fault)
frame_rows_in s frame =
    row_first_frame s.has_come frame
    ∷ None
    ∷ between_in s frame
    ∷ long_block_in s frame
    ∷ misplaced_in frame
    ∷ payload_in frame
    ∷ []

-- the rows that are judged before a header block is read
abbrev pub rows_before_block_in : Summary → Frame → List (Option Fault)
rows_before_block_in s frame =
    row_first_frame s.has_come frame
    ∷ None
    ∷ between_in s frame
    ∷ long_block_in s frame
    ∷ misplaced_in frame
    ∷ payload_in frame
    ∷ values_in frame
    ∷ shift_in s frame
    ∷ connection_update_in s frame
    ∷ idle_in s frame
    ∷ resets_row_in s frame
    ∷ connection_data_in s frame
    ∷ []

-- the rows that are judged when it is
abbrev pub rows_behind_block_in : Summary → Noted → List (Option Fault)
rows_behind_block_in s noted =
    fault_if (is_undecodable noted.note) (Connection compression_error)
    ∷ unless_of_stream (fault_by_standing_in s noted.frame)
    ∷ stream_update_in s noted.frame
    ∷ stream_data_in s noted.frame
    ∷ fault_by_standing_in s noted.frame
    ∷ no_goaway_in s noted
    ∷ []

-- all rows but that on malformed messages, which alone looks at the course of the frame's stream
abbrev pub rows_in : Summary → Noted → List (Option Fault)
rows_in s noted = rows_before_block_in s noted.frame ++ rows_behind_block_in s noted

-- the fault by all these rows
abbrev pub fault_of_rows_in : Summary → Entry → Option Fault
fault_of_rows_in s (Came noted) = first_of (rows_in s noted)
fault_of_rows_in s (Breached WrongPreface) = Some (Connection protocol_error)
fault_of_rows_in s (Breached TooLong) = Some (Connection frame_size_error)
fault_of_rows_in s e = None

-- the fault of an entry, where its stream has this course
abbrev pub fault_for : Outline → Summary → Entry → Option Fault
fault_for outline s e = or_else (fault_of_rows_in s e) (malformed_in outline s e)
