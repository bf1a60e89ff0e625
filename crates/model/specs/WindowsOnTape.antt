-- What a tape leaves of the windows of flow control (RFC 9113, sections 5.2, 6.5 and 6.9): the client's settings so far, the
-- windows in which the gateway sends, and those in which it receives.
use Rattle.std.specs.Prelude.{ℕ, ◌+◌, ◌%◌, Bool, true, not, ◌&&◌, ◌==◌, if◌then◌else◌, List, [], ◌∷◌, ◌++◌, length, is_none, ℤ, pos, ◌+ℤ◌, int_lt, unwrap_or}
use Rattle.std.specs.List.{list_any}
use Rattle.model.specs.Frames.{Frame, data_kind, settings_kind, window_update_kind, is_ack}
use Rattle.model.specs.Tapes.{Noted, Entry, came, sent}
use Rattle.model.specs.Tapes.Entry.{Came}
use Rattle.model.specs.Payloads.{number_field}
use Rattle.model.specs.SettingValues.{Setting, settings_in, settings_fault, header_table_size, last_value, initial_window_after}
use Rattle.model.specs.Windows.{balance, sending_window}
use Rattle.model.specs.Limits.{first_window, greatest_window, first_maximum}
use Rattle.model.specs.Lifetimes.{active}
use Rattle.model.specs.FrameErrors.{frame_fault, sound}

-- ---- what frames count for

-- the octets of DATA that count, with its padding (section 6.9.1), of a frame on an id that passes
abbrev pub data_length : (ℕ → Bool) → Frame → ℕ
data_length test frame = if frame.kind == data_kind && test frame.id then length frame.payload else 0

-- those of all frames
abbrev pub data_octets : (ℕ → Bool) → List Noted → ℕ
data_octets test [] = 0
data_octets test (noted ∷ before) = data_octets test before + data_length test noted.frame

-- the increment of WINDOW_UPDATE, without the reserved bit above it (section 6.9)
abbrev pub increment : Frame → ℕ
increment frame = number_field frame.payload % 2147483648

-- what WINDOW_UPDATE frames on an id add up to; 0 is that of the connection
abbrev pub increments : ℕ → List Noted → ℕ
increments id [] = 0
increments id (noted ∷ before) =
    increments id before + (if noted.frame.kind == window_update_kind && noted.frame.id == id then increment noted.frame else 0)

abbrev pub is_on : ℕ → ℕ → Bool
is_on stream id = id == stream

abbrev pub is_any : ℕ → Bool
is_any id = true

-- ---- sending

-- What was granted on a stream, without what was sent on it. An increment that passes the greatest size ends its stream or the
-- connection, whose window was above 0 without it; so it may stand in the sum.
abbrev pub balance_on : ℕ → List Entry → ℤ
balance_on stream t = balance (increments stream (sound t)) (data_octets (is_on stream) (sent t))

-- a stream's sending window, where settings give this first size (section 6.9.2)
abbrev pub window_from : ℕ → ℕ → List Entry → ℤ
window_from first stream t = pos first +ℤ balance_on stream t

-- the size is past the greatest (section 6.9.1)
abbrev pub is_past : ℤ → Bool
is_past size = int_lt (pos greatest_window) size

-- a first size with which the window of an active stream is past the greatest (section 6.9.2)
abbrev pub shifts_past : ℕ → List Entry → Bool
shifts_past first t = list_any (λ stream. is_past (window_from first stream t)) (active t)

-- the frame has settings, and is no acknowledgement of them (section 6.5)
abbrev pub has_settings : Frame → Bool
has_settings frame = frame.kind == settings_kind && not (is_ack frame)

-- Settings are taken unless something is wrong with their frame or their values, or with the windows that they leave.
abbrev pub are_taken : List Entry → List Setting → Frame → Bool
are_taken t before frame =
    has_settings frame && is_none (settings_fault frame.payload)
    && not (shifts_past (initial_window_after first_window (before ++ settings_in frame.payload)) t)

-- all settings of the client so far, in their order
abbrev pub client_settings : List Entry → List Setting
client_settings [] = []
client_settings (Came noted ∷ t) =
    let before = client_settings t in
    if is_none (frame_fault t (Came noted)) && are_taken t before noted.frame then before ++ settings_in noted.frame.payload else before
client_settings (_ ∷ t) = client_settings t

-- the first size of streams' windows now (section 6.5.2)
abbrev pub first_size : List Entry → ℕ
first_size t = initial_window_after first_window (client_settings t)

-- how many octets of DATA may be sent on a stream
abbrev pub stream_window : ℕ → List Entry → ℤ
stream_window stream t = window_from (first_size t) stream t

-- how many may be sent on the connection, whose window no setting changes (section 6.9.2)
abbrev pub connection_window : List Entry → ℤ
connection_window t = sending_window first_window (increments 0 (sound t)) (data_octets is_any (sent t))

-- the greatest table that the client allows now (RFC 7541, section 4.2)
abbrev pub table_limit : List Entry → ℕ
table_limit t = unwrap_or (last_value header_table_size (client_settings t)) first_maximum

-- ---- receiving

-- what was given back on a stream, without what came
abbrev pub back_on : ℕ → List Entry → ℤ
back_on stream t = balance (increments stream (sent t)) (data_octets (is_on stream) (came t))

-- How many octets of DATA may come on a stream, where windows begin with so many: as at first, and what was given back, without what
-- came. So it is from the first octet on: the gateway's settings are sent before any is read (section 6.9.2).
abbrev pub room_on : ℕ → ℕ → List Entry → ℤ
room_on own stream t = pos own +ℤ back_on stream t

-- how many may come on the connection, whose window begins with 65,535, and which WINDOW_UPDATE alone makes larger (section 6.9.2)
abbrev pub room_on_connection : List Entry → ℤ
room_on_connection t = sending_window first_window (increments 0 (sent t)) (data_octets is_any (came t))
