-- Worked examples of settings, windows, payloads and states of streams, each by computation.
use Rattle.std.proofs.Common.{false, ◌≡◌, [], ◌∷◌, ◌++◌, Some, None, refl}
use Rattle.std.specs.Prelude.{ℕ, List, negsuc}
use Rattle.model.specs.Frames.{setting, data_kind, headers_kind, rst_stream_kind, window_update_kind, protocol_error, stream_closed, refused_stream}
use Rattle.model.specs.Errors.Fault.{Connection, Stream, Discarded}
use Rattle.model.specs.StreamStates.{OpenedStream, Verdict, active_count, after, standing, verdict}
use Rattle.model.specs.StreamStates.StreamState.{Open, HalfClosedRemote, HalfClosedLocal, Closed, ResetByPeer, ResetByUs}
use Rattle.model.specs.StreamStates.Change.{RemoteEnds, LocalEnds, WeReset}
use Rattle.model.specs.StreamStates.Standing.{Idle, Beyond}
use Rattle.model.specs.StreamStates.Verdict.{Passes, Opens, Fails}
use Rattle.model.specs.Payloads.{payload_fault}
use Rattle.model.specs.Payloads.PayloadFault.{WrongSize, OverPadded}
use Rattle.model.specs.Windows.{size_difference, sending_window}
use Rattle.model.specs.SettingValues.{settings_in, settings_fault, initial_window_after, smallest_value, last_value}
use Rattle.model.specs.SettingValues.SettingsFault.{Size, Push, FrameSize}

-- MAX_FRAME_SIZE of 16,383 is a fault: 0005 00003fff
pub short_frame : settings_fault (0 ∷ 5 ∷ 0 ∷ 0 ∷ 63 ∷ 255 ∷ []) ≡ Some FrameSize
short_frame = refl

-- the first fault decides, here that of ENABLE_PUSH: 0002 00000002 0004 80000000
pub first_of_two : settings_fault (setting 2 2 ++ setting 4 2147483648) ≡ Some Push
first_of_two = refl

-- the length is judged first: five octets, and a whole faulty entry with one octet behind it
pub five_octets : settings_fault (0 ∷ 2 ∷ 0 ∷ 0 ∷ 0 ∷ []) ≡ Some Size
five_octets = refl

pub seven_octets : settings_fault (setting 4 2147483648 ++ 0 ∷ []) ≡ Some Size
seven_octets = refl

-- a window of 2,147,483,647 is no fault, nor is an identifier that isn't known
pub no_fault : settings_fault (setting 4 2147483647 ++ setting 4660 4294967295) ≡ None
no_fault = refl

-- the last value stands, and the smallest is known: HEADER_TABLE_SIZE 0, then 4,096
pub two_limits : smallest_value 1 (settings_in (setting 1 0 ++ setting 1 4096)) ≡ Some 0
two_limits = refl

pub last_limit : last_value 1 (settings_in (setting 1 0 ++ setting 1 4096)) ≡ Some 4096
last_limit = refl

-- INITIAL_WINDOW_SIZE of 10 is 65,525 less than the first value
pub lowered : size_difference 65535 (initial_window_after 65535 (settings_in (setting 4 10))) ≡ negsuc 65524
lowered = refl

-- a window from which 20,000 octets were sent is below zero then
pub below_zero : sending_window 10 0 20000 ≡ negsuc 19989
below_zero = refl

-- HEADERS with padding and a priority: 04 000000000f 82 0000 has too much padding, and with a pad
-- length of 3 the fragment is empty
pub over_padded : payload_fault (record { kind = 1; flags = 40; id = 1; payload = 4 ∷ 0 ∷ 0 ∷ 0 ∷ 0 ∷ 15 ∷ 130 ∷ 0 ∷ 0 ∷ [] }) ≡ Some OverPadded
over_padded = refl

pub all_padding : payload_fault (record { kind = 1; flags = 40; id = 1; payload = 3 ∷ 0 ∷ 0 ∷ 0 ∷ 0 ∷ 15 ∷ 130 ∷ 0 ∷ 0 ∷ [] }) ≡ None
all_padding = refl

-- four octets have no room for the priority, nor has an empty payload for the pad length
pub no_priority : payload_fault (record { kind = 1; flags = 32; id = 1; payload = 0 ∷ 0 ∷ 0 ∷ 0 ∷ [] }) ≡ Some WrongSize
no_priority = refl

pub no_pad_length : payload_fault (record { kind = 0; flags = 8; id = 1; payload = [] }) ≡ Some WrongSize
no_pad_length = refl

-- SETTINGS with ACK has no entries
pub full_ack : payload_fault (record { kind = 4; flags = 1; id = 0; payload = 0 ∷ 3 ∷ 0 ∷ 0 ∷ 0 ∷ 100 ∷ [] }) ≡ Some WrongSize
full_ack = refl

-- Streams in each state: 3 was ended by the client, 5 by the gateway, 7 by both; 9 was reset by the client, and 13 by the
-- gateway.
abbrev pub six_streams : List OpenedStream
six_streams =
    record { id = 1; state = Open }
    ∷ record { id = 3; state = HalfClosedRemote }
    ∷ record { id = 5; state = HalfClosedLocal }
    ∷ record { id = 7; state = Closed }
    ∷ record { id = 9; state = ResetByPeer }
    ∷ record { id = 13; state = ResetByUs }
    ∷ []

abbrev pub verdict_on : ℕ → ℕ → Verdict
verdict_on id kind = verdict (active_count six_streams) (standing false six_streams id) kind

pub three_are_active : active_count six_streams ≡ 3
three_are_active = refl

-- DATA, HEADERS, RST_STREAM or WINDOW_UPDATE on an active stream that the client hasn't ended pass
pub on_open : (kind : ℕ) → verdict_on 1 kind ≡ Passes
on_open kind = refl

pub on_half_closed_local : (kind : ℕ) → verdict_on 5 kind ≡ Passes
on_half_closed_local kind = refl

-- behind the client's end DATA is an error of the stream, and RST_STREAM passes
pub data_behind_the_end : verdict_on 3 data_kind ≡ Fails (Stream stream_closed)
data_behind_the_end = refl

pub reset_behind_the_end : verdict_on 3 rst_stream_kind ≡ Passes
reset_behind_the_end = refl

-- on a closed stream HEADERS end the connection, and WINDOW_UPDATE is discarded
pub headers_on_closed : verdict_on 7 headers_kind ≡ Fails (Connection stream_closed)
headers_on_closed = refl

pub data_behind_their_reset : verdict_on 9 data_kind ≡ Fails (Connection stream_closed)
data_behind_their_reset = refl

pub update_on_closed : verdict_on 9 window_update_kind ≡ Fails Discarded
update_on_closed = refl

-- all that comes behind the gateway's reset is discarded
pub behind_our_reset : (kind : ℕ) → verdict_on 13 kind ≡ Fails Discarded
behind_our_reset kind = refl

-- 11 was skipped: HEADERS, DATA and WINDOW_UPDATE
pub headers_on_skipped : verdict_on 11 headers_kind ≡ Fails (Connection protocol_error)
headers_on_skipped = refl

pub data_on_skipped : verdict_on 11 data_kind ≡ Fails (Connection stream_closed)
data_on_skipped = refl

pub update_on_skipped : verdict_on 11 window_update_kind ≡ Fails Discarded
update_on_skipped = refl

-- HEADERS open 15, which is idle, and DATA on it is an error
pub headers_on_idle : verdict_on 15 headers_kind ≡ Opens
headers_on_idle = refl

pub data_on_idle : verdict_on 15 data_kind ≡ Fails (Connection protocol_error)
data_on_idle = refl

-- an even id is idle, whatever was opened
pub update_on_even : verdict_on 2 window_update_kind ≡ Fails (Connection protocol_error)
update_on_even = refl

-- WINDOW_UPDATE on 0 is for the connection's window
pub update_on_connection : verdict_on 0 window_update_kind ≡ Passes
update_on_connection = refl

-- 100 active streams leave no room for another
pub no_room : verdict 100 Idle headers_kind ≡ Fails (Stream refused_stream)
no_room = refl

-- above the last id of a GOAWAY everything is discarded, DATA on what would be idle too
pub above_goaway : (kind : ℕ) → verdict 0 Beyond kind ≡ Fails Discarded
above_goaway kind = refl

-- when both sides have ended a stream it is closed, in either order
pub both_ends : after LocalEnds (after RemoteEnds Open) ≡ Closed
both_ends = refl

pub both_ends_again : after RemoteEnds (after LocalEnds Open) ≡ Closed
both_ends_again = refl

-- a closed stream stays closed
pub closed_stays : after WeReset Closed ≡ Closed
closed_stays = refl
