-- Frames of HTTP/2, how they are spelled, and how a text reads as frames (RFC 9113, sections 3.4, 4 and 6).
use Rattle.std.specs.Prelude.{◌≡◌, ℕ, ◌+◌, ◌-◌, ◌*◌, ◌/◌, ◌%◌, ◌<◌, ◌≤◌, Bool, ◌&&◌, ◌||◌, ◌==◌, if◌then◌else◌, List}
use Rattle.std.specs.Prelude.{[], ◌∷◌, ◌++◌, length, take, drop, slice_index, codes}

-- A frame (section 4.1): its type, its flags, the stream that it belongs to, 0 for the whole connection, and its payload.
pub record Frame : Type 0 where
  pub kind : ℕ
  pub flags : ℕ
  pub id : ℕ
  pub payload : List ℕ

-- What can be spelled: numbers that fit their fields (section 4.1), and a payload of at most 16,384 octets, the first
-- value of SETTINGS_MAX_FRAME_SIZE (section 4.2): the gateway doesn't raise it, and makes no use of a client's that is greater.
pub record Fits (frame : Frame) : Type 0 where
  pub kind : frame.kind < 256
  pub flags : frame.flags < 256
  pub id : frame.id < 2147483648
  pub payload : length frame.payload ≤ 16384

-- a number as three octets, the highest first
abbrev pub spell_length : ℕ → List ℕ
spell_length number = number / 65536 ∷ (number / 256) % 256 ∷ number % 256 ∷ []

-- a number as four octets, the highest first
abbrev pub spell_number : ℕ → List ℕ
spell_number number = number / 16777216 ∷ (number / 65536) % 256 ∷ (number / 256) % 256 ∷ number % 256 ∷ []

-- The spelling of a frame with this reserved bit (section 4.1): the payload's length, the type, the flags, the reserved
-- bit above the 31 bits of the stream's number, and the payload.
abbrev pub spelled : ℕ → Frame → List ℕ
spelled bit frame =
    spell_length (length frame.payload) ++ frame.kind ∷ frame.flags ∷ spell_number (2147483648 * bit + frame.id) ++ frame.payload

-- what is written: the reserved bit is 0
abbrev pub spell : Frame → List ℕ
spell frame = spelled 0 frame

-- The octets are read as the frame: the reserved bit is ignored (section 4.1).
pub record Spells (octets : List ℕ) (frame : Frame) : Type 0 where
  pub fits : Fits frame
  pub bit : ℕ
  pub is_bit : bit < 2
  pub is : octets ≡ spelled bit frame

-- The text is these frames, one after the other, and then the rest.
abbrev pub Reading : List ℕ → List Frame → List ℕ → Type 0
Reading text [] rest = text ≡ rest
Reading text (frame ∷ frames) rest =
    (octets : List ℕ) × (more : List ℕ) × Spells octets frame × (text ≡ octets ++ more) × Reading more frames rest

-- No front of the text is a whole frame.
abbrev pub BeginsNoFrame : List ℕ → Type 0
BeginsNoFrame text = (octets more : List ℕ) (frame : Frame) → Spells octets frame → text ≡ octets ++ more → ⊥

-- the number in the first three octets
abbrev pub length_field : List ℕ → ℕ
length_field text = 65536 * slice_index text 0 + 256 * slice_index text 1 + slice_index text 2

-- A whole frame header stands there, with a length that is over the limit (section 4.2).
pub record IsTooLong (text : List ℕ) : Type 0 where
  pub header : 9 ≤ length text
  pub length_over : 16384 < length_field text

-- the 24 octets with which a client begins, `PRI * HTTP/2.0`, `SM` and line ends (section 3.4)
abbrev pub preface : List ℕ
preface = codes "PRI * HTTP/2.0\r\n\r\nSM\r\n\r\n"

-- All that a client sends (section 3.4): the preface, frames, and a rest that begins with no whole frame.
pub record IsConnection (text : List ℕ) (frames : List Frame) (rest : List ℕ) : Type 0 where
  pub after_preface : List ℕ
  pub begins : text ≡ preface ++ after_preface
  pub reading : Reading after_preface frames rest
  pub ends : BeginsNoFrame rest

-- The types of frames (section 6).
abbrev pub data_kind : ℕ
data_kind = 0

abbrev pub headers_kind : ℕ
headers_kind = 1

abbrev pub priority_kind : ℕ
priority_kind = 2

abbrev pub rst_stream_kind : ℕ
rst_stream_kind = 3

abbrev pub settings_kind : ℕ
settings_kind = 4

abbrev pub push_promise_kind : ℕ
push_promise_kind = 5

abbrev pub ping_kind : ℕ
ping_kind = 6

abbrev pub goaway_kind : ℕ
goaway_kind = 7

abbrev pub window_update_kind : ℕ
window_update_kind = 8

abbrev pub continuation_kind : ℕ
continuation_kind = 9

-- Flags are bits, and one that its type doesn't define is ignored (section 4.1).
abbrev pub has_flag : ℕ → Frame → Bool
has_flag bit frame = (frame.flags / bit) % 2 == 1

-- END_STREAM of DATA and HEADERS (sections 6.1 and 6.2)
abbrev pub ends_stream : Frame → Bool
ends_stream frame = (frame.kind == data_kind || frame.kind == headers_kind) && has_flag 1 frame

-- ACK of SETTINGS and PING (sections 6.5 and 6.7)
abbrev pub is_ack : Frame → Bool
is_ack frame = (frame.kind == settings_kind || frame.kind == ping_kind) && has_flag 1 frame

-- END_HEADERS of HEADERS and CONTINUATION (sections 6.2 and 6.10)
abbrev pub ends_headers : Frame → Bool
ends_headers frame = (frame.kind == headers_kind || frame.kind == continuation_kind) && has_flag 4 frame

-- PADDED of DATA and HEADERS (sections 6.1 and 6.2)
abbrev pub is_padded : Frame → Bool
is_padded frame = (frame.kind == data_kind || frame.kind == headers_kind) && has_flag 8 frame

-- PRIORITY of HEADERS (section 6.2)
abbrev pub has_priority : Frame → Bool
has_priority frame = frame.kind == headers_kind && has_flag 32 frame

-- the octets before the content: one of the pad length, and five of the priority (sections 6.1 and 6.2)
abbrev pub content_offset : Frame → ℕ
content_offset frame = (if is_padded frame then 1 else 0) + (if has_priority frame then 5 else 0)

-- how many octets of padding end the payload (sections 6.1 and 6.2)
abbrev pub pad_length : Frame → ℕ
pad_length frame = if is_padded frame then slice_index frame.payload 0 else 0

-- The data of DATA, and the fragment of HEADERS or CONTINUATION (sections 6.1, 6.2 and 6.10): the payload without the
-- octets before the content and without the padding.
abbrev pub content : Frame → List ℕ
content frame =
    take (length frame.payload - content_offset frame - pad_length frame) (drop (content_offset frame) frame.payload)

-- The error codes (section 7) that the gateway uses.
abbrev pub no_error : ℕ
no_error = 0

abbrev pub protocol_error : ℕ
protocol_error = 1

abbrev pub internal_error : ℕ
internal_error = 2

abbrev pub flow_control_error : ℕ
flow_control_error = 3

abbrev pub stream_closed : ℕ
stream_closed = 5

abbrev pub frame_size_error : ℕ
frame_size_error = 6

abbrev pub refused_stream : ℕ
refused_stream = 7

abbrev pub cancel : ℕ
cancel = 8

abbrev pub compression_error : ℕ
compression_error = 9

abbrev pub enhance_your_calm : ℕ
enhance_your_calm = 11

-- one setting: its identifier in two octets and its value in four (section 6.5.1)
abbrev pub setting : ℕ → ℕ → List ℕ
setting identifier value = identifier / 256 ∷ identifier % 256 ∷ spell_number value

-- The first size of streams' windows as an entry (4), where it isn't 65,535 (section 6.5.2): so many octets more.
abbrev pub window_entry : ℕ → List ℕ
window_entry more = if more == 0 then [] else setting 4 (65535 + more)

-- The settings that the gateway announces (section 6.5.2): at most 100 concurrent streams (3), header lists of at
-- most 16,384 octets (6), and the windows in which it receives, which have so many octets more than 65,535.
abbrev pub settings_frame : ℕ → Frame
settings_frame more = record { kind = settings_kind; flags = 0; id = 0; payload = setting 3 100 ++ (setting 6 16384 ++ window_entry more) }

-- the answer to a client's settings (section 6.5.3)
abbrev pub settings_ack : Frame
settings_ack = record { kind = settings_kind; flags = 1; id = 0; payload = [] }

-- the end of a connection: the last stream that may have been acted on, and an error code (section 6.8)
abbrev pub goaway : ℕ → ℕ → Frame
goaway last code = record { kind = goaway_kind; flags = 0; id = 0; payload = spell_number last ++ spell_number code }
