-- The payload of a frame by its type (RFC 9113, section 6): what is wrong with it, and where its
-- padding stands.
use Rattle.std.specs.Prelude.{◌≡◌, ◌++◌, ℕ, ◌+◌, ◌-◌, ◌*◌, ◌%◌, Bool, not, ◌&&◌, ◌||◌, ◌==◌, nat_lt, nat_le}
use Rattle.std.specs.Prelude.{if◌then◌else◌, List, length, slice_index, Option, Some, None}
use Rattle.model.specs.Frames.{Frame, priority_kind, rst_stream_kind, settings_kind, ping_kind, goaway_kind}
use Rattle.model.specs.Frames.{window_update_kind, is_ack, content_offset, pad_length, content, protocol_error}
use Rattle.model.specs.Frames.{frame_size_error}

-- The rule holds of a frame of this type.
abbrev pub has_kind_then : ℕ → Frame → Bool → Bool
has_kind_then kind frame rule = not (frame.kind == kind) || rule

-- The payload has a length that its type allows (sections 6.1 to 6.10): there is room for the pad length and the priority
-- of those that have them.
abbrev pub is_sized : Frame → Bool
is_sized frame =
    has_kind_then priority_kind frame (length frame.payload == 5)
    && has_kind_then rst_stream_kind frame (length frame.payload == 4)
    && has_kind_then settings_kind frame (length frame.payload % 6 == 0)
    && has_kind_then settings_kind frame (not (is_ack frame) || length frame.payload == 0)
    && has_kind_then ping_kind frame (length frame.payload == 8)
    && has_kind_then goaway_kind frame (nat_le 8 (length frame.payload))
    && has_kind_then window_update_kind frame (length frame.payload == 4)
    && nat_le (content_offset frame) (length frame.payload)

-- The padding is more than what is left for it (sections 6.1 and 6.2).
abbrev pub is_over_padded : Frame → Bool
is_over_padded frame = nat_lt (length frame.payload - content_offset frame) (pad_length frame)

-- What is wrong with a payload.
pub data PayloadFault : Type 0 where
  -- its length isn't allowed (section 4.2)
  WrongSize : PayloadFault
  -- it has too much padding (sections 6.1 and 6.2)
  OverPadded : PayloadFault

-- the fault of a frame's payload: its length is judged before its padding
abbrev pub payload_fault : Frame → Option PayloadFault
payload_fault frame =
    if not (is_sized frame) then Some WrongSize else (if is_over_padded frame then Some OverPadded else None)

-- the code of the connection error that a fault is (sections 4.2, 6.1 and 6.2)
abbrev pub code_of_payload : PayloadFault → ℕ
code_of_payload WrongSize = frame_size_error
code_of_payload OverPadded = protocol_error

-- the number in the first four octets, the highest first
abbrev pub number_field : List ℕ → ℕ
number_field text =
    16777216 * slice_index text 0 + 65536 * slice_index text 1 + 256 * slice_index text 2 + slice_index text 3

-- The payload is what stands before the content, the content, and as much padding as it says (sections 6.1 and 6.2).
pub record IsPadded (frame : Frame) : Type 0 where
  pub front : List ℕ
  pub padding : List ℕ
  pub front_length : length front ≡ content_offset frame
  pub padding_length : length padding ≡ pad_length frame
  pub is : frame.payload ≡ front ++ content frame ++ padding
