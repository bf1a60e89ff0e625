-- The parts of a payload by the frame's type (RFC 9113, section 6), without padding, priority octets
-- and reserved bits.
use Rattle.std.specs.Prelude.{ℕ, ◌%◌, ◌==◌, if◌then◌else◌, List, [], ◌∷◌}
use Rattle.model.specs.Frames.{Frame, data_kind, headers_kind, rst_stream_kind, settings_kind, ping_kind, window_update_kind, continuation_kind, content}
use Rattle.model.specs.Payloads.{number_field}

-- What a payload says.
pub data Parts : Type 0 where
  -- data without padding (section 6.1)
  Data : (octets : List ℕ) → Parts
  -- the fragment of a header block, without padding and priority (section 6.2)
  Headers : (fragment : List ℕ) → Parts
  -- an error code (section 6.4)
  RstStream : (code : ℕ) → Parts
  -- the octets of settings, none with ACK (section 6.5)
  Settings : (entries : List ℕ) → Parts
  -- eight octets (section 6.7)
  Ping : (octets : List ℕ) → Parts
  -- an increment, without the reserved bit above it (section 6.9)
  WindowUpdate : (increment : ℕ) → Parts
  -- the next fragment of a header block (section 6.10)
  Continuation : (fragment : List ℕ) → Parts
  -- what the gateway doesn't use: PRIORITY, PUSH_PROMISE, GOAWAY and types that aren't known (sections 4.1, 6.3, 6.6, 6.8)
  Other : Parts

-- the parts beside this type, if it is among those that are used
abbrev pub parts_beside : ℕ → List (ℕ × Parts) → Parts
parts_beside kind [] = Other
parts_beside kind ((used, parts) ∷ more) = if kind == used then parts else parts_beside kind more

-- what the payload of a frame says that has no fault
abbrev pub parts_of : Frame → Parts
parts_of frame =
    parts_beside frame.kind (
    (data_kind, Data (content frame))
    ∷ (headers_kind, Headers (content frame))
    ∷ (rst_stream_kind, RstStream (number_field frame.payload))
    ∷ (settings_kind, Settings frame.payload)
    ∷ (ping_kind, Ping frame.payload)
    ∷ (window_update_kind, WindowUpdate (number_field frame.payload % 2147483648))
    ∷ (continuation_kind, Continuation (content frame))
    ∷ []
    )
