-- Frames beside responses.
use Rattle.std.specs.Prelude.{◌≡◌, ◌≤◌, ◌<◌, ◌⊎◌, length}
use Rattle.model.specs.Frames.{Frame, goaway_kind, settings_frame, settings_ack, goaway, no_error}
use Rattle.model.specs.ErrorClause.{ping_ack, rst_stream}
use Rattle.effects.specs.Sent.{window_update}
use Rattle.theory_requests.specs.State.{Due}
use Rattle.theory_requests.specs.State.Due.{Nothing}
use Rattle.event_handlers.specs.declared.paying.control.Control.{Control}
use Rattle.event_handlers.specs.declared.paying.control.Control.TheVariants as control

-- the frame
abbrev pub frame_of : Control → Frame
frame_of (control.Settings more_room) = settings_frame more_room
frame_of control.SettingsAck = settings_ack
frame_of (control.PingAck octets) = ping_ack octets.now
frame_of (control.Goaway last code) = goaway last code
frame_of (control.Reset stream code) = rst_stream stream code
frame_of (control.Update stream octets) = window_update stream octets

-- It may be sent: nothing is due to an upstream, or it is a GOAWAY, which goes before that (RFC 9113, section 6.8).
abbrev pub MayPay : Due → Frame → Type 0
MayPay due frame = (due ≡ Nothing) ⊎ (frame.kind ≡ goaway_kind)

-- A window isn't past the greatest, the octets of a PING are no more than a frame may have, and a stream has a number of 31 bits.
abbrev pub IsShort : Control → Type 0
IsShort (control.Settings more_room) = more_room < 2147418113
IsShort (control.PingAck octets) = length octets.now ≤ 16384
IsShort (control.Reset stream code) = stream < 2147483648
IsShort (control.Update stream octets) = stream < 2147483648
IsShort control = Unit {0}

-- It may be owed, and changes no stream: a GOAWAY only behind the last stream or the operator's wish for the end, without an error.
abbrev pub IsOwed : Control → Type 0
IsOwed (control.Reset stream code) = ⊥
IsOwed (control.Update stream octets) = ⊥
IsOwed (control.Goaway last code) = code ≡ no_error
IsOwed control = Unit {0}
