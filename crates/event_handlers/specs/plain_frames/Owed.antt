-- The frame that is owed for a frame of the client, and what is kept and put out once it was sent.
use Rattle.std.specs.Prelude.{◌≡◌, ℕ, ◌+◌, false, nat_lt, List, length, Option, Some, None}
use Rattle.model.specs.ErrorClause.{ping_ack, rst_stream}
use Rattle.model.specs.Frames.{Frame, spell, settings_ack}
use Rattle.model.specs.Limits.{most_untaken}
use Rattle.model.specs.Logs.{Output}
use Rattle.model.specs.Logs.Output.{ToClient}
use Rattle.model.specs.Tapes.{put}
use Rattle.refinement.specs.View.{View}
use Rattle.event_handlers.specs.declared.plain_frames.taking.Owed.{Owed}
use Rattle.event_handlers.specs.declared.plain_frames.taking.Owed.TheVariants as owed

-- the frame, behind this one
abbrev pub owed_frame : Owed → Frame → Option Frame
owed_frame owed.Nothing frame = None
owed_frame owed.SettingsAck frame = Some settings_ack
owed_frame owed.PingAck frame = Some (ping_ack frame.payload)
owed_frame (owed.Reset code) frame = Some (rst_stream frame.id code)

abbrev pub untaken_behind : Option Frame → ℕ → ℕ
untaken_behind None count = count
untaken_behind (Some frame) count = count + length (spell frame)

-- it was sent
abbrev pub with_sent : Option Frame → View → View
with_sent frame kept = record kept { untaken = untaken_behind frame kept.untaken }

abbrev pub put_sent : Option Frame → List Output → List Output
put_sent None outputs = outputs
put_sent (Some frame) outputs = put outputs (ToClient (spell frame))

-- It could be, if there is one: few octets were untaken.
abbrev pub WasFree : Option Frame → View → Type 0
WasFree None kept = Unit {0}
WasFree (Some frame) kept = nat_lt most_untaken kept.untaken ≡ false
