-- Frames that the gateway sends, beside those of the model's.
use Rattle.std.specs.Prelude.{ℕ, Bool, if◌then◌else◌, List, [], ◌∷◌}
use Rattle.model.specs.Frames.{Frame, data_kind, window_update_kind, spell, spell_number}
use Rattle.model.specs.Logs.{Output}
use Rattle.model.specs.Logs.Output.{ToClient}
use Rattle.model.specs.Tapes.{put}

-- octets of a body, without padding, which end the stream or don't (RFC 9113, section 6.1)
abbrev pub data_frame : ℕ → Bool → List ℕ → Frame
data_frame stream ends octets = record { kind = data_kind; flags = if ends then 1 else 0; id = stream; payload = octets }

-- so many octets are given back on a stream, or on the connection, which is 0 (RFC 9113, section 6.9)
abbrev pub window_update : ℕ → ℕ → Frame
window_update id increment = record { kind = window_update_kind; flags = 0; id = id; payload = spell_number increment }

-- outputs, the newest first, with frames put behind them, the first of the frames first
abbrev pub put_frames : List Output → List Frame → List Output
put_frames outputs [] = outputs
put_frames outputs (frame ∷ frames) = put_frames (put outputs (ToClient (spell frame))) frames
