-- What the gateway sends before all else: its settings, and what makes the connection's receiving window as large as those of streams (RFC 9113, section
-- 6.9.2).
use Rattle.std.specs.Prelude.{ℕ, ◌+◌, ◌-◌, Bool, true, false, ◌==◌, List, length}
use Rattle.model.specs.Frames.{spell, settings_frame}
use Rattle.model.specs.Limits.{first_window}
use Rattle.model.specs.Logs.{Output}
use Rattle.model.specs.Logs.Output.{ToClient}
use Rattle.model.specs.Tapes.{put}
use Rattle.effects.specs.Sent.{window_update}
use Rattle.refinement.specs.View.{View}
use Rattle.event_handlers.specs.declared.halt.Halt.{Halt}
use Rattle.event_handlers.specs.declared.halt.Halt.TheVariants as stop
use Rattle.event_handlers.specs.paying.Returning.{given_on_connection}

-- by how many octets receiving windows are larger than 65,535
abbrev pub more_in : View → ℕ
more_in kept = kept.inbound.own - first_window

-- what is put out: SETTINGS, and right behind them a WINDOW_UPDATE, unless it would give nothing
abbrev pub greeting_by : Bool → ℕ → List Output → List Output
greeting_by true more outputs = put outputs (ToClient (spell (settings_frame more)))
greeting_by false more outputs = put (put outputs (ToClient (spell (settings_frame more)))) (ToClient (spell (window_update 0 more)))

abbrev pub greeting : ℕ → List Output → List Output
greeting more outputs = greeting_by (more == 0) more outputs

-- what is kept behind the settings, and behind both
abbrev pub announced : ℕ → View → View
announced more kept = record kept { untaken = kept.untaken + length (spell (settings_frame more)) }

abbrev pub behind_greeting_by : Bool → ℕ → View → View
behind_greeting_by true more kept = announced more kept
behind_greeting_by false more kept = given_on_connection (announced more kept) more

abbrev pub behind_greeting : ℕ → View → View
behind_greeting more kept = behind_greeting_by (more == 0) more kept

-- Memory was refused.
abbrev pub IsMemory : Halt → Type 0
IsMemory stop.Memory = Unit {0}
IsMemory stop.Over = ⊥
