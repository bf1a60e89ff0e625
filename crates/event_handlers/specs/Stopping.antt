-- A step goes no further: the connection was ended in place of a frame, since too many octets for the client were untaken.
use Rattle.std.specs.Prelude.{◌≡◌, ℕ, true, nat_lt, List, [], ◌∷◌, ◌++◌, reverse, None, Result, Ok, Err}
use Rattle.model.specs.Limits.{most_untaken}
use Rattle.model.specs.Frames.{goaway, enhance_your_calm}
use Rattle.model.specs.Logs.{Output}
use Rattle.model.specs.Logs.Act.{CloseClient}
use Rattle.model.specs.Setup.{Setup}
use Rattle.model.specs.Tapes.{Entry}
use Rattle.model.specs.Tapes.Entry.{Sent, Did}
use Rattle.theory_errors.specs.Owing.{highest_in}
use Rattle.theory_errors.specs.Quiet.{noted_of}
use Rattle.theory_errors.specs.Rows.{ids_of}
use Rattle.theory_errors.specs.Rows.Slot.{Over}
use Rattle.streams.specs.Asked.{changed}
use Rattle.upstream_connections.specs.Connections.{lives}
use Rattle.theory.specs.Ending.{closed_all}
use Rattle.refinement.specs.View.{View, Pending, balanced}
use Rattle.refinement.specs.Performing.{put_all}
use Rattle.refinement.specs.Rest.{back_of, IsBack}
use Rattle.event_handlers.specs.Comings.{FollowsFrom}
use Rattle.event_handlers.specs.declared.resting.Onward.{Onward}
use Rattle.event_handlers.specs.declared.resting.Onward.TheVariants as went
use Rattle.event_handlers.specs.declared.halt.Halt.{Halt}
use Rattle.event_handlers.specs.declared.halt.Halt.TheVariants as stop

-- Where the connection was ended this is so.
abbrev pub IfOver : Halt → Type 0 → Type 0
IfOver stop.Memory so = Unit {0}
IfOver stop.Over so = so

-- the end: a GOAWAY that asks the client to be calm, with the highest stream, a close for each open connection, by rising number, and the client's
abbrev pub calmed : View → List Entry
calmed kept =
    Did CloseClient
    ∷ (closed_all (reverse (lives kept.upstreams.live)) ++ Sent (noted_of (goaway (highest_in (ids_of kept.inbound.rows)) enhance_your_calm)) ∷ [])

-- Too many octets were untaken for a frame, and this was put out in its place.
abbrev pub IsCalmed : View → List Output → List Output → Type 0
IsCalmed old outputs put_out = (nat_lt most_untaken old.untaken ≡ true) × (put_out ≡ put_all outputs (calmed old))

-- a stream was marked as reset
abbrev pub reset_marked : ℕ → View → View
reset_marked id kept = record kept { inbound = record kept.inbound { rows = changed id (Over true) kept.inbound.rows } }

-- Wherever moves led to what was kept, with what was pending then, moves of the gateway's own lead to the connection's end.
abbrev pub EndsFrom : Setup → View → Pending → List Output → List Output → Type 0
EndsFrom setup old pending outputs put_out = FollowsFrom setup old pending outputs balanced None put_out

-- and where nothing was pending but octets that go back on a connection that goes on
abbrev pub EndsBack : View → List Output → List Output → Type 0
EndsBack old outputs put_out = (back : ℕ) → IsBack old back → (setup : Setup) → EndsFrom setup old (back_of back) outputs put_out

-- ---- what a step comes to

-- It comes to the same; where the connection was ended in place of a frame, it is over.
abbrev pub Concludes : Result Onward Halt → Onward → Type 0
Concludes (Ok went) came = came ≡ went
Concludes (Err stop.Over) came = came ≡ went.Over
Concludes (Err stop.Memory) came = ⊥
