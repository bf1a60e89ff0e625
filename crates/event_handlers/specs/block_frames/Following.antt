-- What is kept of a stream follows what the judgement left of it, and a GOAWAY that is owed.
use Rattle.std.specs.Prelude.{◌≡◌, ◌⊎◌, ◌+◌, ℕ, Bool, true, false, if◌then◌else◌, List, [], ◌∷◌, ◌++◌, length, Option, Some, None, nat_lt, ◌==◌, ◌&&◌}
use Rattle.model.specs.Frames.{Frame, spell, goaway, no_error}
use Rattle.model.specs.Limits.{most_untaken, most_streams}
use Rattle.model.specs.Logs.{Output}
use Rattle.model.specs.Logs.Output.{ToClient}
use Rattle.model.specs.Tapes.{put}
use Rattle.theory_errors.specs.Owing.{highest_in}
use Rattle.theory_errors.specs.Rows.{Row, ids_of}
use Rattle.theory_responses.specs.State as theory_responses
use Rattle.theory_responses.specs.State.{blank}
use Rattle.send_queue.specs.Asked.{is_kept, is_above_all}
use Rattle.theory_requests.specs.Lines.{without}
use Rattle.theory_requests.specs.State.{Held, id_of}
use Rattle.streams.specs.Asked.{is_active}
use Rattle.streams.specs.Sending.{is_served}
use Rattle.window_credit.specs.Sides.{Side}
use Rattle.window_credit.specs.Sides as marks
use Rattle.refinement.specs.View.{View, waiting_for}
use Rattle.event_handlers.specs.Stopping.{IsCalmed}

-- ---- one stream

-- what is on offer for a stream that is active is kept, or begins to be; else none is
abbrev pub offers_if : Bool → ℕ → theory_responses.State → theory_responses.State
offers_if true id offers = if is_kept id offers.kept then offers else record offers { kept = offers.kept ++ blank id ∷ [] }
offers_if false id offers = record offers { kept = theory_responses.without id offers.kept }

-- what is held of a request stays where its stream is served
abbrev pub held_if : Bool → ℕ → List Held → List Held
held_if true id hs = hs
held_if false id hs = without id_of id hs

-- what is kept of its DATA that waits stays where it is active, and else goes back
abbrev pub marks_if : Bool → ℕ → List Side → List Side
marks_if true id sides = sides
marks_if false id sides = marks.without id sides

abbrev pub dropped_if : Bool → ℕ → ℕ
dropped_if true waits = 0
dropped_if false waits = waits

-- all by the rows
abbrev pub followed : ℕ → View → View
followed id kept = record kept {
  offers = offers_if (is_active kept.inbound.rows id) id kept.offers;
  upstreams = record kept.upstreams { held = held_if (is_served kept.inbound.rows id) id kept.upstreams.held };
  marks = marks_if (is_active kept.inbound.rows id) id kept.marks;
}

abbrev pub dropped_by : ℕ → View → ℕ
dropped_by id kept = dropped_if (is_active kept.inbound.rows id) (waiting_for id kept)

-- A stream for which something is to be on offer from now on is above all others.
abbrev pub IsNewest : Bool → ℕ → theory_responses.State → Type 0
IsNewest active id offers = active ≡ true → is_kept id offers.kept ≡ false → is_above_all id offers.kept ≡ true

-- ---- the GOAWAY of the last stream that a connection may have (RFC 9113, section 6.8)

-- the last stream, where it was opened just now
abbrev pub goaway_behind : ℕ → List Row → Option ℕ
goaway_behind before rows = if nat_lt before most_streams && length rows == most_streams then Some (highest_in (ids_of rows)) else None

-- the frame that is owed
abbrev pub goaway_frames : Option ℕ → List Frame
goaway_frames None = []
goaway_frames (Some last) = goaway last no_error ∷ []

-- what is kept, and put out, once it is sent
abbrev pub with_goaway : Option ℕ → View → View
with_goaway None kept = kept
with_goaway (Some last) kept = record kept { untaken = kept.untaken + length (spell (goaway last no_error)) }

abbrev pub put_goaway : Option ℕ → List Output → List Output
put_goaway None outputs = outputs
put_goaway (Some last) outputs = put outputs (ToClient (spell (goaway last no_error)))

-- Not too many octets were untaken for the GOAWAY, where it is owed.
abbrev pub WasFree : Option ℕ → View → Type 0
WasFree None kept = Unit {0}
WasFree (Some last) kept = nat_lt most_untaken kept.untaken ≡ false

-- The connection was ended in place of the GOAWAY, or behind it in place of another frame.
abbrev pub IsCalmedBehind : Option ℕ → View → List Output → List Output → Type 0
IsCalmedBehind goaway old outputs put_out =
    IsCalmed old outputs put_out ⊎ (WasFree goaway old × IsCalmed (with_goaway goaway old) (put_goaway goaway outputs) put_out)
