-- Requests that aren't whole, and what is due for them.
use Rattle.std.specs.Prelude.{◌≡◌, ℕ, Bool, true, false, List, ◌++◌, Option, Some, None}
use Rattle.model.specs.Messages.{Field}
use Rattle.request_buffer.specs.Waits.{MayEnd}
use Rattle.request_buffer.specs.Going.{MayGo}
use Rattle.h1_writer.specs.Sending.{Stage, Continues}
use Rattle.h1_writer.specs.Sending.Stage.{Whole}
use Rattle.theory_requests.specs.Lines.{Line, least_idle}
use Rattle.theory_requests.specs.State as theory_requests
use Rattle.theory_requests.specs.State.{Way, Held, id_of, held_with, is_whole, unless_whole, to_begin, to_send}
use Rattle.theory_requests.specs.State.Way.{Waiting, Going, Dropped}
use Rattle.theory_requests.specs.State.Due.{Nothing, ToOpen, ToUse, ToSend}
use Rattle.upstream_connections.specs.declared.held.OutgoingRequest.{OutgoingRequest}
use Rattle.upstream_connections.specs.declared.held.Due.{Due}
use Rattle.upstream_connections.specs.declared.held.Due.TheVariants as due
use Rattle.upstream_connections.specs.Places.{IsAt, IsNowhere}

-- what a text waits for: nothing, where no rest of it is to come
abbrev pub stage_of : Option Stage → Stage
stage_of None = Whole
stage_of (Some stage) = stage

-- what is due for a request that goes out: a connection that is to be opened
abbrev pub due_for : OutgoingRequest → theory_requests.Due
due_for outgoing = ToOpen outgoing.stream outgoing.route outgoing.text (stage_of outgoing.rest)

-- or an idle one
abbrev pub due_on : ℕ → OutgoingRequest → theory_requests.Due
due_on number outgoing = ToUse number outgoing.stream outgoing.text (stage_of outgoing.rest)

-- what is due, as it is answered
abbrev pub due_by : Due → theory_requests.Due
due_by due.Nothing = Nothing
due_by (due.ToOpen outgoing) = due_for outgoing
due_by (due.ToUse number outgoing) = due_on number outgoing
due_by (due.ToSend number text) = ToSend number text.items

-- where a connection of its route is idle, the least takes the place of one that is to be opened
abbrev pub on_idle : List Line → theory_requests.Due → theory_requests.Due
on_idle ls (ToOpen stream route text stage) = to_begin (least_idle route ls) stream route text stage
on_idle ls due = due

-- ---- octets of a body

-- These octets may come of a request on this way, and end its body or don't.
abbrev pub MayTake : List ℕ → Bool → Way → Type 0
MayTake octets ends (Waiting route text stage body) = ends ≡ true → MayEnd (record { route = route; text = text; stage = stage; body = body }) octets
MayTake octets ends (Going k stage) = MayGo stage octets ends
MayTake octets ends Dropped = Unit {0}

-- They may come of a stream of which this is held, or nothing.
abbrev pub MayTakeOf : List ℕ → Bool → Option Held → Type 0
MayTakeOf octets ends None = Unit {0}
MayTakeOf octets ends (Some h) = MayTake octets ends h.way

-- A request that waits is whole with them: its text is due, on the least of these connections that is idle and of its route, if there is one; and
-- behind that of the head what is written for the whole body at once, and for these trailers.
pub record IsEnded (ls : List Line) (id : ℕ) (octets : List ℕ) (trailers : List Field) (route : ℕ) (text : List ℕ) (old : Stage) (body : List ℕ)
    (due : theory_requests.Due) : Type 0 where
  pub written : List ℕ
  pub continues : Continues old written (body ++ octets) trailers Whole
  pub due_is : due ≡ to_begin (least_idle route ls) id route (text ++ written) Whole

-- A request goes out on a connection: what is written for them is due there, and it is whole with them just where they end its body; then
-- these trailers stand behind it.
pub record IsPassed (octets : List ℕ) (trailers : List Field) (ends : Bool) (k : ℕ) (old : Stage) (due : theory_requests.Due) (next : Option Way) : Type 0 where
  pub written : List ℕ
  pub stage : Stage
  pub continues : Continues old written octets trailers stage
  pub whole : is_whole stage ≡ ends
  pub due_is : due ≡ to_send k written
  pub next_is : next ≡ unless_whole stage (Going k stage)

-- What is due for them of a request that waits, and its way then, if it is on one: they are held, too, unless they end its body.
abbrev pub Gathers : List Line → ℕ → List ℕ → List Field → Bool → ℕ → List ℕ → Stage → List ℕ → theory_requests.Due → Option Way → Type 0
Gathers ls id octets trailers true route text old body due next = IsEnded ls id octets trailers route text old body due × (next ≡ None)
Gathers ls id octets trailers false route text old body due next = (due ≡ Nothing) × (next ≡ Some (Waiting route text old (body ++ octets)))

-- The same of a request on any way.
abbrev pub GoesBy : List Line → ℕ → List ℕ → List Field → Bool → Way → theory_requests.Due → Option Way → Type 0
GoesBy ls id octets trailers ends (Waiting route text old body) due next = Gathers ls id octets trailers ends route text old body due next
GoesBy ls id octets trailers ends (Going k old) due next = IsPassed octets trailers ends k old due next
GoesBy ls id octets trailers ends Dropped due next = (due ≡ Nothing) × (next ≡ Some Dropped)

-- What is due for them of a stream's request, and what is held behind them; of one that is dropped all stays as it is.
abbrev pub TakesBy : List Line → ℕ → List ℕ → List Field → Bool → List Held → Way → theory_requests.Due → List Held → Type 0
TakesBy ls id octets trailers ends hs (Waiting route text old body) due new = (next : Option Way)
    × Gathers ls id octets trailers ends route text old body due next × (new ≡ held_with id next hs)
TakesBy ls id octets trailers ends hs (Going k old) due new = (next : Option Way) × IsPassed octets trailers ends k old due next × (new ≡ held_with id next hs)
TakesBy ls id octets trailers ends hs Dropped due new = (due ≡ Nothing) × (new ≡ hs)

-- The same where this is held of the stream; where nothing is, all stays as it is.
abbrev pub Takes : List Line → ℕ → List ℕ → List Field → Bool → List Held → Option Held → theory_requests.Due → List Held → Type 0
Takes ls id octets trailers ends hs None due new = (due ≡ Nothing) × (new ≡ hs)
Takes ls id octets trailers ends hs (Some h) due new = TakesBy ls id octets trailers ends hs h.way due new

-- ---- where it is held

-- what stands where nothing is held
abbrev pub no_held : Held
no_held = record { id = 0; way = Dropped }

-- What is held at this place is of the stream.
abbrev pub IsHeldAt : List Held → ℕ → ℕ → Type 0
IsHeldAt hs id place = IsAt id_of no_held hs id place

-- Nothing is held of it.
abbrev pub IsHeldNowhere : List Held → ℕ → Type 0
IsHeldNowhere hs id = IsNowhere id_of no_held hs id
