-- Where a gateway stands: for which log, and behind which moves by the rule.
use Rattle.std.specs.Prelude.{◌≡◌, ℕ, Bool, true, false, ◌&&◌, if◌then◌else◌, List, [], ◌∷◌, ◌++◌, length}
use Rattle.model.specs.Octets.{IsFront, IsStrictFront}
use Rattle.model.specs.Frames.{Reading, preface}
use Rattle.model.specs.Logs.{Event, Output, Step, client_in}
use Rattle.model.specs.Setup.{Setup, Route}
use Rattle.model.specs.Known.{Known}
use Rattle.model.specs.Tapes.{Entry, came, breaches, frames_of, IsNoPreface, IsStep}
use Rattle.model.specs.Rooms.{IsAdmitted}
use Rattle.theory_errors.specs.Rule.{AreKnown}
use Rattle.theory_responses.specs.Held.{FitRooms}
use Rattle.frames.specs.Views.{IsUnfinished}
use Rattle.upstream_response.specs.declared.answer.ResponsePassing.{ResponsePassing}
use Rattle.theory.specs.Moves.{Move}
use Rattle.theory.specs.State.{State, conducts, tape_of}
use Rattle.theory.specs.Steps.{AreAnsweredBy}
use Rattle.refinement.specs.View.{View, Pending, balanced, first_pending, Leads}
use Rattle.event_handlers.specs.Comings.{IsOver}
use Rattle.event_handlers.specs.Resting.{IsSettled, IsPassedBy}
use Rattle.event_handlers.specs.Admission as steps
use Rattle.gateway.specs.Setups.{IsServable}
use Rattle.gateway.specs.declared.preface.Start.{Start}
use Rattle.gateway.specs.declared.preface.Start.TheVariants as start
use Rattle.gateway.specs.declared.phase.Phase.{Phase}
use Rattle.gateway.specs.declared.phase.Phase.TheVariants as phase

-- what a text is to the preface
abbrev pub IsStart : List ℕ → Start → Type 0
IsStart text start.Whole = IsFront preface text
IsStart text start.Part = IsStrictFront text preface
IsStart text start.Wrong = IsNoPreface text

-- ---- what a gateway is seen as

-- By what requests are judged, how bodies are passed on, and whether connections to upstreams are kept, and how many of
-- them idle; how far the connection is; the octets of the client
-- that aren't read; what is kept; and how many streams the client had opened when that was let go of.
pub record Standing : Type 0 where
  pub routes : List Route
  pub max_body : ℕ
  pub passing : ResponsePassing
  pub keep : Bool
  pub most_idle : ℕ
  pub phase : Phase
  pub partial : List ℕ
  pub kept : View
  pub opened : ℕ

-- It serves by this setup.
pub record Serves (setup : Setup) (g : Standing) : Type 0 where
  pub servable : IsServable setup
  pub routes : setup.routes ≡ g.routes
  pub max_body : setup.max_body ≡ g.max_body
  pub passing : IsPassedBy setup g.passing
  pub keep : g.keep ≡ setup.keep
  pub most_idle : g.most_idle ≡ setup.most_idle

-- whether something may come in: the client wasn't closed, and memory wasn't refused
abbrev pub is_open : Phase → Bool
is_open phase.New = true
is_open phase.Preface = true
is_open phase.Frames = true
is_open phase.Closed = false
is_open phase.Dead = false

-- whether memory was refused
abbrev pub is_dead : Phase → Bool
is_dead phase.Dead = true
is_dead _ = false

-- the event may come, as far as the gateway tells
abbrev pub admits : Standing → Event → Bool
admits g event = is_open g.phase && steps.admits g.kept event

-- how many octets of an upstream may come in one event, as far as it tells
abbrev pub room_of : Standing → ℕ → ℕ
room_of g k = if is_open g.phase then steps.room_on g.kept k else 0

-- how many streams the client opened
abbrev pub opened_in : Standing → ℕ
opened_in g = if is_open g.phase then length g.kept.inbound.rows else g.opened

-- ---- where it stands

-- What is to be done before all else: the gateway's settings are owed where nothing came yet, and the connection's receiving window is to be larger by so
-- many octets.
abbrev pub pending_in : ℕ → Phase → Pending
pending_in more phase.New = first_pending more
pending_in more _ = balanced

-- What is kept of the client's octets before its preface was read, and behind it.
pub record IsUnbegun (partial text : List ℕ) (t : List Entry) : Type 0 where
  pub front : IsStrictFront text preface
  pub all : partial ≡ text
  pub no_frame : came t ≡ []

pub record IsBehind (partial text : List ℕ) (t : List Entry) : Type 0 where
  pub behind : List ℕ
  pub begins : text ≡ preface ++ behind
  pub reading : Reading behind (frames_of (came t)) partial
  pub rest : IsUnfinished partial

abbrev pub IsReadIn : Phase → List ℕ → List ℕ → List Entry → Type 0
IsReadIn phase.Frames partial text t = IsBehind partial text t
IsReadIn _ partial text t = IsUnbegun partial text t

-- Where nothing came yet, nothing was put out for the client.
abbrev pub IsFresh : Phase → View → Type 0
IsFresh phase.New kept = kept.untaken ≡ 0
IsFresh _ kept = Unit {0}

-- The connection is open: moves lead to what is kept, where something may come in, and the octets that are kept are those that aren't read.
pub record IsOpen (setup : Setup) (phase : Phase) (partial : List ℕ) (kept : View) (text : List ℕ) (run : List Move) : Type 0 where
  pub state : State
  pub leads : Leads setup run kept (pending_in setup.more_room phase) state
  pub settled : IsSettled kept
  pub octets : IsReadIn phase partial text (tape_of run)
  pub unbroken : breaches (tape_of run) ≡ []
  pub fresh : IsFresh phase kept

-- It is open, or was closed by the rule; once memory was refused nothing is said.
abbrev pub IsIn : Phase → Setup → List ℕ → View → List ℕ → List Move → Type 0
IsIn phase.Closed setup partial kept text run = IsOver setup run
IsIn phase.Dead setup partial kept text run = ⊥
IsIn phase setup partial kept text run = IsOpen setup phase partial kept text run

-- Each step of the log, the newest first, is answered by moves that came by the rule, whatever is known beside them.
abbrev pub AreAnswered : Setup → List Step → List Move → Type 0
AreAnswered setup log run = (known : Known) → known.setup ≡ setup → AreKnown known (conducts run) → AreAnsweredBy known log run

-- The event may come behind these moves, whatever is known beside them.
abbrev pub MayCome : Setup → List Move → Event → Type 0
MayCome setup run event = (known : Known) → known.setup ≡ setup → AreKnown known (conducts run) → IsAdmitted known (tape_of run) event

-- Each event that came with them fitted the room that its connection had then, whatever is known beside them.
abbrev pub AreFitting : Setup → List Move → Type 0
AreFitting setup run = (known : Known) → known.setup ≡ setup → AreKnown known (conducts run) → FitRooms known (tape_of run)

-- The gateway stands for the log, the newest step first, behind these moves, and memory was never refused.
pub record Stands (setup : Setup) (g : Standing) (log : List Step) (run : List Move) : Type 0 where
  pub serves : Serves setup g
  pub answered : AreAnswered setup log run
  pub fits : AreFitting setup run
  pub is_in : IsIn g.phase setup g.partial g.kept (client_in log) run

-- Afterwards it stands for the log with the event and what was put out for it, behind more moves, whose entries are those of that step.
pub record StandsNext (setup : Setup) (new : Standing) (log : List Step) (run : List Move) (event : Event) (put_out : List Output) : Type 0 where
  pub segment : List Move
  pub step_is : IsStep (record { event = event; outputs = put_out }) (tape_of segment)
  pub stands : Stands setup new (record { event = event; outputs = put_out } ∷ log) (segment ++ run)
