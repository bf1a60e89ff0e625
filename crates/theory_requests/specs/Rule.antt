-- Which move may come next, by what is kept and by what is told before and behind it.
use Rattle.std.specs.Prelude.{◌≡◌, ℕ, suc, ◌<◌, Bool, true, false, not, ◌⊎◌, List, [], ◌∷◌, ◌++◌, Some}
use Rattle.std.specs.List.{list_any}
use Rattle.model.specs.Http2.{authority_of, path_of}
use Rattle.model.specs.Messages.{Field, Item, ends_with}
use Rattle.model.specs.Frames.{goaway_kind}
use Rattle.model.specs.Setup.{Setup, IsFirstMatch}
use Rattle.model.specs.Logs.{Event, Act}
use Rattle.model.specs.Logs.Event.{Up, UpEnd}
use Rattle.model.specs.Logs.Act.{Open, ToUp, Close, CloseClient}
use Rattle.model.specs.Tapes.{Noted}
use Rattle.model.specs.Courses.{upstream_of}
use Rattle.model.specs.ErrorClause.{is_calming}
use Rattle.request_rules.specs.Heads.{parts_of}
use Rattle.h1_writer.specs.Sending.{Stage, Sending, Continues}
use Rattle.theory_requests.specs.Written.{octets_of, trailers_in}
use Rattle.theory_requests.specs.Told.{Told, nothing_told}
use Rattle.theory_requests.specs.Lines.{Answer, Line, line_of}
use Rattle.theory_requests.specs.Lines.Answer.{Pending, Idle, Done}
use Rattle.theory_requests.specs.State.{held_of, State, Move, Turn, is_whole, state_of}
use Rattle.theory_requests.specs.State.Way.{Waiting, Going, Dropped}
use Rattle.theory_requests.specs.State.Due.{Nothing, ToOpen, ToUse, ToSend}
use Rattle.theory_requests.specs.State.Move.{Takes, Begins, Gathers, Passes, Drops, Breaks, Notes, Hears, Fails, Sends, Acts}

-- ---- what comes in

-- a connection is done with: its response is whole and it isn't idle, or it isn't whole and its stream isn't served any more
abbrev pub is_done_by : Answer → Bool → Bool
is_done_by Pending served = not served
is_done_by Idle served = false
is_done_by Done served = true

abbrev pub is_done : Told → Line → Bool
is_done told l = is_done_by l.answer (told.served l.stream)

-- Something may come in: nothing is due, no connection is done with, and the connection to the client goes on.
pub record MayCome (told : Told) (s : State) : Type 0 where
  pub nothing : s.due ≡ Nothing
  pub none_done : list_any (is_done told) s.live ≡ false
  pub goes_on : told.ends ≡ false

-- The frame is on a stream, which is served with it, and the connection goes on.
pub record IsServing (behind : Told) (noted : Noted) : Type 0 where
  pub counted : 0 < noted.frame.id
  pub served : behind.served noted.frame.id ≡ true
  pub goes_on : behind.ends ≡ false

-- A request's head has come, of which this was written: its route is the first that matches.
pub record MayBegin (setup : Setup) (behind : Told) (noted : Noted) (head : List Field) (ended : Bool) (route : ℕ) (text : List ℕ)
    (stage : Stage) : Type 0 where
  pub serving : IsServing behind noted
  pub by_route : IsFirstMatch setup.routes (authority_of head) (path_of head) route
  pub sending : Sending setup.keep (parts_of head) ended text [] [] stage
  pub whole : is_whole stage ≡ ended

-- What is written where an item comes of a request that waits: the whole body and the trailers where the item ends it, and nothing
-- before.
abbrev pub IsGathered : Bool → Stage → List ℕ → List Field → List ℕ → Stage → Type 0
IsGathered true old body trailers written stage = Continues old written body trailers stage × (is_whole stage ≡ true)
IsGathered false old body trailers written stage = (written ≡ []) × (stage ≡ old)

-- An item has come of a request that waits with this text and these octets of its body: its octets come behind them.
pub record MayGather (behind : Told) (s : State) (noted : Noted) (item : Item) (route : ℕ) (text : List ℕ) (old : Stage) (body written : List ℕ)
    (stage : Stage) : Type 0 where
  pub serving : IsServing behind noted
  pub found : held_of noted.frame.id s.held ≡ Some (record { id = noted.frame.id; way = Waiting route text old body })
  pub gathered : IsGathered (ends_with item) old (body ++ octets_of item) (trailers_in item) written stage

-- An item has come of a request that goes out on this connection: what was written goes on with it, and is whole where it ends the stream.
pub record MayPass (behind : Told) (s : State) (noted : Noted) (item : Item) (k : ℕ) (old : Stage) (written : List ℕ) (stage : Stage) : Type 0 where
  pub serving : IsServing behind noted
  pub found : held_of noted.frame.id s.held ≡ Some (record { id = noted.frame.id; way = Going k old })
  pub continues : Continues old written (octets_of item) (trailers_in item) stage
  pub whole : is_whole stage ≡ ends_with item

-- An item has come of a request whose connection is closed.
pub record MayDrop (behind : Told) (s : State) (noted : Noted) : Type 0 where
  pub serving : IsServing behind noted
  pub found : held_of noted.frame.id s.held ≡ Some (record { id = noted.frame.id; way = Dropped })

-- the event is octets of an upstream, or the end of its connection
abbrev pub IsAnswer : Event → Type 0
IsAnswer (Up k piece) = Unit {0}
IsAnswer (UpEnd k) = Unit {0}
IsAnswer event = ⊥

-- the connection with a number is open
abbrev pub IsKept : State → ℕ → Type 0
IsKept s k = (line : Line) × (line_of k s.live ≡ Some line)

-- ---- what goes out

-- A connection may be opened: it is due, and has the next number.
pub record MayOpen (s : State) (k route : ℕ) : Type 0 where
  pub stream : ℕ
  pub text : List ℕ
  pub stage : Stage
  pub due : s.due ≡ ToOpen stream route text stage
  pub next : k ≡ suc s.count

-- Octets may go out with which an idle connection is given to a stream: they are due.
pub record MayUse (s : State) (k : ℕ) (octets : List ℕ) : Type 0 where
  pub stream : ℕ
  pub stage : Stage
  pub due : s.due ≡ ToUse k stream octets stage

-- A connection may be closed: it is open, and done with, or the end is to come.
pub record MayClose (told : Told) (s : State) (k : ℕ) : Type 0 where
  pub nothing : s.due ≡ Nothing
  pub line : Line
  pub found : line_of k s.live ≡ Some line
  pub why : (is_done told line ≡ true) ⊎ (told.ends ≡ true)

-- The client may be closed: no connection is open.
pub record MayShut (s : State) : Type 0 where
  pub nothing : s.due ≡ Nothing
  pub none : s.live ≡ []

abbrev pub MayAct : Told → State → Act → Type 0
MayAct told s (Open k route) = MayOpen s k route
MayAct told s (ToUp k octets) = (s.due ≡ ToSend k octets) ⊎ MayUse s k octets
MayAct told s (Close k) = MayClose told s k
MayAct told s CloseClient = MayShut s

-- A frame may be sent: nothing is due, or it is a GOAWAY behind which the connection goes on, which leaves what is due (RFC 9113, section 6.8).
abbrev pub MaySend : State → Noted → Type 0
MaySend s noted = (s.due ≡ Nothing) ⊎ ((noted.frame.kind ≡ goaway_kind) × (is_calming noted.frame ≡ false))

-- ---- moves

-- The move may come, by what is told before it and behind it.
abbrev pub MayMove : Setup → Told → Told → State → Move → Type 0
MayMove setup before behind s (Takes noted) = MayCome before s
MayMove setup before behind s (Begins noted head ended route text stage) = MayCome before s × MayBegin setup behind noted head ended route text stage
MayMove setup before behind s (Gathers noted item route text old body written stage) =
    MayCome before s × MayGather behind s noted item route text old body written stage
MayMove setup before behind s (Passes noted item k old written stage) = MayCome before s × MayPass behind s noted item k old written stage
MayMove setup before behind s (Drops noted item) = MayCome before s × MayDrop behind s noted
MayMove setup before behind s (Breaks breach) = MayCome before s
MayMove setup before behind s (Notes event) = MayCome before s × (upstream_of event ≡ 0)
MayMove setup before behind s (Hears event heard) = MayCome before s × IsAnswer event × IsKept s (upstream_of event)
MayMove setup before behind s (Fails k) = MayCome before s × IsKept s k
MayMove setup before behind s (Sends noted) = MaySend s noted
MayMove setup before behind s (Acts act) = MayAct before s act

-- The move may come: the client isn't closed, and it is its turn.
pub record IsAllowed (setup : Setup) (before behind : Told) (s : State) (m : Move) : Type 0 where
  pub open_yet : before.closed ≡ false
  pub may : MayMove setup before behind s m

-- what is told behind all moves
abbrev pub told_of : List Turn → Told
told_of [] = nothing_told
told_of (turn ∷ turns) = turn.told

-- Each move might come where it came; the newest stands first.
abbrev pub AreAllowed : Setup → List Turn → Type 0
AreAllowed setup [] = Unit {0}
AreAllowed setup (turn ∷ turns) = AreAllowed setup turns × IsAllowed setup (told_of turns) turn.told (state_of setup turns) turn.move

-- The step may end: nothing is due, no connection is done with, and the client is closed if it is to be.
pub record Rests (told : Told) (s : State) : Type 0 where
  pub nothing : s.due ≡ Nothing
  pub none_done : list_any (is_done told) s.live ≡ false
  pub ended : told.ends ≡ true → told.closed ≡ true
