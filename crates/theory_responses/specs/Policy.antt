-- Which move may come next: by the state, and by what other concerns know of the tape.
use Rattle.std.specs.Prelude.{◌≡◌, ℕ, ◌<◌, Bool, true, false, not, ◌&&◌, ◌==◌, List, [], ◌∷◌, length, map, Option, Some, None, pos, ◌≤ℤ◌}
use Rattle.model.specs.Messages.{Item}
use Rattle.model.specs.Frames.{data_kind}
use Rattle.model.specs.Logs.{Event, Act}
use Rattle.model.specs.Logs.Act.{Open, ToUp}
use Rattle.model.specs.Tapes.{Noted, Entry, sent}
use Rattle.model.specs.Tapes.Entry.{Came, Happened, Sent}
use Rattle.model.specs.Decoding.{completed}
use Rattle.model.specs.Streams.{frame_items}
use Rattle.model.specs.Openings.{Opened, exchanges, exchange_on, given, begins_another, last_stream, IsGivenNone, AreApart}
use Rattle.model.specs.Available.{heard_by, ended_by, items_on, IsIn}
use Rattle.model.specs.Known.{Known, fails_behind}
use Rattle.model.specs.Causes.{Cause}
use Rattle.model.specs.Lifetimes.{is_active}
use Rattle.model.specs.WindowsOnTape.{stream_window, connection_window}
use Rattle.model.specs.Courses.{course, items, upstream_of}
use Rattle.model.specs.Admission.{untaken}
use Rattle.model.specs.Limits.{high_water}
use Rattle.model.specs.ProgressClause.{NoneReady}
use Rattle.model.specs.WindowClause.{KeepsWindows}
use Rattle.model.specs.Turns.{IsNextTurn}
use Rattle.model.specs.Offers.{is_to_head, IsGiven, IsDelivered}
use Rattle.model.specs.Idle.{IsIdle}
use Rattle.model.specs.Deliveries.{Delivery}
use Rattle.theory_responses.specs.Outbox.{Part, IsNext, IsItemOf}
use Rattle.theory_responses.specs.Shown.{Tells}
use Rattle.theory_responses.specs.State.{Kept, State, Windows, Change, Move, find, ready, entry_of, state_of}
use Rattle.theory_responses.specs.State.Move.{Takes, Breaks, Notes, Hears, Fails, Idles, Goes, Sends, Acts}

-- What other concerns know of every tape: no connection has the number 0, no stream has two exchanges, and something came on the stream of each.
pub record Neighbours (known : Known) (t : List Entry) : Type 0 where
  pub counted : (o : Opened) → IsIn o (exchanges t) → 0 < o.k
  pub apart : AreApart (exchanges t)
  pub begun : (o : Opened) → IsIn o (exchanges t) → items known o.stream t ≡ [] → ⊥

-- ---- the flush: a part goes

-- the windows of a tape
abbrev pub windows_on : List Entry → Windows
windows_on t = record { own = λ stream. stream_window stream t; shared = connection_window t; untaken = untaken t }

-- The part may go by the state and by the windows: the stream has the next turn, and DATA fits both windows.
pub record MayGo (windows : Windows) (s : State) (noted : Noted) (item : Item) (part : Part) : Type 0 where
  pub kept : Kept
  pub found : find noted.frame.id s.kept ≡ Some kept
  pub not_cut : kept.cut ≡ false
  pub next : IsNext kept.box part
  pub is : IsItemOf item part
  pub turn : IsNextTurn s.last (ready windows s) (Some noted.frame.id)
  pub own : noted.frame.kind ≡ data_kind → 0 < length noted.frame.payload → pos (length noted.frame.payload) ≤ℤ windows.own noted.frame.id
  pub shared : noted.frame.kind ≡ data_kind → 0 < length noted.frame.payload → pos (length noted.frame.payload) ≤ℤ windows.shared

-- The frame, or the last frame of a block, brings its stream this item, and the stream is over with it or isn't.
pub record Brings (t : List Entry) (noted : Noted) (item : Item) (over : Bool) : Type 0 where
  pub active : is_active noted.frame.id (Sent noted ∷ t) ≡ not over
  pub brings : frame_items (completed (sent t) noted.frame) noted ≡ item ∷ []

-- The frame brings no item: of the connection, a reset, a part of a block that isn't complete with it.
pub record BringsNone (t : List Entry) (noted : Noted) : Type 0 where
  pub no_block : completed (sent t) noted.frame ≡ None
  pub no_data : (noted.frame.kind == data_kind) ≡ false

-- ---- events

-- The event is of a connection that was given to this stream last, and the gateway doesn't answer the stream itself.
pub record IsOf (known : Known) (t : List Entry) (event : Event) (stream : ℕ) : Type 0 where
  pub given : IsGiven t stream (exchange_on (upstream_of event) t)
  pub no_cause : (course known stream t).cause ≡ None
  pub counted : 0 < stream

-- The stream's upstream tells these news, and nothing failed.
pub record MayHear (known : Known) (t : List Entry) (event : Event) (stream : ℕ) (news : Delivery) : Type 0 where
  pub of : IsOf known t event stream
  pub sound : fails_behind known t ≡ false
  pub tells : let o = exchange_on (upstream_of event) t in Tells known.setup.passing (heard_by o t) (ended_by o t) (heard_by o (Happened event ∷ t))
      (ended_by o (Happened event ∷ t)) (is_to_head (items known stream t)) news

-- The answer of the stream's upstream fails with the event.
pub record MayGiveUp (known : Known) (t : List Entry) (event : Event) (stream : ℕ) : Type 0 where
  pub of : IsOf known t event stream
  pub fails : fails_behind known t ≡ true

-- The event is of an idle connection, and no answer fails with it.
pub record MayIdle (known : Known) (t : List Entry) (event : Event) : Type 0 where
  pub idle : IsIdle known t (upstream_of event)
  pub sound : fails_behind known t ≡ false

-- ---- acts and frames of the client

-- An exchange begins for the stream of the last frame of the client: its first, and the gateway doesn't answer it.
pub record MayBegin (known : Known) (t : List Entry) : Type 0 where
  pub counted : 0 < last_stream t
  pub none_given : IsGivenNone (last_stream t) (exchanges t)
  pub no_cause : (course known (last_stream t) t).cause ≡ None

-- The act may be done: one that begins an exchange asks something of the tape, the others nothing of it.
abbrev pub MayDo : Known → List Entry → Act → Type 0
MayDo known t (Open k route) = MayBegin known t
MayDo known t (ToUp k octets) = begins_another (given k (exchanges t)) (last_stream t) octets ≡ true → MayBegin known t
MayDo known t _ = Unit {0}

-- A stream is new: nothing was sent on it, nothing given to it, and it isn't answered.
pub record IsNew (known : Known) (t : List Entry) (s : State) (stream : ℕ) : Type 0 where
  pub not_kept : find stream s.kept ≡ None
  pub unsent : items_on stream (sent t) ≡ []
  pub not_given : (o : Opened) → IsGiven t stream o → ⊥
  pub no_cause : (course known stream t).cause ≡ None

-- The frame isn't why its stream is answered, or not the first to be.
pub record LeavesCause (known : Known) (t : List Entry) (noted : Noted) : Type 0 where
  pub cause : (course known noted.frame.id t).cause ≡ (course known noted.frame.id (Came noted ∷ t)).cause
  pub out : (course known noted.frame.id t).head_out ≡ (course known noted.frame.id (Came noted ∷ t)).head_out
  pub heads : (course known noted.frame.id t).heads_out ≡ (course known noted.frame.id (Came noted ∷ t)).heads_out

-- The frame is the first cause for its stream.
pub record GivesCause (known : Known) (t : List Entry) (noted : Noted) (found : Cause) : Type 0 where
  pub no_cause : (course known noted.frame.id t).cause ≡ None
  pub now : (course known noted.frame.id (Came noted ∷ t)).cause ≡ Some found

-- The frame is this cause for its stream, or none.
abbrev pub IsCaused : Known → List Entry → Noted → Option Cause → Type 0
IsCaused known t noted None = LeavesCause known t noted
IsCaused known t noted (Some found) = GivesCause known t noted found

-- The stream is new, and isn't over with the frame; or it was active, and is unless it is over; or it wasn't, and isn't.
abbrev pub IsOpened : Known → List Entry → State → Noted → Bool → Bool → Type 0
IsOpened known t s noted true over = IsNew known t s noted.frame.id × (over ≡ false) × (is_active noted.frame.id (Came noted ∷ t) ≡ true)
IsOpened known t s noted false over = is_active noted.frame.id (Came noted ∷ t) ≡ (is_active noted.frame.id t && not over)

-- What the frame of the client changes is what the tape says; a cause counts only where the stream is active behind the frame.
pub record MayTake (known : Known) (t : List Entry) (s : State) (noted : Noted) (change : Change) : Type 0 where
  pub opened : IsOpened known t s noted change.opens change.over
  pub caused : is_active noted.frame.id (Came noted ∷ t) ≡ true → IsCaused known t noted change.caused

-- ---- the policy

-- The move is allowed.
abbrev pub Holds : Known → List Entry → State → Move → Type 0
Holds known t s (Takes noted change) = MayTake known t s noted change
Holds known t s (Breaks breach) = Unit {0}
Holds known t s (Notes event) = upstream_of event ≡ 0
Holds known t s (Hears event stream news) = MayHear known t event stream news
Holds known t s (Fails event stream) = MayGiveUp known t event stream
Holds known t s (Idles event) = MayIdle known t event
Holds known t s (Goes noted item part over) = MayGo (windows_on t) s noted item part × Brings t noted item over
Holds known t s (Sends noted) = BringsNone t noted
Holds known t s (Acts act) = MayDo known t act

-- Each move is allowed where it stands, and the other concerns hold there; the newest stands first.
abbrev pub AreAllowed : Known → List Move → Type 0
AreAllowed known [] = Unit {0}
AreAllowed known (m ∷ ms) = AreAllowed known ms × Neighbours known (map entry_of ms) × Holds known (map entry_of ms) (state_of ms) m

-- The flush is done: while few octets are untaken no reset is owed, and no stream has the next turn.
pub record IsFlushed (windows : Windows) (s : State) : Type 0 where
  pub none_cut : windows.untaken < high_water → (stream : ℕ) (kept : Kept) → find stream s.kept ≡ Some kept → kept.cut ≡ false
  pub none_ready : windows.untaken < high_water → ready windows s ≡ []

-- What was to be shown: each stream was sent a front of what is or was on offer for it, DATA went within the windows, and no
-- stream is ready.
pub record KeepClauses (known : Known) (t : List Entry) : Type 0 where
  pub delivered : (stream : ℕ) → IsDelivered known t stream
  pub keeps : KeepsWindows t
  pub none_ready : NoneReady known t
