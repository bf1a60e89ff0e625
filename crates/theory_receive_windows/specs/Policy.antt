-- Which move may come next, by what is kept and by what other concerns know of the tape.
use Rattle.std.specs.Prelude.{◌≡◌, ℕ, ◌+◌, ◌<◌, Bool, true, false, not, ◌&&◌, ◌==◌, nat_le, if◌then◌else◌, List, [], ◌∷◌, length, pos}
use Rattle.model.specs.Frames.{Frame, window_update_kind}
use Rattle.model.specs.Logs.{Event, Act}
use Rattle.model.specs.Logs.Event.{Client, ClientEnd, ClientTook, Up, UpEnd, UpFailed, UpTook, Drain}
use Rattle.model.specs.Logs.Act.{Open, ToUp}
use Rattle.model.specs.Setup.{Passing, own_window}
use Rattle.model.specs.Setup.Passing.{Streaming}
use Rattle.model.specs.Tapes.{Noted, Entry, came, is_closed}
use Rattle.model.specs.Admission.{untaken, is_open}
use Rattle.model.specs.Tapes.Entry.{Came, Sent}
use Rattle.model.specs.Decoding.{completed}
use Rattle.model.specs.Openings as openings
use Rattle.model.specs.Openings.{exchanges, last_stream, begins_another}
use Rattle.model.specs.Lifetimes.{opens_by, opened, active, is_active, is_ended_by_client, is_drained}
use Rattle.model.specs.WindowsOnTape.{is_on, data_octets, increment, back_on}
use Rattle.model.specs.Known.{Known}
use Rattle.model.specs.WindowClause.{GivesBack, GivesNoMore, HoldsBack}
use Rattle.theory_receive_windows.specs.State.{State, is_live, Move, tape_of, state_of}
use Rattle.theory_receive_windows.specs.State.Move.{Takes, Breaks, Hears, Settles, Gives, Sends, Uses, Acts}

-- ---- admission

-- What is told of connections and streams: whether an upstream's is open (`theory_requests`), and, by the book of `theory_errors`, which streams are active,
-- the newest first, which is that of the last frame, how many octets for the client aren't taken, and whether its connection was closed.
pub record Gates : Type 0 where
  pub is_up : ℕ → Bool
  -- the stream that a connection was given to last, or 0
  pub given : ℕ → ℕ
  pub live : List ℕ
  pub last : ℕ
  pub untaken : ℕ
  pub closed : Bool

-- It is so.
pub record AreGates (t : List Entry) (gates : Gates) : Type 0 where
  pub is_up : (k : ℕ) → gates.is_up k ≡ is_open k t
  pub given : (k : ℕ) → gates.given k ≡ openings.given k (exchanges t)
  pub live : gates.live ≡ active t
  pub last : gates.last ≡ last_stream t
  pub untaken : gates.untaken ≡ untaken t
  pub closed : gates.closed ≡ is_closed t

-- what a tape tells of them
abbrev pub gates_on : List Entry → Gates
gates_on t = record {
  is_up = λ k. is_open k t;
  given = λ k. openings.given k (exchanges t);
  live = active t;
  last = last_stream t;
  untaken = untaken t;
  closed = is_closed t;
}

-- how many octets of an upstream may come, but for what is held of its response
abbrev pub room_in : Gates → ℕ → ℕ
room_in gates k = if gates.is_up k then 65536 else 0

-- the event may come as far as its own numbers go
abbrev pub may_come : Gates → State → Event → Bool
may_come gates s (Client piece) = nat_le (length piece) 65536 && nat_le gates.untaken 1073741824
may_come gates s ClientEnd = true
may_come gates s (ClientTook count) = nat_le count gates.untaken
may_come gates s (Up k piece) = gates.is_up k && nat_le (length piece) (room_in gates k)
may_come gates s (UpEnd k) = gates.is_up k
may_come gates s (UpFailed k) = gates.is_up k
may_come gates s (UpTook k count) = gates.is_up k && nat_le (s.took k + count) (s.out k)
may_come gates s Drain = true

-- the event may come: once the client is closed none may
abbrev pub admits : Gates → State → Event → Bool
admits gates s event = not gates.closed && may_come gates s event

-- ---- what other concerns know

-- Nothing came on the stream, or as much was given back: its receiving window is as at first.
abbrev pub IsNew : List Entry → ℕ → Type 0
IsNew t stream = back_on stream t ≡ pos 0

-- The frame opens its stream, which is active then; or it doesn't, and the stream is active where it was, unless it is over.
abbrev pub IsOpened : List Entry → Noted → Bool → Bool → Type 0
IsOpened t noted true over = (over ≡ false) × (is_active noted.frame.id (Came noted ∷ t) ≡ true) × IsNew t noted.frame.id
IsOpened t noted false over = is_active noted.frame.id (Came noted ∷ t) ≡ (is_active noted.frame.id t && not over)

-- A frame of the client: whether it opens its stream, and whether that is over with it, is what the tape says. The effect of
-- the frame before is over.
pub record MayTake (t : List Entry) (s : State) (noted : Noted) (news over : Bool) : Type 0 where
  pub settled : s.count ≡ 0
  pub opens : opens_by (is_drained t) (opened t) (completed (came t) noted.frame) noted.note ≡ news
  pub opened : IsOpened t noted news over
  pub was : over ≡ true → is_active noted.frame.id t ≡ true

-- An event is one that may come.
pub record MayHear (gates : Gates) (s : State) (event : Event) : Type 0 where
  pub settled : s.count ≡ 0
  pub admitted : may_come gates s event ≡ true

-- what is owed on the connection, or on an active stream that the client hasn't ended
abbrev pub IsOwed : List Entry → State → Frame → Bool → Type 0
IsOwed t s frame true = increment frame ≡ s.debt
IsOwed t s frame false = (is_active frame.id t ≡ true) × (is_ended_by_client frame.id t ≡ false) × (increment frame ≡ (s.row frame.id).debt)

-- The frame gives back all that is owed on its id.
pub record MayGive (t : List Entry) (s : State) (frame : Frame) : Type 0 where
  pub kind : frame.kind ≡ window_update_kind
  pub owed : IsOwed t s frame (frame.id == 0)

-- Any other frame: the stream is over with it or isn't.
pub record MaySend (t : List Entry) (noted : Noted) (over : Bool) : Type 0 where
  pub kind : (noted.frame.kind == window_update_kind) ≡ false
  pub active : is_active noted.frame.id (Sent noted ∷ t) ≡ (is_active noted.frame.id t && not over)
  pub was : over ≡ true → is_active noted.frame.id t ≡ true

-- A connection is opened for the stream of the last frame, which is active and has none, under a number that was never used.
pub record MayOpen (s : State) (k : ℕ) : Type 0 where
  pub active : is_live s s.stream ≡ true
  pub counted : 0 < k
  pub first : (s.row s.stream).k ≡ 0
  pub unused : s.out k ≡ 0
  pub untaken : s.took k ≡ 0

-- Octets go to a connection that is open and given to the stream of the last frame; where requests
-- are passed on as they come, before the frame's effect is over.
pub record MayPut (passing : Passing) (gates : Gates) (s : State) (k : ℕ) : Type 0 where
  pub opened : gates.is_up k ≡ true
  pub its : gates.given k ≡ gates.last
  pub in_effect : passing ≡ Streaming → s.settled ≡ false

-- Octets begin another exchange on a connection that is open, for the stream of the last frame, which is active and has none; where requests are passed
-- on as they come, before the frame's effect is over.
pub record MayUse (passing : Passing) (gates : Gates) (s : State) (k : ℕ) (octets : List ℕ) : Type 0 where
  pub opened : gates.is_up k ≡ true
  pub begins : begins_another (gates.given k) gates.last octets ≡ true
  pub active : is_live s s.stream ≡ true
  pub first : (s.row s.stream).k ≡ 0
  pub in_effect : passing ≡ Streaming → s.settled ≡ false

-- Where requests are passed on as they come, no DATA came on the stream of the last frame.
abbrev pub IsBare : Passing → List Entry → Type 0
IsBare passing t = passing ≡ Streaming → data_octets (is_on (last_stream t)) (came t) ≡ 0

-- The act may be done.
abbrev pub MayDo : Passing → Gates → State → Act → Type 0
MayDo passing gates s (Open k route) = MayOpen s k
MayDo passing gates s (ToUp k octets) = MayPut passing gates s k
MayDo passing gates s act = Unit {0}

-- ---- the policy

-- The move is allowed.
abbrev pub Holds : Passing → List Entry → State → Move → Type 0
Holds passing t s (Takes noted opens over) = MayTake t s noted opens over
Holds passing t s (Breaks breach) = s.count ≡ 0
Holds passing t s (Hears event) = MayHear (gates_on t) s event
Holds passing t s Settles = Unit {0}
Holds passing t s (Gives noted) = MayGive t s noted.frame
Holds passing t s (Sends noted over) = MaySend t noted over
Holds passing t s (Uses k octets) = MayUse passing (gates_on t) s k octets × IsBare passing t
Holds passing t s (Acts act) = MayDo passing (gates_on t) s act

-- Each move is allowed where it stands; the newest stands first.
abbrev pub AreAllowed : ℕ → Passing → List Move → Type 0
AreAllowed more passing [] = Unit {0}
AreAllowed more passing (m ∷ ms) = AreAllowed more passing ms × Holds passing (tape_of ms) (state_of more passing ms) m

-- Nothing is owed: the last frame's effect is over, and all is given back that goes back.
pub record IsPaid (t : List Entry) (s : State) : Type 0 where
  pub settled : s.count ≡ 0
  pub shared : s.debt ≡ 0
  pub own : (stream : ℕ) → is_active stream t ≡ true → is_ended_by_client stream t ≡ false → (s.row stream).debt ≡ 0

-- What was to be shown: each window is as at first, but for what is kept, no more was given back than came, and what is kept wasn't.
pub record KeepRooms (known : Known) (t : List Entry) : Type 0 where
  pub gives_back : GivesBack known t
  pub no_more : GivesNoMore (own_window known.setup) t
  pub holds_back : HoldsBack (own_window known.setup) known.setup.passing t
