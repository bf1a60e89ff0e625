-- What is kept of the client's DATA and of what was put out, and how each move changes it.
use Rattle.std.specs.Prelude.{ℕ, ◌+◌, Bool, true, false, not, ◌&&◌, ◌==◌, nat_lt, if◌then◌else◌, List, [], ◌∷◌, ◌++◌, length, sum_by, filter}
use Rattle.std.specs.List.{list_any}
use Rattle.model.specs.Logs.{Event, Act}
use Rattle.model.specs.Logs.Event.{UpTook}
use Rattle.model.specs.Logs.Act.{Open, ToUp, Close, CloseClient}
use Rattle.model.specs.Setup.{Passing}
use Rattle.model.specs.Setup.Passing.{Whole, Streaming}
use Rattle.model.specs.Tapes.{Noted, Breach, Entry}
use Rattle.model.specs.Tapes.Entry.{Came, Breached, Happened, Sent, Did}
use Rattle.model.specs.Openings.{Opened}
use Rattle.model.specs.WindowsOnTape.{is_any, data_length}
use Rattle.theory_receive_windows.specs.Marks.{Mark, total, pop, released, push}

-- Of an active stream: its connection or 0, its octets that wait for that connection's side, and those that are to be given back.
pub record Row : Type 0 where
  pub k : ℕ
  pub queue : List Mark
  pub debt : ℕ

-- the exchange of a stream on a connection; what waits of it doesn't depend on its route
abbrev pub exchange : ℕ → ℕ → Opened
exchange stream k = record { k = k; route = 0; stream = stream }

-- What is kept.
pub record State : Type 0 where
  -- the active streams, the newest first, and what is kept of each
  pub live : List ℕ
  pub row : ℕ → Row
  -- the stream of the last frame, to which a connection is given, and the octets of DATA that came with it while its effect isn't over
  pub stream : ℕ
  pub count : ℕ
  -- its effect is over: octets that it sent upstream are counted
  pub settled : Bool
  -- octets that are to be given back on the connection
  pub debt : ℕ
  -- of each connection: how many octets were put out for it, and how many of them its side took
  pub out : ℕ → ℕ
  pub took : ℕ → ℕ

-- Nothing came. By so many octets windows are larger at first than 65,535: the connection's is to be made as large (RFC 9113, section 6.9.2).
abbrev pub start : ℕ → State
start more = record {
  live = [];
  row = λ id. record { k = 0; queue = []; debt = 0 };
  stream = 0;
  count = 0;
  settled = false;
  debt = more;
  out = λ k. 0;
  took = λ k. 0;
}

-- ---- moves

-- A move: an entry of the tape with what other concerns tell of it, or the end of a frame's effect.
pub data Move : Type 0 where
  -- a frame of the client, which opens its stream, or that is over with it
  Takes : (noted : Noted) → (opens over : Bool) → Move
  Breaks : (breach : Breach) → Move
  Hears : (event : Event) → Move
  -- the effect of the last frame is over
  Settles : Move
  -- octets are given back
  Gives : (noted : Noted) → Move
  -- any other frame, with which its stream may be over
  Sends : (noted : Noted) → (over : Bool) → Move
  -- octets are put out that begin another exchange on a connection, for the stream of the last frame
  Uses : (k : ℕ) → (octets : List ℕ) → Move
  -- any other act
  Acts : (act : Act) → Move

-- what a move puts on the tape
abbrev pub entries_of : Move → List Entry
entries_of (Takes noted opens over) = Came noted ∷ []
entries_of (Breaks breach) = Breached breach ∷ []
entries_of (Hears event) = Happened event ∷ []
entries_of Settles = []
entries_of (Gives noted) = Sent noted ∷ []
entries_of (Sends noted over) = Sent noted ∷ []
entries_of (Uses k octets) = Did (ToUp k octets) ∷ []
entries_of (Acts act) = Did act ∷ []

-- the tape of moves; both stand with the newest first
abbrev pub tape_of : List Move → List Entry
tape_of [] = []
tape_of (m ∷ ms) = entries_of m ++ tape_of ms

-- ---- parts of a step

-- so much more at one place
abbrev pub add : ℕ → ℕ → (ℕ → ℕ) → ℕ → ℕ
add k count f other = if other == k then f other + count else f other

-- one row changes
abbrev pub change : ℕ → (Row → Row) → (ℕ → Row) → ℕ → Row
change id f rows other = if id == other then f (rows other) else rows other

-- these without one
abbrev pub others : ℕ → List ℕ → List ℕ
others id ids = filter (λ other. not (other == id)) ids

-- the same, where it is over
abbrev pub unless_over : Bool → ℕ → List ℕ → List ℕ
unless_over over id ids = if over then others id ids else ids

-- the octets that wait for a stream
abbrev pub held : State → ℕ → ℕ
held s id = total (s.row id).queue

-- octets of a stream that came with the last frame, while its effect isn't over
abbrev pub fresh_of : State → ℕ → ℕ
fresh_of s id = if s.stream == id then s.count else 0

-- those of a stream that is over go back
abbrev pub dropped : Bool → State → ℕ → ℕ
dropped over s id = if over then held s id else 0

-- a row with more to give back
abbrev pub owing : ℕ → Row → Row
owing count r = record { k = r.k; queue = r.queue; debt = r.debt + count }

-- a row whose octets wait behind this mark
abbrev pub waits : ℕ → ℕ → Row → Row
waits mark count r = record { k = r.k; queue = push r.queue mark count; debt = r.debt }

-- a row behind which so many octets are taken
abbrev pub reached : ℕ → Row → Row
reached taken r = record { k = r.k; queue = pop taken r.queue; debt = r.debt + released taken r.queue }

-- a row of a stream without anything
abbrev pub blank : Row
blank = record { k = 0; queue = []; debt = 0 }

-- a row to which nothing is owed
abbrev pub paid : Row → Row
paid r = record { k = r.k; queue = r.queue; debt = 0 }

-- a row with its connection
abbrev pub given : ℕ → Row → Row
given k r = record { k = k; queue = r.queue; debt = r.debt }

-- ---- the state behind a move

-- a frame of the client
abbrev pub with_frame : State → Noted → Bool → Bool → State
with_frame s noted opens over = record s {
  live = unless_over over noted.frame.id (if opens then noted.frame.id ∷ s.live else s.live);
  row = if opens then change noted.frame.id (λ r. blank) s.row else s.row;
  stream = noted.frame.id;
  count = data_length is_any noted.frame;
  settled = false;
  debt = s.debt + dropped over s noted.frame.id;
}

-- An upstream's side took so many octets more: what waits behind marks that are reached goes back. On other streams none is.
abbrev pub with_taken : State → ℕ → ℕ → State
with_taken s k count = record s {
  row = λ id. reached (add k count s.took (s.row id).k) (s.row id);
  settled = false;
  debt = s.debt + sum_by (λ id. released (add k count s.took (s.row id).k) (s.row id).queue) s.live;
  took = add k count s.took;
}

-- any other event
abbrev pub with_event : State → Event → State
with_event s (UpTook k count) = with_taken s k count
with_event s event = record s { settled = false }

-- the stream is active
abbrev pub is_live : State → ℕ → Bool
is_live s id = list_any (λ other. other == id) s.live

-- The last frame's octets wait: its stream is active, and not all that was put out for its upstream is taken.
abbrev pub must_wait : Passing → State → Bool
must_wait Whole s = false
must_wait Streaming s = is_live s s.stream && nat_lt (s.took (s.row s.stream).k) (s.out (s.row s.stream).k)

-- They do, or go back.
abbrev pub settle_by : Bool → State → State
settle_by true s = record s { row = change s.stream (waits (s.out (s.row s.stream).k) s.count) s.row; count = 0; settled = true }
settle_by false s = record s { row = change s.stream (owing s.count) s.row; count = 0; settled = true; debt = s.debt + s.count }

-- the end of the last frame's effect
abbrev pub with_settled : Passing → State → State
with_settled passing s = settle_by (must_wait passing s) s

-- what is owed on an id is given back; 0 is that of the connection
abbrev pub with_given : Bool → State → Noted → State
with_given true s noted = record s { debt = 0 }
with_given false s noted = record s { row = change noted.frame.id paid s.row }

-- any other frame to the client
abbrev pub with_sent : State → Noted → Bool → State
with_sent s noted over = record s {
  live = unless_over over noted.frame.id s.live;
  debt = s.debt + dropped over s noted.frame.id;
}

-- the stream of the last frame gets a connection that is kept, and octets go out for it
abbrev pub with_use : State → ℕ → List ℕ → State
with_use s k octets = record s { row = change s.stream (given k) s.row; out = add k (length octets) s.out }

-- any other act
abbrev pub with_act : State → Act → State
with_act s (Open k route) = record s { row = change s.stream (given k) s.row }
with_act s (ToUp k octets) = record s { out = add k (length octets) s.out }
with_act s (Close k) = s
with_act s CloseClient = s

-- the state behind a move
abbrev pub after : Passing → State → Move → State
after passing s (Takes noted opens over) = with_frame s noted opens over
after passing s (Breaks breach) = record s { settled = false }
after passing s (Hears event) = with_event s event
after passing s Settles = with_settled passing s
after passing s (Gives noted) = with_given (noted.frame.id == 0) s noted
after passing s (Sends noted over) = with_sent s noted over
after passing s (Uses k octets) = with_use s k octets
after passing s (Acts act) = with_act s act

-- the state behind all moves
abbrev pub state_of : ℕ → Passing → List Move → State
state_of more passing [] = start more
state_of more passing (m ∷ ms) = after passing (state_of more passing ms) m

-- ---- what is kept, beside what is told of streams

-- What a gateway keeps for this: all of the state but which streams are active, and which is that of the last frame, which the book of
-- `theory_errors` has.
pub record Kept : Type 0 where
  pub row : ℕ → Row
  pub count : ℕ
  pub settled : Bool
  pub debt : ℕ
  pub out : ℕ → ℕ
  pub took : ℕ → ℕ

abbrev pub kept_of : State → Kept
kept_of s = record { row = s.row; count = s.count; settled = s.settled; debt = s.debt; out = s.out; took = s.took }

-- the state, where these are the active streams and this is the last frame's
abbrev pub with_told : List ℕ → ℕ → Kept → State
with_told live last k = record { live = live; row = k.row; stream = last; count = k.count; settled = k.settled; debt = k.debt; out = k.out; took = k.took }
