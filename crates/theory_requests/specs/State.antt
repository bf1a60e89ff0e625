-- What is kept of requests and of upstream connections, and the moves: entries of the tape, each with what was decided there.
use Rattle.std.specs.Prelude.{ℕ, suc, Bool, true, false, ◌||◌, ◌==◌, if◌then◌else◌, List, [], ◌∷◌, ◌++◌, map, filter, Option, Some, None}
use Rattle.model.specs.Messages.{Field, Item}
use Rattle.model.specs.Setup.{Setup, Passing}
use Rattle.model.specs.Setup.Passing.{Whole as WholePassing, Streaming}
use Rattle.model.specs.Logs.{Event, Act}
use Rattle.model.specs.Logs.Event.{UpFailed}
use Rattle.model.specs.Logs.Act.{Open, ToUp, Close, CloseClient}
use Rattle.model.specs.Tapes.{Noted, Breach, Entry}
use Rattle.model.specs.Tapes.Entry.{Came, Breached, Happened, Sent, Did}
use Rattle.model.specs.Courses.{upstream_of}
use Rattle.h1_writer.specs.Sending.{Stage}
use Rattle.h1_writer.specs.Sending.Stage.{Whole}
use Rattle.theory_requests.specs.Written.{octets_of}
use Rattle.theory_requests.specs.Told.{Told}
use Rattle.theory_requests.specs.Lines.{find, without, Line, least_idle, Heard, lines_heard, lines_opened, lines_without, lines_given}

-- ---- what is kept

-- How far a request is that isn't whole.
pub data Way : Type 0 where
  -- it waits, since requests are passed on whole: the place of its route, the text of its head, what that waits for, and the octets
  -- of its body as they came
  Waiting : (route : ℕ) → (text : List ℕ) → (stage : Stage) → (body : List ℕ) → Way
  -- it goes out on this connection, and its text waits for that
  Going : (k : ℕ) → (stage : Stage) → Way
  -- its connection is closed, so that what comes of it goes nowhere
  Dropped : Way

-- A stream whose request isn't whole.
pub record Held : Type 0 where
  pub id : ℕ
  pub way : Way

-- What has to go out before anything else but a GOAWAY: a connection for a stream and then a text; a text with which an idle connection
-- is given to a stream; or a text.
pub data Due : Type 0 where
  Nothing : Due
  ToOpen : (stream : ℕ) → (route : ℕ) → (text : List ℕ) → (stage : Stage) → Due
  ToUse : (k : ℕ) → (stream : ℕ) → (text : List ℕ) → (stage : Stage) → Due
  ToSend : (k : ℕ) → (text : List ℕ) → Due

-- All that is kept.
pub record State : Type 0 where
  pub held : List Held
  pub live : List Line
  pub due : Due
  -- how many connections were opened
  pub count : ℕ

-- ---- what is held, by its stream

abbrev pub id_of : Held → ℕ
id_of h = h.id

-- what is held of a stream, if something is
abbrev pub held_of : ℕ → List Held → Option Held
held_of id hs = find id_of id hs

-- ---- moves

-- A move: an entry of the tape, with what was decided there.
pub data Move : Type 0 where
  -- a frame that adds no item to its stream
  Takes : (noted : Noted) → Move
  -- a frame with which a request's head is whole: the head, whether it ends the stream, the place of its route, the text that is
  -- written for it, and what that waits for
  Begins : (noted : Noted) → (head : List Field) → (ended : Bool) → (route : ℕ) → (text : List ℕ) → (stage : Stage) → Move
  -- a frame that adds an item to a request that waits: the request as it waits; and where the item ends it, what is written for its
  -- whole body, and what its text waits for then
  Gathers : (noted : Noted) → (item : Item) → (route : ℕ) → (text : List ℕ) → (old : Stage) → (body : List ℕ) → (written : List ℕ) → (stage : Stage) → Move
  -- a frame that adds an item to a request that goes out: its connection and what its text waits for; what is written for the item, and
  -- what the text waits for then
  Passes : (noted : Noted) → (item : Item) → (k : ℕ) → (old : Stage) → (written : List ℕ) → (stage : Stage) → Move
  -- a frame that adds an item to a request that is dropped
  Drops : (noted : Noted) → (item : Item) → Move
  Breaks : (breach : Breach) → Move
  -- an event of no upstream
  Notes : (event : Event) → Move
  -- an answer of an upstream, and what was heard of its exchange with it
  Hears : (event : Event) → (heard : Heard) → Move
  -- an upstream's connection fails
  Fails : (k : ℕ) → Move
  -- a frame is sent
  Sends : (noted : Noted) → Move
  Acts : (act : Act) → Move

-- what a move is on the tape
abbrev pub entry_of : Move → Entry
entry_of (Takes noted) = Came noted
entry_of (Begins noted head ended route text stage) = Came noted
entry_of (Gathers noted item route text old body written stage) = Came noted
entry_of (Passes noted item k old written stage) = Came noted
entry_of (Drops noted item) = Came noted
entry_of (Breaks breach) = Breached breach
entry_of (Notes event) = Happened event
entry_of (Hears event heard) = Happened event
entry_of (Fails k) = Happened (UpFailed k)
entry_of (Sends noted) = Sent noted
entry_of (Acts act) = Did act

-- ---- requests that aren't whole, behind a move

-- nothing is waited for
abbrev pub is_whole : Stage → Bool
is_whole Whole = true
is_whole _ = false

abbrev pub is_streaming : Passing → Bool
is_streaming WholePassing = false
is_streaming Streaming = true

-- a request goes out once its text is whole, or as it comes
abbrev pub goes_now : Setup → Stage → Bool
goes_now setup stage = is_streaming setup.passing || is_whole stage

-- streams that aren't served any more are held no longer
abbrev pub kept : Told → List Held → List Held
kept told hs = filter (λ (h : Held). told.served h.id) hs

-- the way of a stream is this now
abbrev pub with_way : ℕ → Way → Held → Held
with_way id way h = record { id = h.id; way = if h.id == id then way else h.way }

-- this is held of a stream now, in the place of what was held of it, or in front of all
abbrev pub held_at : ℕ → Way → Option Held → List Held → List Held
held_at id way None hs = record { id = id; way = way } ∷ hs
held_at id way (Some h) hs = map (with_way id way) hs

-- this is held of a stream now, or nothing
abbrev pub held_with : ℕ → Option Way → List Held → List Held
held_with id None hs = without id_of id hs
held_with id (Some way) hs = held_at id way (held_of id hs) hs

-- a way that a request is on where something is waited for
abbrev pub unless_whole : Stage → Way → Option Way
unless_whole stage way = if is_whole stage then None else Some way

-- a request waits from its head on
abbrev pub waits_from : Bool → Way → Option Way
waits_from goes way = if goes then None else Some way

-- what goes out on a connection that is closed is dropped
abbrev pub dropped : ℕ → Way → Way
dropped k (Going j stage) = if j == k then Dropped else Going j stage
dropped k way = way

abbrev pub drop_from : ℕ → Held → Held
drop_from k h = record { id = h.id; way = dropped k h.way }

-- a connection is opened for a request, which goes out on it
abbrev pub held_opened : Due → ℕ → List Held → List Held
held_opened (ToOpen stream route text stage) k hs = held_with stream (unless_whole stage (Going k stage)) hs
held_opened due k hs = hs

-- an idle connection is given to a stream, whose request goes out on it
abbrev pub held_used : Due → List Held → List Held
held_used (ToUse k stream text stage) hs = held_with stream (unless_whole stage (Going k stage)) hs
held_used due hs = hs

-- what is held behind an act: nothing where the client is closed
abbrev pub held_acted : List Held → Due → Act → List Held
held_acted hs due (Open k route) = held_opened due k hs
held_acted hs due (ToUp k octets) = held_used due hs
held_acted hs due (Close k) = map (drop_from k) hs
held_acted hs due CloseClient = []

abbrev pub held_after : Setup → Told → List Held → Due → Move → List Held
held_after setup told hs due (Takes noted) = kept told hs
held_after setup told hs due (Begins noted head ended route text stage) =
    held_with noted.frame.id (waits_from (goes_now setup stage) (Waiting route text stage [])) hs
held_after setup told hs due (Gathers noted item route text old body written stage) =
    held_with noted.frame.id (unless_whole stage (Waiting route text stage (body ++ octets_of item))) hs
held_after setup told hs due (Passes noted item k old written stage) = held_with noted.frame.id (unless_whole stage (Going k stage)) hs
held_after setup told hs due (Hears event heard) = kept told hs
held_after setup told hs due (Fails k) = kept told (map (drop_from k) hs)
held_after setup told hs due (Sends noted) = kept told hs
held_after setup told hs due (Acts act) = held_acted hs due act
held_after setup told hs due _ = hs

-- ---- open connections behind a move

-- the stream for which a connection is due
abbrev pub due_stream : Due → ℕ
due_stream (ToOpen stream route text stage) = stream
due_stream _ = 0

-- an idle one is given to the stream that it is due for
abbrev pub lines_used : Due → List Line → List Line
lines_used (ToUse k stream text stage) ls = lines_given k stream ls
lines_used _ ls = ls

abbrev pub live_acted : List Line → Due → Act → List Line
live_acted ls due (Open k route) = lines_opened k route (due_stream due) ls
live_acted ls due (ToUp k octets) = lines_used due ls
live_acted ls due (Close k) = lines_without k ls
live_acted ls due _ = ls

abbrev pub live_after : Setup → List Line → Due → Move → List Line
live_after setup ls due (Hears event heard) = lines_heard setup.most_idle (upstream_of event) heard ls
live_after setup ls due (Fails k) = lines_without k ls
live_after setup ls due (Acts act) = live_acted ls due act
live_after setup ls due _ = ls

-- ---- what is due behind a move

-- octets are due, if there are any
abbrev pub to_send : ℕ → List ℕ → Due
to_send k [] = Nothing
to_send k (octet ∷ octets) = ToSend k (octet ∷ octets)

-- a connection is due for a text: an idle one of its route, if there is one, or another
abbrev pub to_begin : Option ℕ → ℕ → ℕ → List ℕ → Stage → Due
to_begin None stream route text stage = ToOpen stream route text stage
to_begin (Some k) stream route text stage = ToUse k stream text stage

-- if that goes out
abbrev pub to_open : Bool → Option ℕ → ℕ → ℕ → List ℕ → Stage → Due
to_open goes idle stream route text stage = if goes then to_begin idle stream route text stage else Nothing

-- a connection is opened, and then its text is due
abbrev pub due_opened : Due → ℕ → Due
due_opened (ToOpen stream route text stage) k = ToSend k text
due_opened due k = due

abbrev pub due_acted : Due → Act → Due
due_acted due (Open k route) = due_opened due k
due_acted due (ToUp k octets) = Nothing
due_acted due act = due

abbrev pub due_after : Setup → List Line → Due → Move → Due
due_after setup ls due (Begins noted head ended route text stage) = to_open (goes_now setup stage) (least_idle route ls) noted.frame.id route text stage
due_after setup ls due (Gathers noted item route text old body written stage) =
    to_open (is_whole stage) (least_idle route ls) noted.frame.id route (text ++ written) stage
due_after setup ls due (Passes noted item k old written stage) = to_send k written
due_after setup ls due (Acts act) = due_acted due act
due_after setup ls due _ = due

-- how many connections were opened
abbrev pub count_after : ℕ → Move → ℕ
count_after count (Acts (Open k route)) = suc count
count_after count _ = count

-- ---- the state is a fold of the moves

-- the state behind a move, by what is told there
abbrev pub after : Setup → Told → State → Move → State
after setup told s m = record {
  held = held_after setup told s.held s.due m;
  live = live_after setup s.live s.due m;
  due = due_after setup s.live s.due m;
  count = count_after s.count m;
}

-- nothing is kept at first
abbrev pub start : State
start = record { held = []; live = []; due = Nothing; count = 0 }

-- A move, and what is told behind it.
pub record Turn : Type 0 where
  pub move : Move
  pub told : Told

-- the state behind all moves, the newest first
abbrev pub state_of : Setup → List Turn → State
state_of setup [] = start
state_of setup (turn ∷ turns) = after setup turn.told (state_of setup turns) turn.move

-- their entries
abbrev pub tape_of : List Turn → List Entry
tape_of turns = map (λ (turn : Turn). entry_of turn.move) turns
