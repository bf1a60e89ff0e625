-- What a gateway keeps of its streams, and its moves: the entries of the tape, each with what was decided there.
use Rattle.std.specs.Prelude.{ℕ, Bool, true, false, ◌&&◌, not, ◌==◌, if◌then◌else◌, List, [], ◌∷◌, ◌++◌, map, filter, Option, Some, None, ℤ, pos, int_lt}
use Rattle.model.specs.Messages.{Item}
use Rattle.model.specs.Frames.{rst_stream_kind}
use Rattle.model.specs.Logs.{Event, Act}
use Rattle.model.specs.Tapes.{Noted, Breach, Entry}
use Rattle.model.specs.Tapes.Entry.{Came, Breached, Happened, Sent, Did}
use Rattle.model.specs.Causes.{Cause}
use Rattle.model.specs.Causes.Cause.{BadAnswer}
use Rattle.model.specs.Deliveries.{Delivery}
use Rattle.theory_responses.specs.Outbox.{Outbox, silent, replied, Part, left, can_go, grown}
use Rattle.theory_responses.specs.Outbox.Outbox.{Before}

-- An active stream: its outbox, and whether a reset of it is owed.
pub record Kept : Type 0 where
  pub id : ℕ
  pub box : Outbox
  pub cut : Bool

-- What is kept of the streams.
pub record State : Type 0 where
  pub kept : List Kept
  -- the stream that had the last turn
  pub last : ℕ

-- What the book of `theory_errors` tells of windows: each stream's sending window, the connection's, and how many octets for the client
-- aren't taken.
pub record Windows : Type 0 where
  pub own : ℕ → ℤ
  pub shared : ℤ
  pub untaken : ℕ

-- ---- the streams that are kept

-- the record of a stream, if it is kept
abbrev pub find : ℕ → List Kept → Option Kept
find stream [] = None
find stream (k ∷ ks) = if k.id == stream then Some k else find stream ks

-- one stream changes
abbrev pub change : ℕ → (Kept → Kept) → List Kept → List Kept
change stream f [] = []
change stream f (k ∷ ks) = if k.id == stream then f k ∷ ks else k ∷ change stream f ks

-- one stream goes
abbrev pub without : ℕ → List Kept → List Kept
without stream [] = []
without stream (k ∷ ks) = if k.id == stream then without stream ks else k ∷ without stream ks

-- it goes where it is over
abbrev pub unless_over : Bool → ℕ → List Kept → List Kept
unless_over over stream ks = if over then without stream ks else ks

-- the stream's outbox with these news
abbrev pub told : Delivery → Kept → Kept
told news k = record { id = k.id; box = grown k.box news; cut = k.cut }

-- the next part of the stream went
abbrev pub gone : Part → Kept → Kept
gone part k = record { id = k.id; box = left k.box part; cut = k.cut }

-- The gateway answers the stream itself: its reply takes the place of what is on offer, or the stream is to be reset where a
-- final head is out.
abbrev pub answered_box : Cause → Kept → Outbox → Kept
answered_box cause k (Before interims head body whole) = record { id = k.id; box = replied cause; cut = k.cut }
answered_box cause k box = record { id = k.id; box = box; cut = true }

-- the record of a stream that the gateway answers
abbrev pub answered : Cause → Kept → Kept
answered cause k = answered_box cause k k.box

-- the same, where it does
abbrev pub answered_if : Option Cause → Kept → Kept
answered_if None k = k
answered_if (Some cause) k = answered cause k

-- ---- moves

-- What comes of a frame of the client: whether it opens its stream, or that is over with it, and why it is answered.
pub record Change : Type 0 where
  pub opens : Bool
  pub over : Bool
  pub caused : Option Cause

-- A move: an entry of the tape, with what was decided there.
pub data Move : Type 0 where
  Takes : (noted : Noted) → (change : Change) → Move
  Breaks : (breach : Breach) → Move
  -- an event that changes no offer
  Notes : (event : Event) → Move
  -- a stream's upstream tells these news of its response
  Hears : (event : Event) → (stream : ℕ) → (news : Delivery) → Move
  -- the answer of a stream's upstream fails
  Fails : (event : Event) → (stream : ℕ) → Move
  -- something comes of an idle connection
  Idles : (event : Event) → Move
  -- a frame brings a stream the next part of its response, which may be over with it
  Goes : (noted : Noted) → (item : Item) → (part : Part) → (over : Bool) → Move
  -- a frame that brings no stream an item
  Sends : (noted : Noted) → Move
  -- an act, one that begins an exchange included
  Acts : (act : Act) → Move

-- what a move is on the tape
abbrev pub entry_of : Move → Entry
entry_of (Takes noted change) = Came noted
entry_of (Breaks breach) = Breached breach
entry_of (Notes event) = Happened event
entry_of (Hears event stream news) = Happened event
entry_of (Fails event stream) = Happened event
entry_of (Idles event) = Happened event
entry_of (Goes noted item part over) = Sent noted
entry_of (Sends noted) = Sent noted
entry_of (Acts act) = Did act

-- ---- the state is a fold of the moves

-- a new stream, with nothing on offer
abbrev pub blank : ℕ → Kept
blank id = record { id = id; box = silent; cut = false }

-- the streams with a new one behind them
abbrev pub with_new : Bool → ℕ → List Kept → List Kept
with_new opens id ks = if opens then ks ++ blank id ∷ [] else ks

-- the streams behind a move
abbrev pub kept_after : List Kept → Move → List Kept
kept_after ks (Takes noted c) =
    unless_over c.over noted.frame.id (change noted.frame.id (answered_if c.caused) (with_new c.opens noted.frame.id ks))
kept_after ks (Hears event stream news) = change stream (told news) ks
kept_after ks (Fails event stream) = change stream (answered BadAnswer) ks
kept_after ks (Idles event) = ks
kept_after ks (Goes noted item part over) =
    unless_over over noted.frame.id (change noted.frame.id (gone part) ks)
kept_after ks (Sends noted) = unless_over (noted.frame.kind == rst_stream_kind) noted.frame.id ks
kept_after ks _ = ks

-- the stream of the last turn behind it
abbrev pub last_after : ℕ → Move → ℕ
last_after last (Goes noted item part over) = noted.frame.id
last_after last _ = last

-- the state behind a move
abbrev pub after : State → Move → State
after s m = record { kept = kept_after s.kept m; last = last_after s.last m }

-- ---- who is ready

-- both windows of the stream are above 0
abbrev pub are_open : Windows → ℕ → Bool
are_open windows id = int_lt (pos 0) (windows.own id) && int_lt (pos 0) windows.shared

-- something of the stream can go
abbrev pub is_ready : Windows → Kept → Bool
is_ready windows k = not k.cut && can_go (are_open windows k.id) k.box

-- the same of a stream that may be kept or not
abbrev pub is_ready_if : Windows → Option Kept → Bool
is_ready_if windows None = false
is_ready_if windows (Some k) = is_ready windows k

-- the stream is kept, and something of it can go
abbrev pub can_turn : Windows → State → ℕ → Bool
can_turn windows s stream = is_ready_if windows (find stream s.kept)

-- the streams of which something can go, in the order in which they were opened
abbrev pub ready : Windows → State → List ℕ
ready windows s = filter (can_turn windows s) (map (λ k. k.id) s.kept)

-- no stream is kept
abbrev pub start : State
start = record { kept = []; last = 0 }

-- the state behind all moves, the newest first
abbrev pub state_of : List Move → State
state_of [] = start
state_of (m ∷ ms) = after (state_of ms) m
