-- Which move may come next by states alone: what is kept here, and what is read of the rest before the move and behind it. It
-- names no tape.
use Rattle.std.specs.Prelude.{◌≡◌, ℕ, ◌<◌, Bool, true, false, not, ◌&&◌, ◌==◌, if◌then◌else◌, List, [], ◌∷◌, map, Option, Some, None}
use Rattle.model.specs.Messages.{Item}
use Rattle.model.specs.Frames.{Frame, data_kind, ends_headers}
use Rattle.model.specs.Logs.{Event, Act}
use Rattle.model.specs.Logs.Act.{Open, ToUp}
use Rattle.model.specs.Tapes.{Noted, Entry}
use Rattle.model.specs.Tapes.Entry.{Happened}
use Rattle.model.specs.Decoding.{Partial, joined}
use Rattle.model.specs.Streams.{frame_items}
use Rattle.model.specs.Openings.{Opened, given, begins_another, IsGivenNone}
use Rattle.model.specs.Available.{heard_by, ended_by}
use Rattle.model.specs.Known.{Known}
use Rattle.model.specs.Causes.{Cause}
use Rattle.model.specs.Causes.Cause.{BadAnswer}
use Rattle.model.specs.Courses.{items, upstream_of}
use Rattle.model.specs.Offers.{is_to_head, IsGiven}
use Rattle.theory_responses.specs.Shown.{Tells}
use Rattle.theory_responses.specs.State.{State, Change, Move, entry_of, state_of}
use Rattle.theory_responses.specs.State.Move.{Takes, Breaks, Notes, Hears, Fails, Idles, Goes, Sends, Acts}
use Rattle.theory_responses.specs.Policy.{MayGo, MayIdle, IsFlushed}
use Rattle.theory_responses.specs.Sight.{Sight, first_sight, IsRightOf, windows_in}

-- ---- what a frame of the client changes

-- the cause that came, if none was there
abbrev pub found_by : Option Cause → Option Cause → Option Cause
found_by None now = now
found_by (Some cause) now = None

-- what it changes, as it is read before the frame and behind it
abbrev pub change_by : Sight → Sight → ℕ → Change
change_by before behind id = record {
  opens = not (before.active id) && behind.active id;
  over = before.active id && not (behind.active id);
  caused = found_by (before.cause id) (behind.cause id);
}

-- ---- which move may come

-- The event is of a connection that was given to this stream last; the stream is active, and the gateway doesn't answer it itself.
pub record IsEventOf (before : Sight) (event : Event) (stream : ℕ) : Type 0 where
  pub is_given : given (upstream_of event) before.given ≡ stream
  pub active : before.active stream ≡ true
  pub no_cause : before.cause stream ≡ None

-- An exchange begins for the stream of the client's last frame, which is active, has an item and no cause, and was given none; the
-- connection's number isn't 0.
pub record BeginsNext (before : Sight) (k : ℕ) : Type 0 where
  pub active : before.active before.last ≡ true
  pub has_items : before.has_items before.last ≡ true
  pub no_cause : before.cause before.last ≡ None
  pub first : IsGivenNone before.last before.given
  pub counted : 0 < k

-- the header block that a frame completes
abbrev pub completed_by : Option Partial → Frame → Option Partial
completed_by block frame = if ends_headers frame then joined block frame else None

-- The frame brings its stream this item, and the stream is over with it or isn't.
pub record BringsOne (before behind : Sight) (noted : Noted) (item : Item) (over : Bool) : Type 0 where
  pub active : behind.active noted.frame.id ≡ not over
  pub brings : frame_items (completed_by before.block noted.frame) noted ≡ item ∷ []

-- The frame brings no item.
pub record BringsNothing (before : Sight) (noted : Noted) : Type 0 where
  pub no_block : completed_by before.block noted.frame ≡ None
  pub no_data : (noted.frame.kind == data_kind) ≡ false

-- what an act asks: a connection is opened for an exchange, and octets may begin another
abbrev pub MayAct : Sight → Act → Type 0
MayAct before (Open k route) = BeginsNext before k
MayAct before (ToUp k octets) = begins_another (given k before.given) before.last octets ≡ true → BeginsNext before k
MayAct before _ = Unit {0}

-- The effect of what came before is over: the flush is done.
abbrev pub IsDone : Sight → State → Type 0
IsDone before s = IsFlushed (windows_in before) s

-- The move may come; something comes in only where the flush is done.
abbrev pub MayCome : Sight → Sight → State → Move → Type 0
MayCome before behind s (Takes noted change) = IsDone before s × (before.ends ≡ false) × (change ≡ change_by before behind noted.frame.id)
MayCome before behind s (Breaks breach) = IsDone before s
MayCome before behind s (Notes event) = IsDone before s × (upstream_of event ≡ 0)
MayCome before behind s (Hears event stream news) = IsDone before s × IsEventOf before event stream × (behind.cause stream ≡ None)
MayCome before behind s (Fails event stream) = IsDone before s × IsEventOf before event stream × (behind.cause stream ≡ Some BadAnswer)
MayCome before behind s (Idles event) = IsDone before s
MayCome before behind s (Goes noted item part over) = MayGo (windows_in before) s noted item part × BringsOne before behind noted item over
MayCome before behind s (Sends noted) = BringsNothing before noted
MayCome before behind s (Acts act) = MayAct before act

-- ---- runs

-- A move, and what is read behind it.
pub record Seen : Type 0 where
  pub move : Move
  pub sight : Sight

-- the moves of a run, the newest first
abbrev pub moves_of : List Seen → List Move
moves_of run = map (λ (x : Seen). x.move) run

-- its tape
abbrev pub tape_of : List Seen → List Entry
tape_of run = map entry_of (moves_of run)

-- what is read behind it
abbrev pub sight_of : List Seen → Sight
sight_of [] = first_sight
sight_of (x ∷ run) = x.sight

-- Each move might come where it came.
abbrev pub AllMayCome : List Seen → Type 0
AllMayCome [] = Unit {0}
AllMayCome (x ∷ run) = AllMayCome run × MayCome (sight_of run) x.sight (state_of (moves_of run)) x.move

-- What was read is right behind each move.
abbrev pub AreRight : Known → List Seen → Type 0
AreRight known [] = Unit {0}
AreRight known (x ∷ run) = AreRight known run × IsRightOf known (tape_of (x ∷ run)) x.sight

-- What is told of an event is news of what the stream's upstream answered; or its connection is idle, and no answer fails.
abbrev pub IsTold : Known → List Entry → Move → Type 0
IsTold known t (Hears event stream news) =
    (o : Opened) → IsGiven t stream o → Tells known.setup.passing (heard_by o t) (ended_by o t) (heard_by o (Happened event ∷ t))
    (ended_by o (Happened event ∷ t)) (is_to_head (items known stream t)) news
IsTold known t (Idles event) = MayIdle known t event
IsTold known t _ = Unit {0}

-- It is so of each event.
abbrev pub AreTold : Known → List Seen → Type 0
AreTold known [] = Unit {0}
AreTold known (x ∷ run) = AreTold known run × IsTold known (tape_of run) x.move
