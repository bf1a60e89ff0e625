-- The rule of `theory_errors` over what a program keeps: a summary and the frames that are owed. It names no tape.
use Rattle.std.specs.Prelude.{◌≡◌, ℕ, Bool, true, false, not, ◌&&◌, ◌⊎◌, if◌then◌else◌, List, [], ◌∷◌, ◌++◌, length, None}
use Rattle.model.specs.Frames.{Frame, settings_frame}
use Rattle.model.specs.Setup.{Setup}
use Rattle.model.specs.Logs.{Act}
use Rattle.model.specs.Logs.Act.{CloseClient}
use Rattle.model.specs.Tapes.{Noted, Entry}
use Rattle.model.specs.Tapes.Entry.{Sent, Did}
use Rattle.model.specs.Known.{Known, fails_behind}
use Rattle.model.specs.ErrorClause.{is_passing, is_calming}
use Rattle.theory_errors.specs.Turn.{rest_of, IsDue, MayStandIn}
use Rattle.theory_errors.specs.Summary.{Summary, summary_of}
use Rattle.theory_errors.specs.Judging.{is_crowded_in}
use Rattle.theory_errors.specs.Owing.{highest_in, owes_in, is_rightly_sent_in, must_end_in}
use Rattle.theory_errors.specs.After.{after}

-- An entry, and whether an upstream's answer failed with it: the one thing that its octets don't tell.
pub record Move : Type 0 where
  pub entry : Entry
  pub fails : Bool

-- What is kept, and what is owed next.
pub record Point : Type 0 where
  pub summary : Summary
  pub queue : List Frame

-- what is owed behind an entry
abbrev pub queue_behind : Setup → Bool → Point → Entry → List Frame
queue_behind setup fails p (Sent noted) =
    if is_calming noted.frame && not p.summary.ends then [] else rest_of p.queue ++ owes_in setup fails p.summary (Sent noted)
queue_behind setup fails p (Did act) = p.queue
queue_behind setup fails p e = owes_in setup fails p.summary e

-- what is kept and owed behind a move
abbrev pub point_after : Setup → Point → Move → Point
point_after setup p m = record {
  summary = after setup m.fails p.summary m.entry;
  queue = queue_behind setup m.fails p m.entry;
}

-- ---- which move may come

-- Something may come in: nothing is owed, no header block to the client is begun, and the connection isn't to end.
pub record MayComeIn (p : Point) : Type 0 where
  pub nothing : p.queue ≡ []
  pub none_begun : p.summary.block_out ≡ None
  pub goes_on : must_end_in p.summary ≡ false

-- A part of a response may be sent: nothing is owed, the connection isn't to end, and the stream takes it.
pub record MayPassIn (p : Point) (noted : Noted) : Type 0 where
  pub nothing : p.queue ≡ []
  pub goes_on : must_end_in p.summary ≡ false
  pub passing : is_passing noted ≡ true
  pub rightly : is_rightly_sent_in p.summary noted.frame ≡ true

-- The client may be closed: nothing is owed, and the connection is to end.
pub record MayCloseIn (p : Point) : Type 0 where
  pub nothing : p.queue ≡ []
  pub to_end : must_end_in p.summary ≡ true

-- Whose turn an act is: nothing is owed before it.
abbrev pub MayActIn : Point → Act → Type 0
MayActIn p CloseClient = MayCloseIn p
MayActIn p act = p.queue ≡ []

-- whose turn an entry is
abbrev pub IsInTurn : Point → Entry → Type 0
IsInTurn p (Sent noted) =
    IsDue p.summary.ends (is_crowded_in p.summary) p.queue noted
    ⊎ (MayPassIn p noted ⊎ MayStandIn p.summary.ends (is_crowded_in p.summary) (highest_in p.summary.opened) noted)
IsInTurn p (Did act) = MayActIn p act
IsInTurn p e = MayComeIn p

-- The move may come: the client isn't closed, and it is its turn.
pub record Allowed (p : Point) (m : Move) : Type 0 where
  pub open_yet : p.summary.closed ≡ false
  pub turn : IsInTurn p m.entry

-- ---- moves, the newest first

-- the entries of moves
abbrev pub tape_of : List Move → List Entry
tape_of [] = []
tape_of (m ∷ moves) = m.entry ∷ tape_of moves

-- what was kept before anything came: the summary of no entry, whatever is known
abbrev pub first_point : Setup → Point
first_point setup = record { summary = summary_of (record { setup = setup; failures = [] }) []; queue = settings_frame setup.more_room ∷ [] }

-- what is kept and owed behind moves
abbrev pub point_of : Setup → List Move → Point
point_of setup [] = first_point setup
point_of setup (m ∷ moves) = point_after setup (point_of setup moves) m

-- each move was allowed where it stands
abbrev pub AllAllowed : Setup → List Move → Type 0
AllAllowed setup [] = Unit {0}
AllAllowed setup (m ∷ moves) = AllAllowed setup moves × Allowed (point_of setup moves) m

-- What is known of failures is what the moves say. It holds of all that is known later too.
abbrev pub AreKnown : Known → List Move → Type 0
AreKnown known [] = Unit {0}
AreKnown known (m ∷ moves) = AreKnown known moves × (fails_behind known (tape_of moves) ≡ m.fails)

-- ---- what is known of failures

-- the places at which an answer failed
abbrev pub failures_of : List Move → List ℕ
failures_of [] = []
failures_of (m ∷ moves) = if m.fails then length (tape_of moves) ∷ failures_of moves else failures_of moves

-- what the moves say of failures
abbrev pub known_of : Setup → List Move → Known
known_of setup moves = record { setup = setup; failures = failures_of moves }
