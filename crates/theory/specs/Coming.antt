-- What is left to show of a move that brings something in, where the gateway rests and its connection goes on.
use Rattle.std.specs.Prelude.{◌≡◌, ℕ, true, false, Some, None}
use Rattle.model.specs.Setup.{Setup}
use Rattle.model.specs.Tables.{Table}
use Rattle.model.specs.Tapes.{Noted}
use Rattle.model.specs.Tapes.Entry.{Came, Happened}
use Rattle.model.specs.Logs.{Event}
use Rattle.model.specs.Logs.Event.{UpFailed}
use Rattle.model.specs.Causes.Cause.{BadAnswer}
use Rattle.model.specs.Courses.{upstream_of}
use Rattle.theory_errors.specs.Summary.{Summary}
use Rattle.theory_errors.specs.Judging.{is_active_in}
use Rattle.theory_errors.specs.Owing.{about_in, must_end_in}
use Rattle.theory_errors.specs.Book as theory_errors
use Rattle.theory_responses.specs.Rule.{IsEventOf}
use Rattle.theory_responses.specs.Sight.{sight_in}
use Rattle.theory_receive_windows.specs.Policy.{may_come}
use Rattle.theory_requests.specs.Rule.{MayBegin, MayGather, MayPass, MayDrop, IsAnswer, IsKept}
use Rattle.theory_header_tables.specs.Rule as theory_header_tables
use Rattle.theory_header_tables.specs.Verdicts.{verdict_in}
use Rattle.theory.specs.Moves.{Addition, told_in}
use Rattle.theory.specs.Moves.Addition.{Nothing, Begins, Gathers, Passes, Drops}
use Rattle.theory.specs.State.{State, gates_in}
use Rattle.theory.specs.Rule.{Additions, rooms_in, Rests}
use Rattle.theory.specs.Steps.{told_by}

-- Something may come in: the gateway rests, and neither closed the client nor is to.
pub record IsReady (s : State) : Type 0 where
  pub rests : Rests (told_by s) s
  pub open_yet : s.ledger.book.closed ≡ false
  pub goes_on : must_end_in (told_by s) ≡ false

-- What a frame gains is so, and what was written for it is right.
abbrev pub IsGained : Setup → Summary → State → Noted → Addition → Type 0
IsGained setup behind s noted Nothing = Additions setup (told_by s) noted Nothing
IsGained setup behind s noted (Begins head ended route text stage) =
    Additions setup (told_by s) noted (Begins head ended route text stage) × MayBegin setup (told_in behind) noted head ended route text stage
IsGained setup behind s noted (Gathers item route text old body written stage) =
    Additions setup (told_by s) noted (Gathers item route text old body written stage)
    × MayGather (told_in behind) s.requests noted item route text old body written stage
IsGained setup behind s noted (Passes item k old written stage) =
    Additions setup (told_by s) noted (Passes item k old written stage) × MayPass (told_in behind) s.requests noted item k old written stage
IsGained setup behind s noted (Drops item) = Additions setup (told_by s) noted (Drops item) × MayDrop (told_in behind) s.requests noted

-- A frame may come: its note is that of its header block, and what it gains is so.
pub record MayTake (setup : Setup) (behind : Summary) (s : State) (noted : Noted) (next : Table) (addition : Addition) : Type 0 where
  pub fit : theory_errors.IsFit false (told_by s) (Came noted)
  pub noted_right : theory_header_tables.IsTaken s.tables noted (verdict_in (told_by s) noted.frame) next
  pub gained : IsGained setup behind s noted addition

-- An answer of an upstream may come: it is admitted, of an open connection, and about this stream.
pub record MayAnswer (s : State) (event : Event) (stream : ℕ) : Type 0 where
  pub admitted : may_come (gates_in (told_by s) s.requests) (rooms_in (told_by s) s) event ≡ true
  pub of : IsEventOf (sight_in (told_by s)) event stream
  pub kept : IsKept s.requests (upstream_of event)

-- It doesn't fail: the gateway doesn't answer the stream behind it either.
pub record MayHear (behind : Summary) (s : State) (event : Event) (stream : ℕ) : Type 0 where
  pub answer : MayAnswer s event stream
  pub of_upstream : IsAnswer event
  pub calm : (sight_in behind).cause stream ≡ None

-- whether it is octets, the end, or the failure of a connection
abbrev pub MayBreakOff : Event → Type 0
MayBreakOff (UpFailed k) = Unit {0}
MayBreakOff event = IsAnswer event

-- It fails: the stream, which is active, is answered by the gateway behind it.
pub record MayFail (behind : Summary) (s : State) (event : Event) (stream : ℕ) : Type 0 where
  pub answer : MayAnswer s event stream
  pub of_upstream : MayBreakOff event
  pub about : is_active_in (about_in (told_by s) (Happened event)) (told_by s) ≡ true
  pub caused : (sight_in behind).cause stream ≡ Some BadAnswer

-- It is of an idle connection, and admitted.
pub record MayIdle (s : State) (event : Event) : Type 0 where
  pub admitted : may_come (gates_in (told_by s) s.requests) (rooms_in (told_by s) s) event ≡ true
  pub of_upstream : MayBreakOff event
  pub kept : IsKept s.requests (upstream_of event)
