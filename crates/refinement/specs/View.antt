-- What the session is seen as, and how that stands to the state of the rule.
use Rattle.std.specs.Prelude.{◌≡◌, ℕ, ◌<◌, Bool, true, false, List, [], ◌∷◌, Some, None}
use Rattle.model.specs.Frames.{Frame, settings_frame}
use Rattle.model.specs.Setup.{Setup, Passing}
use Rattle.model.specs.Setup.Passing.{Whole, Streaming}
use Rattle.model.specs.Openings.{given}
use Rattle.model.specs.Courses.{course}
use Rattle.model.specs.Known.{Known}
use Rattle.theory_errors.specs.Rows as rows
use Rattle.theory_errors.specs.Rule.{AreKnown}
use Rattle.theory_responses.specs.State as theory_responses
use Rattle.theory_receive_windows.specs.Marks.{total}
use Rattle.theory_receive_windows.specs.State as theory_receive_windows
use Rattle.theory_receive_windows.specs.State.{is_live}
use Rattle.theory_requests.specs.Lines as lines
use Rattle.theory_requests.specs.State as theory_requests
use Rattle.theory_requests.specs.Lines.{find}
use Rattle.theory_requests.specs.State.{Due}
use Rattle.header_blocks.specs.Encoding.{Encoding}
use Rattle.streams.specs.Asked.{is_active}
use Rattle.connection_state.specs.Inbound.{Inbound, book_of}
use Rattle.upstream_response.specs.HeldInside.{octets_of}
use Rattle.upstream_connections.specs.Kept as upstreams
use Rattle.upstream_connections.specs.Connections.{Connection, number_of}
use Rattle.window_credit.specs.Sides.{Side}
use Rattle.window_credit.specs.Sides as marks
use Rattle.window_credit.specs.Standing.{StandFor}
use Rattle.theory.specs.Moves.{Move}
use Rattle.theory.specs.State.{State, conducts, tape_of}
use Rattle.theory.specs.Rule.{rooms_in}
use Rattle.theory.specs.Answered.{AreAnswered}
use Rattle.theory.specs.Steps.{told_by, Stands}
use Rattle.refinement.specs.Hearing.{IsHeard}

-- What is kept: of the client's frames and of its streams, of what is on offer for them, of requests and upstream connections, of DATA that
-- waits for upstreams' sides, of the table of blocks to the client, and how many octets for the client aren't taken.
pub record View : Type 0 where
  pub inbound : Inbound
  pub offers : theory_responses.State
  pub upstreams : upstreams.State
  pub marks : List Side
  pub encoding : Encoding
  pub untaken : ℕ

-- What is to be done before anything may come in: frames that are owed, a connection or a text that is due, and octets of DATA that are
-- to go back: those of the last frame whose effect isn't over, and then on the connection and on each stream.
pub record Pending : Type 0 where
  pub owed : List Frame
  pub due : Due
  pub fresh : ℕ
  pub shared : ℕ
  pub own : ℕ → ℕ

-- nothing is
abbrev pub balanced : Pending
balanced = record { owed = []; due = theory_requests.Due.Nothing; fresh = 0; shared = 0; own = λ id. 0 }

-- what is to be done first: the gateway's settings are owed, and so many octets are to go back on the connection, whose window is to be as large as those of
-- streams
abbrev pub first_pending : ℕ → Pending
first_pending more = record balanced { owed = settings_frame more ∷ []; shared = more }

-- Octets go back on a stream while it is active and the client hasn't ended it.
pub record GoBack (inbound : Inbound) (id : ℕ) : Type 0 where
  pub active : is_active inbound.rows id ≡ true
  pub goes_on : (rows.find inbound.rows id).ended_by_client ≡ false

-- The octets that are to go back are these.
pub record IsCredited (pending : Pending) (inbound : Inbound) (windows : theory_receive_windows.Kept) : Type 0 where
  pub fresh : windows.count ≡ pending.fresh
  pub shared : windows.debt ≡ pending.shared
  pub own : (id : ℕ) → GoBack inbound id → (windows.row id).debt ≡ pending.own id

-- The state is the one that is kept, with what is pending.
pub record Keeps (kept : View) (pending : Pending) (s : State) : Type 0 where
  pub book : s.ledger.book ≡ book_of (record { given = s.ledger.book.given; untaken = kept.untaken }) kept.inbound
  pub owed : s.ledger.queue ≡ pending.owed
  pub offers : s.offers ≡ kept.offers
  pub requests : s.requests ≡ upstreams.with_due kept.upstreams pending.due
  pub decoding : s.tables.decoding ≡ kept.inbound.table
  pub encoding : s.tables.encoding ≡ kept.encoding
  pub read : s.tables.lost ≡ false
  pub credited : IsCredited pending kept.inbound s.windows
  pub counted : (k : ℕ) (c : Connection) → find number_of k kept.upstreams.live ≡ Some c → (s.windows.out k ≡ c.out) × (s.windows.took k ≡ c.took)

-- ---- octets that wait

-- the stream that a connection was given to last, or 0
abbrev pub newest_in : State → ℕ → ℕ
newest_in s k = given k s.ledger.book.given

-- What is kept of DATA that waits is what the rule has, where connections were given to these streams last: nothing where requests are passed on
-- whole, and else something of each active stream that was given a connection, and of no other.
pub record AreMarked (passing : Passing) (newest : ℕ → ℕ) (sides : List Side) (rooms : theory_receive_windows.State) : Type 0 where
  pub stand : StandFor newest sides rooms
  pub none : passing ≡ Whole → sides ≡ []
  pub some : (id : ℕ) (side : Side) → marks.find id sides ≡ Some side → 0 < side.k
  pub all : passing ≡ Streaming → (id : ℕ) → is_live rooms id ≡ true → marks.find id sides ≡ None → (rooms.row id).k ≡ 0

-- the octets that wait of a stream, which go back once it is over
abbrev pub waiting_for : ℕ → View → ℕ
waiting_for id kept = total (marks.queue_of id kept.marks)

-- ---- where moves led

-- What moves say of upstreams' answers is so, whatever is known beside them.
abbrev pub AreSo : Setup → List Move → Type 0
AreSo setup run = (known : Known) → known.setup ≡ setup → AreKnown known (conducts run) → AreAnswered known run

-- The answers that are kept stand for all that was heard of the newest exchanges, while they are no whole responses and the gateway doesn't reply to
-- their streams itself. Of an idle connection's answer, which was handed on, nothing is kept.
pub record AreHeard (setup : Setup) (run : List Move) (live : List Connection) : Type 0 where
  pub so : (known : Known) → known.setup ≡ setup → AreKnown known (conducts run) → (k : ℕ) (c : Connection) → find number_of k live ≡ Some c
      → c.live.answer ≡ lines.Answer.Pending → (course known c.live.stream (tape_of run)).cause ≡ None
      → IsHeard known (tape_of run) k c.answer
  pub none_idle : (k : ℕ) (c : Connection) → find number_of k live ≡ Some c → c.live.answer ≡ lines.Answer.Idle → octets_of c.answer ≡ 0

-- What is due goes out before the effect of the last frame is over.
abbrev pub IsInEffect : Due → Bool → Type 0
IsInEffect theory_requests.Due.Nothing settled = Unit {0}
IsInEffect due settled = settled ≡ false

-- The moves led to this state, and it is the one that is kept, with what is pending.
pub record Leads (setup : Setup) (run : List Move) (kept : View) (pending : Pending) (s : State) : Type 0 where
  pub stands : Stands setup run s
  pub so : AreSo setup run
  pub heard : AreHeard setup run kept.upstreams.live
  pub keeps : Keeps kept pending s
  pub marked : AreMarked setup.passing (newest_in s) kept.marks (rooms_in (told_by s) s)
  pub in_effect : IsInEffect pending.due s.windows.settled
