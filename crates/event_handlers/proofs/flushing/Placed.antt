-- The state as it is kept, in one form, and moves from one such state to the next.
use Rattle.std.proofs.Common.{◌≡◌, ℕ, ◌+◌, Bool, true, false, not, ◌==◌, List, [], ◌∷◌, ◌++◌, Option, Some, None, refl, sym, ◌∙◌, ap, subst, if◌then◌else◌, add-zero, ◌&&◌}
use Rattle.std.proofs.lemmas.Bool.{and_parts}
use Rattle.model.specs.Messages.{Item}
use Rattle.model.specs.Frames.{Frame, rst_stream_kind, window_update_kind}
use Rattle.model.specs.Setup.{Setup}
use Rattle.model.specs.Tables.{Table}
use Rattle.model.specs.Tapes.{Noted}
use Rattle.model.specs.Tapes.Entry.{Sent}
use Rattle.model.specs.Openings.{Opened}
use Rattle.model.specs.Decoding.{Partial}
use Rattle.model.specs.ErrorClause.{is_calming}
use Rattle.theory_errors.specs.Summary.{Summary}
use Rattle.theory_errors.specs.Judging.{completed_in, is_active_in}
use Rattle.theory_errors.specs.Turn.{rest_of}
use Rattle.theory_errors.specs.Book.{Book, Ledger, ledger_after, summary_in}
use Rattle.theory_responses.specs.Outbox.{Part}
use Rattle.theory_responses.specs.Sight.{Sight, sight_in}
use Rattle.theory_responses.specs.State as theory_responses
use Rattle.theory_receive_windows.specs.State as theory_receive_windows
use Rattle.theory_receive_windows.specs.Rule.{is_over_by}
use Rattle.theory_requests.specs.State as theory_requests
use Rattle.theory_requests.specs.Lines.{find}
use Rattle.theory_requests.specs.State.{Held}
use Rattle.theory_requests.specs.State.Due.{Nothing}
use Rattle.theory_requests.specs.Told.{Told}
use Rattle.theory_header_tables.specs.State as theory_header_tables
use Rattle.connection_state.specs.Inbound.{book_of}
use Rattle.connection_state.specs.Sending.{LeadsTo}
use Rattle.connection_state.proofs.SendingEvents.{sent_ledger}
use Rattle.upstream_connections.specs.Kept as upstreams
use Rattle.upstream_connections.specs.Connections.{Connection, number_of}
use Rattle.theory.specs.Moves.{Decision, Move, conduct_of, offer_of, request_of, table_of, window_of, given_or_sent, told_in}
use Rattle.theory.specs.Moves.Decision.{Sends, Goes}
use Rattle.theory.specs.Moves.Move.{Does}
use Rattle.theory.specs.State.{State}
use Rattle.theory.specs.Rule.{rooms_in}
use Rattle.theory.specs.Steps.{Stands, told_by, told_behind, next}
use Rattle.window_credit.specs.Sides.{unless_over}
use Rattle.window_credit.specs.Standing.{dropped_of}
use Rattle.window_credit.proofs.Telling as telling
use Rattle.refinement.specs.View.{View, Pending, balanced, waiting_for, IsCredited, Keeps, AreMarked, AreSo, AreHeard, Leads}
use Rattle.refinement.proofs.Kept.{AreServed}
use Rattle.refinement.proofs.Where.{live_here}
use Rattle.refinement.proofs.Marking.{marked_sent}

-- ---- the form

-- the book, where this was begun of a header block to the client
abbrev pub book_at : View → Option Partial → List Opened → Book
book_at u begun given = record (book_of (record { given = given; untaken = u.untaken }) u.inbound) { block_out = begun }

-- the state: what is kept, with this owed and begun, and what the rule keeps beside it
abbrev pub state_at : View → List Frame → Option Partial → List Opened → theory_header_tables.State → theory_receive_windows.Kept → State
state_at u owed begun given rest windows = record {
  ledger = record { book = book_at u begun given; queue = owed };
  offers = u.offers;
  requests = upstreams.with_due u.upstreams Nothing;
  tables = record rest { decoding = u.inbound.table; lost = false; encoding = u.encoding };
  windows = windows;
}

-- what is pending where frames are owed, and octets are to go back on the connection
abbrev pub owing : List Frame → ℕ → Pending
owing owed back = record balanced { owed = owed; shared = back }

-- what the rule keeps of windows where so many octets more are to go back on the connection
abbrev pub back_on : ℕ → theory_receive_windows.Kept → theory_receive_windows.Kept
back_on count windows = record windows { debt = windows.debt + count }

-- those that waited of a stream go back once it isn't active
abbrev pub back_if : Bool → ℕ → View → theory_receive_windows.Kept → theory_receive_windows.Kept
back_if over id u windows = if over then back_on (waiting_for id u) windows else windows

-- octets of connections are counted
abbrev pub AreCounted : View → theory_receive_windows.Kept → Type 0
AreCounted u windows = (k : ℕ) (c : Connection) → find number_of k u.upstreams.live ≡ Some c → (windows.out k ≡ c.out) × (windows.took k ≡ c.took)

-- the streams that connections were given to last
abbrev pub newest_of : List Opened → ℕ → ℕ
newest_of os k = Rattle.model.specs.Openings.given k os

-- Moves led to it.
pub record At (setup : Setup) (run : List Move) (u : View) (owed : List Frame) (begun : Option Partial) (given : List Opened) (rest : theory_header_tables.State) (windows : theory_receive_windows.Kept) : Type 0 where
  pub stands : Stands setup run (state_at u owed begun given rest windows)
  pub so : AreSo setup run
  pub heard : AreHeard setup run u.upstreams.live
  pub credited : IsCredited (record balanced { shared = windows.debt }) u.inbound windows
  pub counted : AreCounted u windows
  pub marked : AreMarked setup.passing (newest_of given) u.marks (rooms_in (told_by (state_at u owed begun given rest windows)) (state_at u owed begun given rest windows))

-- a state by its parts
by_parts : (s : State) (d : Ledger) (o : theory_responses.State) (r : theory_requests.State) (t : theory_header_tables.State) → s.ledger ≡ d → s.offers ≡ o → s.requests ≡ r → s.tables ≡ t → s ≡ record { ledger = d; offers = o; requests = r; tables = t; windows = s.windows }
by_parts s d o r t e f g h =
    ap (λ (x : Ledger). record s { ledger = x }) e
    ∙ ap (λ (x : theory_responses.State). record s { ledger = d; offers = x }) f
    ∙ ap (λ (x : theory_requests.State). record s { ledger = d; offers = o; requests = x }) g
    ∙ ap (λ (x : theory_header_tables.State). record s { ledger = d; offers = o; requests = r; tables = x }) h

-- The state that is kept has the form.
pub state_is : (u : View) (owed : List Frame) (back : ℕ) (s : State) → Keeps u (owing owed back) s → s ≡ state_at u owed None s.ledger.book.given s.tables s.windows
state_is u owed back s keeps =
    by_parts s (record { book = book_at u None s.ledger.book.given; queue = owed }) u.offers (upstreams.with_due u.upstreams Nothing) (record s.tables { decoding = u.inbound.table; lost = false; encoding = u.encoding })
    (ap (λ (b : Book). record s.ledger { book = b }) keeps.book ∙ ap (λ (q : List Frame). record { book = book_at u None s.ledger.book.given; queue = q }) keeps.owed)
    keeps.offers keeps.requests
    (ap (λ (t : Table). record s.tables { decoding = t }) keeps.decoding
    ∙ ap (λ b. record s.tables { decoding = u.inbound.table; lost = b }) keeps.read
    ∙ ap (λ e. record s.tables { decoding = u.inbound.table; lost = false; encoding = e }) keeps.encoding)

-- Where moves led to what is kept they led to the form, and back.
pub led_at : (setup : Setup) (run : List Move) (u : View) (owed : List Frame) (back : ℕ) (s : State) → Leads setup run u (owing owed back) s → At setup run u owed None s.ledger.book.given s.tables s.windows
led_at setup run u owed back s leads = record {
  stands = subst (Stands setup run) (state_is u owed back s leads.keeps) leads.stands;
  so = leads.so;
  heard = leads.heard;
  credited = record { fresh = leads.keeps.credited.fresh; shared = refl; own = leads.keeps.credited.own };
  counted = leads.keeps.counted;
  marked = subst (λ (x : State). AreMarked setup.passing (newest_of s.ledger.book.given) u.marks (rooms_in (told_by x) x)) (state_is u owed back s leads.keeps) leads.marked;
}

pub at_led : (setup : Setup) (run : List Move) (u : View) (owed : List Frame) (given : List Opened) (rest : theory_header_tables.State) (windows : theory_receive_windows.Kept) → At setup run u owed None given rest windows → Leads setup run u (owing owed windows.debt) (state_at u owed None given rest windows)
at_led setup run u owed given rest windows at = record {
  stands = at.stands;
  so = at.so;
  heard = at.heard;
  keeps = record { book = refl; owed = refl; offers = refl; requests = refl; decoding = refl; encoding = refl; read = refl; credited = record { fresh = at.credited.fresh; shared = refl; own = at.credited.own }; counted = at.counted };
  marked = at.marked;
  in_effect = tt;
}

-- ---- a frame is sent

-- all that is held of streams that are served stays
all_kept : (told : Told) (hs : List Held) → AreServed told hs → theory_requests.kept told hs ≡ hs
all_kept told [] are = refl
all_kept told (h ∷ hs) are = ap (λ b. if b then h ∷ theory_requests.kept told hs else theory_requests.kept told hs) are.0 ∙ ap (λ (xs : List Held). h ∷ xs) (all_kept told hs are.1)

-- and what is served where the same streams are served
served_same : (before behind : Told) → ((id : ℕ) → behind.served id ≡ before.served id) → (hs : List Held) → AreServed before hs → AreServed behind hs
served_same before behind same [] are = tt
served_same before behind same (h ∷ hs) are = (same h.id ∙ are.0, served_same before behind same hs are.1)

pub held_same : (before behind : Told) → ((id : ℕ) → behind.served id ≡ before.served id) → (hs : List Held) → AreServed before hs → theory_requests.kept behind hs ≡ hs
held_same before behind same hs are = all_kept behind hs (served_same before behind same hs are)

module _ (setup : Setup) (u : View) (owed : List Frame) (begun : Option Partial) (given : List Opened) (rest : theory_header_tables.State) (windows : theory_receive_windows.Kept) (noted : Noted) (table : Table) (new : Book) (called : List Frame) where
  abbrev s : State
  s = state_at u owed begun given rest windows

  abbrev before : Sight
  before = sight_in (told_by s)

  abbrev behind : Summary
  behind = summary_in new

  -- the state behind it, where this is the book then
  abbrev state_then : Ledger → Decision → State
  state_then ledger d = record {
    ledger = ledger;
    offers = theory_responses.after u.offers (offer_of before (sight_in (summary_in ledger.book)) d);
    requests = theory_requests.after setup (told_in (summary_in ledger.book)) s.requests (request_of d);
    tables = theory_header_tables.after s.tables (table_of (told_by s) d);
    windows = theory_receive_windows.kept_of (theory_receive_windows.after setup.passing (rooms_in (told_by s) s) (window_of before (sight_in (summary_in ledger.book)) d));
  }

  abbrev ledger_then : Ledger
  ledger_then = record { book = new; queue = rest_of owed ++ called }

  abbrev rooms : theory_receive_windows.State
  rooms = rooms_in (told_by s) s

  -- the stream is over with it, or isn't
  abbrev over_is : Bool → Type 0
  over_is over = is_over_by before (sight_in behind) noted.frame.id ≡ over

  -- octets that waited go back with a stream that is over
  windows_then : (over : Bool) → over_is over → (noted.frame.kind == window_update_kind) ≡ false → (run : List Move) → Stands setup run s → AreSo setup run → AreMarked setup.passing (newest_of given) u.marks rooms
      → theory_receive_windows.kept_of (theory_receive_windows.after setup.passing rooms (given_or_sent (noted.frame.kind == window_update_kind) before (sight_in behind) noted)) ≡ back_if over noted.frame.id u windows
  windows_then over is no_update run stands so marked =
      ap (λ b. theory_receive_windows.kept_of (theory_receive_windows.after setup.passing rooms (given_or_sent b before (sight_in behind) noted))) no_update
      ∙ ap (λ n. record windows { debt = n }) (telling.drops (newest_of given) u.marks rooms marked.stand (is_over_by before (sight_in behind) noted.frame.id) noted.frame.id was_active)
      ∙ ap (λ b. record windows { debt = windows.debt + dropped_of b noted.frame.id u.marks }) is
      ∙ by over
    where
      was_active : is_over_by before (sight_in behind) noted.frame.id ≡ true → theory_receive_windows.is_live rooms noted.frame.id ≡ true
      was_active gone = live_here setup run s stands so noted.frame.id ∙ (and_parts (before.active noted.frame.id) (not ((sight_in behind).active noted.frame.id)) gone).0

      by : (b : Bool) → record windows { debt = windows.debt + dropped_of b noted.frame.id u.marks } ≡ back_if b noted.frame.id u windows
      by true = refl
      by false = ap (λ n. record windows { debt = n }) (add-zero windows.debt)

  -- what is kept of DATA stands for that
  pub marked_then : (over : Bool) → over_is over → (noted.frame.kind == window_update_kind) ≡ false → AreMarked setup.passing (newest_of given) u.marks rooms
      → AreMarked setup.passing (newest_of given) (unless_over over noted.frame.id u.marks) (theory_receive_windows.after setup.passing rooms (given_or_sent (noted.frame.kind == window_update_kind) before (sight_in behind) noted))
  marked_then over is no_update marked =
      subst (λ b. AreMarked setup.passing (newest_of given) (unless_over over noted.frame.id u.marks) (theory_receive_windows.after setup.passing rooms (given_or_sent b before (sight_in behind) noted))) (sym no_update)
      (subst (λ b. AreMarked setup.passing (newest_of given) (unless_over over noted.frame.id u.marks) (theory_receive_windows.with_sent rooms noted b)) (sym is) (marked_sent setup.passing (newest_of given) u.marks rooms marked noted over))

  module _ (leads : LeadsTo setup false (book_at u begun given) (Sent noted) new called) (mild : is_calming noted.frame ≡ false) (no_update : (noted.frame.kind == window_update_kind) ≡ false) (over : Bool) (gone : over_is over) (run : List Move) (stands : Stands setup run s) (so : AreSo setup run) (marked : AreMarked setup.passing (newest_of given) u.marks rooms) (held : List Held) (held_is : theory_requests.kept (told_in behind) u.upstreams.held ≡ held) where
    ledger_is : (d : Decision) → conduct_of d ≡ record { entry = Sent noted; fails = false } → ledger_after setup s.ledger (conduct_of d) ≡ ledger_then
    ledger_is d same = ap (ledger_after setup s.ledger) same ∙ sent_ledger setup false s.ledger noted new called (ap (λ b. b && true) mild) leads

    -- what is kept of DATA stands for the windows behind either
    pub marked_behind : (d : Decision) → conduct_of d ≡ record { entry = Sent noted; fails = false } → window_of before (sight_in behind) d ≡ given_or_sent (noted.frame.kind == window_update_kind) before (sight_in behind) noted
        → AreMarked setup.passing (newest_of given) (unless_over over noted.frame.id u.marks) (theory_receive_windows.after setup.passing rooms (window_of before (sight_in (told_behind setup s d)) d))
    marked_behind d same as_sent =
        subst (λ (x : Ledger). AreMarked setup.passing (newest_of given) (unless_over over noted.frame.id u.marks) (theory_receive_windows.after setup.passing rooms (window_of before (sight_in (summary_in x.book)) d))) (sym (ledger_is d same))
        (subst (λ (m : theory_receive_windows.Move). AreMarked setup.passing (newest_of given) (unless_over over noted.frame.id u.marks) (theory_receive_windows.after setup.passing rooms m)) (sym as_sent) (marked_then over gone no_update marked))

    -- The state behind a frame that brings no stream an item.
    pub behind_sent : next setup s (Does (Sends noted table)) ≡ record {
      ledger = ledger_then;
      offers = record u.offers { kept = theory_responses.unless_over (noted.frame.kind == rst_stream_kind) noted.frame.id u.offers.kept };
      requests = upstreams.with_due (record u.upstreams { held = held }) Nothing;
      tables = record rest { decoding = u.inbound.table; lost = false; encoding = theory_header_tables.encoding_after (completed_in begun noted.frame) table u.encoding };
      windows = back_if over noted.frame.id u windows;
    }
    behind_sent =
        ap (λ (x : Ledger). state_then x (Sends noted table)) (ledger_is (Sends noted table) refl)
        ∙ ap (λ (hs : List Held). record (state_then ledger_then (Sends noted table)) { requests = upstreams.with_due (record u.upstreams { held = hs }) Nothing }) held_is
        ∙ ap (λ (w : theory_receive_windows.Kept). record (state_then ledger_then (Sends noted table)) { requests = upstreams.with_due (record u.upstreams { held = held }) Nothing; windows = w }) (windows_then over gone no_update run stands so marked)

    -- That behind one with which a part is complete.
    pub behind_part : (item : Item) (part : Part) → next setup s (Does (Goes noted item part table)) ≡ record {
      ledger = ledger_then;
      offers = record { kept = theory_responses.unless_over (not (is_active_in noted.frame.id behind)) noted.frame.id (theory_responses.change noted.frame.id (theory_responses.gone part) u.offers.kept); last = noted.frame.id };
      requests = upstreams.with_due (record u.upstreams { held = held }) Nothing;
      tables = record rest { decoding = u.inbound.table; lost = false; encoding = theory_header_tables.encoding_after (completed_in begun noted.frame) table u.encoding };
      windows = back_if over noted.frame.id u windows;
    }
    behind_part item part =
        ap (λ (x : Ledger). state_then x (Goes noted item part table)) (ledger_is (Goes noted item part table) refl)
        ∙ ap (λ (hs : List Held). record (state_then ledger_then (Goes noted item part table)) { requests = upstreams.with_due (record u.upstreams { held = hs }) Nothing }) held_is
        ∙ ap (λ (w : theory_receive_windows.Kept). record (state_then ledger_then (Goes noted item part table)) { requests = upstreams.with_due (record u.upstreams { held = held }) Nothing; windows = w }) (windows_then over gone no_update run stands so marked)
