-- A control frame that is owed next is sent: this performs.
use Rattle.std.proofs.Common.{◌≡◌, ℕ, ◌+◌, ◌≤◌, nat_lt, Bool, true, false, not, ◌&&◌, ◌||◌, ◌==◌, List, [], ◌∷◌, ◌++◌, append-nil, length, Option, Some, None, Result, Ok, Err, OnOk, refl, sym, ◌∙◌, ap, subst, inl, inr, if◌then◌else◌, arith}
use Rattle.model.specs.Frames.{Frame, Fits, spell, setting, continuation_kind, has_flag, goaway, no_error}
use Rattle.model.specs.Logs.{Output}
use Rattle.model.specs.Logs.Output.{ToClient}
use Rattle.model.specs.Setup.{Setup}
use Rattle.model.specs.Tapes.{put}
use Rattle.model.specs.Openings.{Opened, given}
use Rattle.model.specs.Decoding.{Partial, joined}
use Rattle.model.specs.Lifetimes.{may_open}
use Rattle.model.specs.Limits.{most_untaken}
use Rattle.model.specs.ErrorClause.{is_calming}
use Rattle.theory_errors.specs.Summary.{Summary}
use Rattle.theory_errors.specs.Judging.{completed_in}
use Rattle.theory_errors.specs.Turn.{rest_of}
use Rattle.theory_errors.specs.Quiet.{IsControl, noted_of, paid_of}
use Rattle.theory_errors.specs.Book.{Book, Ledger, ledger_after, summary_in}
use Rattle.theory_errors.proofs.Paying.{no_passing}
use Rattle.theory_responses.specs.State as theory_responses
use Rattle.theory_responses.specs.Sight.{sight_in}
use Rattle.theory_receive_windows.specs.State as theory_receive_windows
use Rattle.theory_requests.specs.State as theory_requests
use Rattle.theory_requests.specs.Rule.{MaySend}
use Rattle.theory_requests.specs.Lines.{find}
use Rattle.theory_header_tables.specs.State as theory_header_tables
use Rattle.connection_state.specs.Inbound.{book_of}
use Rattle.connection_state.proofs.SendingBooks.{control_leads}
use Rattle.connection_state.proofs.SendingEvents.{sent_ledger}
use Rattle.upstream_connections.specs.Kept as upstreams
use Rattle.upstream_connections.specs.Connections.{Connection, number_of}
use Rattle.theory.specs.Moves.{Decision, Move, conduct_of, told_in}
use Rattle.theory.specs.Moves.Decision.{Sends}
use Rattle.theory.specs.Moves.Move.{Does}
use Rattle.theory.specs.State.{State, gates_in}
use Rattle.theory.specs.Steps.{told_by, told_behind, next, MayGoOn}
use Rattle.theory.proofs.Going.{may_pay}
use Rattle.theory.proofs.Stepping.{one_more}
use Rattle.theory_receive_windows.specs.Rule.{is_over_by}
use Rattle.theory.specs.Rule.{rooms_in}
use Rattle.refinement.specs.View.{View, Pending, Keeps, AreMarked, IsInEffect, Leads, IsCredited, newest_in}
use Rattle.refinement.specs.Bringing.{PerformsOwn}
use Rattle.event_handlers.proofs.paying.Held.{all_kept}
use Rattle.refinement.proofs.Staying.{so_stays, heard_stays, rows_kept, all_held_served}
use Rattle.event_handlers.specs.paying.Controls.{frame_of, IsOwed, IsShort, MayPay}
use Rattle.event_handlers.specs.declared.paying.control.Control.{Control}
use Rattle.event_handlers.specs.declared.paying.control.Control.TheVariants as control
use Rattle.refinement.proofs.Marking.{rooms_next, marked_sent}
use Rattle.event_handlers.proofs.paying.Windows.{windows_sent, rooms_sent}

-- it completes no header block
completes_none : (before : Option Partial) (frame : Frame) → IsControl frame → completed_in before frame ≡ None
completes_none before frame c =
    ap (λ b. if (b || frame.kind == continuation_kind) && has_flag 4 frame then joined before frame else None) c.no_headers
    ∙ ap (λ b. if b && has_flag 4 frame then joined before frame else None) c.no_continuation

module _ (setup : Setup) (kept : View) (pending : Pending) (rest : List Frame) (frame : Frame) (control : IsControl frame) (of_connection : frame.id ≡ 0) (fits : Fits frame) (front : pending.owed ≡ frame ∷ rest) (may_pay_it : MayPay pending.due frame) (mild : is_calming frame ≡ false) (few : nat_lt most_untaken kept.untaken ≡ false) (outputs : List Output) where
  -- what is kept then, and what is pending
  abbrev pub paid_view : View
  paid_view = record kept { untaken = kept.untaken + length (spell frame) }

  abbrev pub paid_pending : Pending
  paid_pending = record pending { owed = rest }

  module _ (run : List Move) (s : State) (leads : Leads setup run kept pending s) where
    abbrev decision : Decision
    decision = Sends (noted_of frame) s.tables.encoding.table

    abbrev book : Book
    book = s.ledger.book

    none_begun : book.block_out ≡ None
    none_begun = ap (λ (b : Book). b.block_out) leads.keeps.book

    open_yet : book.closed ≡ false
    open_yet = ap (λ (b : Book). b.closed) leads.keeps.book

    goes_on : book.ends ≡ false
    goes_on = ap (λ (b : Book). b.ends) leads.keeps.book

    owing : (is_calming frame && not book.ends) ≡ false
    owing = ap (λ b. b && not book.ends) mild

    queue : s.ledger.queue ≡ frame ∷ rest
    queue = leads.keeps.owed ∙ front

    -- the ledger behind it
    ledger : ledger_after setup s.ledger (conduct_of decision) ≡ record { book = paid_of book frame; queue = rest }
    ledger =
        sent_ledger setup false s.ledger (noted_of frame) (paid_of book frame) [] owing (control_leads setup book frame (rows_kept setup run s leads.stands) none_begun control)
        ∙ ap (λ (q : List Frame). record { book = paid_of book frame; queue = rest_of q ++ [] }) queue
        ∙ ap (λ (q : List Frame). record { book = paid_of book frame; queue = q }) (append-nil rest)

    told : told_behind setup s decision ≡ summary_in (paid_of book frame)
    told = ap (λ (d : Ledger). summary_in d.book) ledger

    -- nothing is due before it, unless it is a GOAWAY
    before_due : MaySend s.requests (noted_of frame)
    before_due = elim may_pay_it [ inl nothing ↦ inl (ap (λ (r : theory_requests.State). r.due) leads.keeps.requests ∙ nothing) | inr goaway ↦ inr (goaway, mild) ]

    may : MayGoOn setup s (Does decision)
    may = (
      ap (λ (d : Ledger). d.book.ends) ledger ∙ ap (λ b. b || book.ends) mild ∙ goes_on,
      may_pay setup (told_behind setup s decision) s (noted_of frame) s.tables.encoding.table (record {
        between = record {
          open_yet = open_yet;
          none_begun = none_begun;
          before_due = before_due;
          no_note = refl;
          not_to_open = ap (λ n. may_open (told_by s).drained (told_by s).opened n) of_connection;
        };
        front = subst (λ (q : List Frame). q ≡ frame ∷ rest_of q) (sym queue) refl;
        control = no_passing frame control;
        owing = owing;
        calm = ap (λ (b : Book). nat_lt most_untaken b.untaken && not (is_calming frame)) leads.keeps.book ∙ ap (λ b. b && not (is_calming frame)) few;
      }),
    )

    abbrev then_state : State
    then_state = next setup s (Does decision)

    -- each field behind it
    book_kept : then_state.ledger.book ≡ book_of (record { given = then_state.ledger.book.given; untaken = paid_view.untaken }) kept.inbound
    book_kept =
        ap (λ (d : Ledger). d.book) ledger
        ∙ ap (λ (b : Book). paid_of b frame) leads.keeps.book
        ∙ ap (λ x. record (book_of (record { given = book.given; untaken = paid_view.untaken }) kept.inbound) { ends = x || false }) mild
        ∙ ap (λ (os : List Opened). book_of (record { given = os; untaken = paid_view.untaken }) kept.inbound) (sym (ap (λ (d : Ledger). d.book.given) ledger))

    offers_kept : then_state.offers ≡ kept.offers
    offers_kept = ap (λ b. record { kept = theory_responses.unless_over b frame.id s.offers.kept; last = s.offers.last }) control.no_reset ∙ leads.keeps.offers

    requests_kept : then_state.requests ≡ upstreams.with_due kept.upstreams pending.due
    requests_kept =
        ap (λ (u : Summary). theory_requests.after setup (told_in u) s.requests (theory_requests.Move.Sends (noted_of frame))) told
        ∙ ap (λ (hs : List theory_requests.Held). record { held = hs; live = s.requests.live; due = s.requests.due; count = s.requests.count }) (all_kept (told_in (summary_in (paid_of book frame))) s.requests.held (all_held_served setup run s leads.stands leads.so))
        ∙ leads.keeps.requests

    encoding_kept : then_state.tables.encoding ≡ kept.encoding
    encoding_kept = ap (λ (b : Option Partial). theory_header_tables.encoding_after b s.tables.encoding.table s.tables.encoding) (completes_none (told_by s).block_out frame control) ∙ leads.keeps.encoding

    -- no stream is over with it
    none_over : is_over_by (sight_in (told_by s)) (sight_in (told_behind setup s decision)) frame.id ≡ false
    none_over = ap (λ (u : Summary). is_over_by (sight_in (told_by s)) (sight_in u) frame.id) told ∙ neither ((sight_in (told_by s)).active frame.id)
      where
        neither : (b : Bool) → (b && not b) ≡ false
        neither true = refl
        neither false = refl

    windows_kept : then_state.windows ≡ s.windows
    windows_kept = windows_sent setup.passing (gates_in (told_by s) s.requests) s.windows (sight_in (told_by s)) (sight_in (told_behind setup s decision)) (noted_of frame) control.no_update none_over

    marked : AreMarked setup.passing (newest_in then_state) kept.marks (rooms_in (told_by then_state) then_state)
    marked =
        subst (λ (os : List Opened). AreMarked setup.passing (λ j. given j os) kept.marks (rooms_in (told_by then_state) then_state)) (sym (ap (λ (d : Ledger). d.book.given) ledger))
        (subst (AreMarked setup.passing (newest_in s) kept.marks)
        (sym (rooms_next setup run s leads.stands leads.so decision may (so_stays setup run decision tt leads.so) ∙ rooms_sent setup.passing (rooms_in (told_by s) s) (sight_in (told_by s)) (sight_in (told_behind setup s decision)) (noted_of frame) control.no_update none_over))
        (marked_sent setup.passing (newest_in s) kept.marks (rooms_in (told_by s) s) leads.marked (noted_of frame) false))

    credited : IsCredited paid_pending kept.inbound then_state.windows
    credited =
        let was = leads.keeps.credited in
        subst (λ (w : theory_receive_windows.Kept). IsCredited paid_pending kept.inbound w) (sym windows_kept) (record { fresh = was.fresh; shared = was.shared; own = was.own })

    counted : (k : ℕ) (c : Connection) → find number_of k kept.upstreams.live ≡ Some c → (then_state.windows.out k ≡ c.out) × (then_state.windows.took k ≡ c.took)
    counted k c found = subst (λ (w : theory_receive_windows.Kept). (w.out k ≡ c.out) × (w.took k ≡ c.took)) (sym windows_kept) (leads.keeps.counted k c found)

    keeps : Keeps paid_view paid_pending then_state
    keeps = record {
      book = book_kept;
      owed = ap (λ (d : Ledger). d.queue) ledger;
      offers = offers_kept;
      requests = requests_kept;
      decoding = leads.keeps.decoding;
      encoding = encoding_kept;
      read = leads.keeps.read;
      credited = credited;
      counted = counted;
    }

    leads_on : Leads setup (Does decision ∷ run) paid_view paid_pending then_state
    leads_on = record {
      stands = one_more setup run s (Does decision) leads.stands may;
      so = so_stays setup run decision tt leads.so;
      heard = heard_stays setup run s leads.stands leads.so kept.upstreams.live (ap (λ (r : theory_requests.State). r.live) leads.keeps.requests) decision tt leads.heard;
      keeps = keeps;
      marked = marked;
      in_effect = subst (λ (w : theory_receive_windows.Kept). IsInEffect pending.due w.settled) (sym windows_kept) leads.in_effect;
    }

  -- A frame that is owed is sent, and then it is owed no more.
  pub pays : PerformsOwn setup kept pending outputs paid_view paid_pending (put outputs (ToClient (spell frame)))
  pays run s leads = record {
    segment = record {
      moves = Does (decision run s leads) ∷ [];
      state = then_state run s leads;
      by_rule = (s, refl, may run s leads, refl);
      leads = leads_on run s leads;
      puts = refl;
    };
    are_own = (fits, tt);
  }

-- ---- the frames that are control frames

abbrev is_control : (frame : Control) → IsOwed frame → IsControl (frame_of frame)
is_control (control.Settings more_room) owed = record { no_data = refl; no_headers = refl; no_reset = refl; no_update = refl; no_continuation = refl }
is_control control.SettingsAck owed = record { no_data = refl; no_headers = refl; no_reset = refl; no_update = refl; no_continuation = refl }
is_control (control.PingAck octets) owed = record { no_data = refl; no_headers = refl; no_reset = refl; no_update = refl; no_continuation = refl }
is_control (control.Goaway last code) owed = record { no_data = refl; no_headers = refl; no_reset = refl; no_update = refl; no_continuation = refl }
is_control (control.Reset stream code) owed = absurd owed
is_control (control.Update stream octets) owed = absurd owed

on_connection : (frame : Control) → IsOwed frame → (frame_of frame).id ≡ 0
on_connection (control.Settings more_room) owed = refl
on_connection control.SettingsAck owed = refl
on_connection (control.PingAck octets) owed = refl
on_connection (control.Goaway last code) owed = refl
on_connection (control.Reset stream code) owed = absurd owed
on_connection (control.Update stream octets) owed = absurd owed

-- it doesn't ask the client to be calm
asks_no_calm : (frame : Control) → IsOwed frame → is_calming (frame_of frame) ≡ false
asks_no_calm (control.Settings more_room) owed = refl
asks_no_calm control.SettingsAck owed = refl
asks_no_calm (control.PingAck octets) owed = refl
asks_no_calm (control.Goaway last code) owed = let same : is_calming (goaway last code) ≡ is_calming (goaway last no_error) = ap (λ n. is_calming (goaway last n)) owed in same
asks_no_calm (control.Reset stream code) owed = absurd owed
asks_no_calm (control.Update stream octets) owed = absurd owed

-- settings fit in a frame
settings_fit : (more : ℕ) (b : Bool) → length (setting 3 100 ++ (setting 6 16384 ++ (if b then [] else setting 4 (65535 + more)))) ≤ 16384
settings_fit more true = omega arith
settings_fit more false = omega arith

all_fit : (frame : Control) → IsShort frame → Fits (frame_of frame)
all_fit (control.Settings more_room) short = record { kind = omega arith; flags = omega arith; id = omega arith; payload = settings_fit more_room (more_room == 0) }
all_fit control.SettingsAck short = record { kind = omega arith; flags = omega arith; id = omega arith; payload = omega arith }
all_fit (control.PingAck octets) short = record { kind = omega arith; flags = omega arith; id = omega arith; payload = short }
all_fit (control.Goaway last code) short = record { kind = omega arith; flags = omega arith; id = omega arith; payload = omega arith }
all_fit (control.Reset stream code) short = record { kind = omega arith; flags = omega arith; id = short; payload = omega arith }
all_fit (control.Update stream octets) short = record { kind = omega arith; flags = omega arith; id = short; payload = omega arith }

-- So what code does when it pays performs.
pub pays_control : (setup : Setup) (kept : View) (pending : Pending) (rest : List Frame) (frame : Control) → IsShort frame → IsOwed frame → nat_lt most_untaken kept.untaken ≡ false → pending.owed ≡ frame_of frame ∷ rest → MayPay pending.due (frame_of frame) → (outputs : List Output)
    → PerformsOwn setup kept pending outputs (record kept { untaken = kept.untaken + length (spell (frame_of frame)) }) (record pending { owed = rest }) (put outputs (ToClient (spell (frame_of frame))))
pays_control setup kept pending rest frame short owed few front may outputs =
    pays setup kept pending rest (frame_of frame) (is_control frame owed) (on_connection frame owed) (all_fit frame short) front may (asks_no_calm frame owed) few outputs

-- What is promised where something succeeds may be said in other words.
pub on_ok : {T : Type 0} {E : Type 0} {A : Type 0} {B : Type 0} (r : Result T E) → (A → B) → OnOk r A → OnOk r B
on_ok (Ok x) f a = f a
on_ok (Err e) f a = tt
