-- Octets are given back: this performs.
use Rattle.std.proofs.Common.{◌≡◌, ℕ, Bool, true, false, not, ◌&&◌, ◌||◌, ◌==◌, List, [], ◌∷◌, ◌++◌, Option, Some, None, refl, sym, ◌∙◌, ap, subst, if◌then◌else◌, inl}
use Rattle.model.specs.Frames.{Frame, Fits, spell, spell_number, headers_kind, continuation_kind, rst_stream_kind, goaway_kind, window_update_kind, has_flag, enhance_your_calm}
use Rattle.std.specs.Prelude.{drop, bytes_eq}
use Rattle.model.specs.ErrorClause.{is_calming}
use Rattle.model.specs.Logs.{Output}
use Rattle.model.specs.Logs.Output.{ToClient}
use Rattle.model.specs.Setup.{Setup}
use Rattle.model.specs.Tapes.{put}
use Rattle.model.specs.Tapes.Entry.{Sent}
use Rattle.model.specs.Openings.{Opened, given}
use Rattle.model.specs.Decoding.{Partial, joined}
use Rattle.model.specs.Lifetimes.{may_open}
use Rattle.theory_errors.specs.Judging.{completed_in}
use Rattle.theory_errors.specs.Owing.{is_rightly_sent_in, must_end_in}
use Rattle.theory_errors.specs.Turn.{rest_of}
use Rattle.theory_errors.specs.Quiet.{noted_of}
use Rattle.theory_errors.specs.Book.{Book, Ledger, ledger_after, summary_in}
use Rattle.theory_responses.specs.State as theory_responses
use Rattle.theory_responses.specs.Sight.{sight_in}
use Rattle.theory_receive_windows.specs.Rule.{OwesAll}
use Rattle.theory_receive_windows.specs.State as theory_receive_windows
use Rattle.theory_receive_windows.specs.State.{kept_of, with_given}
use Rattle.theory_requests.specs.State as theory_requests
use Rattle.theory_requests.specs.Lines.{find}
use Rattle.theory_requests.specs.State.{Held}
use Rattle.theory_header_tables.specs.State as theory_header_tables
use Rattle.connection_state.specs.Inbound.{Inbound, book_of}
use Rattle.connection_state.specs.Sending.{LeadsTo}
use Rattle.connection_state.proofs.SendingEvents.{sent_ledger}
use Rattle.upstream_connections.specs.Kept as upstreams
use Rattle.upstream_connections.specs.Connections.{Connection, number_of}
use Rattle.theory.specs.Moves.{Decision, Move, conduct_of, given_or_sent, told_in}
use Rattle.theory.specs.Moves.Decision.{Sends}
use Rattle.theory.specs.Moves.Move.{Does}
use Rattle.theory.specs.State.{State}
use Rattle.theory.specs.Rule.{rooms_in}
use Rattle.theory.specs.Steps.{told_by, told_behind, next, MayGoOn}
use Rattle.theory.proofs.Going.{may_give}
use Rattle.theory.proofs.Stepping.{one_more}
use Rattle.refinement.specs.View.{View, Pending, Keeps, AreMarked, IsInEffect, Leads, IsCredited, newest_in}
use Rattle.refinement.specs.Bringing.{PerformsOwn}
use Rattle.refinement.proofs.Kept.{AreServed}
use Rattle.refinement.proofs.Marking.{rooms_next, marked_given}
use Rattle.refinement.proofs.Staying.{so_stays, heard_stays, all_held_served}
use Rattle.event_handlers.proofs.paying.Held.{all_kept}

-- What is to be shown of a frame that gives octets back where moves led: the book behind it, which serves the same streams, and what is owed then.
pub record IsGivenBack (kept : View) (inbound : Inbound) (untaken : ℕ) (pending' : Pending) (frame : Frame) (setup : Setup) (s : State) : Type 0 where
  pub book : Book
  pub leads_to : LeadsTo setup false s.ledger.book (Sent (noted_of frame)) book []
  pub book_is : book ≡ book_of (record { given = book.given; untaken = untaken }) inbound
  pub given_same : book.given ≡ s.ledger.book.given
  pub served : (hs : List Held) → AreServed (told_in (told_by s)) hs → AreServed (told_in (summary_in book)) hs
  pub not_to_open : may_open (told_by s).drained (told_by s).opened frame.id ≡ false
  pub goes_on : must_end_in (told_by s) ≡ false
  pub rightly : is_rightly_sent_in (told_by s) frame ≡ true
  pub owed : OwesAll (sight_in (told_by s)) (rooms_in (told_by s) s) frame (frame.id == 0)
  pub credited : IsCredited pending' inbound (kept_of (with_given (frame.id == 0) (rooms_in (told_by s) s) (noted_of frame)))

module _ (setup : Setup) (kept : View) (inbound : Inbound) (untaken : ℕ) (same_table : inbound.table ≡ kept.inbound.table) (pending pending' : Pending) (nothing : pending.owed ≡ []) (nothing_due : pending.due ≡ theory_requests.Due.Nothing) (still_nothing : pending'.owed ≡ []) (still_nothing_due : pending'.due ≡ theory_requests.Due.Nothing)
    (frame : Frame) (kind : frame.kind ≡ window_update_kind) (fits : Fits frame) (outputs : List Output) (shown : (run : List Move) (s : State) → Leads setup run kept pending s → IsGivenBack kept inbound untaken pending' frame setup s) where
  -- what is kept then
  abbrev pub given_view : View
  given_view = record kept { inbound = inbound; untaken = untaken }

  module _ (run : List Move) (s : State) (leads : Leads setup run kept pending s) where
    abbrev decision : Decision
    decision = Sends (noted_of frame) s.tables.encoding.table

    is : IsGivenBack kept inbound untaken pending' frame setup s
    is = shown run s leads

    none_begun : s.ledger.book.block_out ≡ None
    none_begun = ap (λ (b : Book). b.block_out) leads.keeps.book

    queue : s.ledger.queue ≡ []
    queue = leads.keeps.owed ∙ nothing

    asks_no_calm : (is_calming frame && not s.ledger.book.ends) ≡ false
    asks_no_calm = ap (λ n. (n == goaway_kind && bytes_eq (drop 4 frame.payload) (spell_number enhance_your_calm)) && not s.ledger.book.ends) kind

    ledger : ledger_after setup s.ledger (conduct_of decision) ≡ record { book = is.book; queue = [] }
    ledger = sent_ledger setup false s.ledger (noted_of frame) is.book [] asks_no_calm is.leads_to ∙ ap (λ (q : List Frame). record { book = is.book; queue = rest_of q ++ [] }) queue

    may : MayGoOn setup s (Does decision)
    may = (
      ap (λ (d : Ledger). d.book.ends) ledger ∙ ap (λ (b : Book). b.ends) is.book_is,
      may_give setup (told_behind setup s decision) s (noted_of frame) s.tables.encoding.table (record {
        between = record {
          open_yet = ap (λ (b : Book). b.closed) leads.keeps.book;
          none_begun = none_begun;
          before_due = inl (ap (λ (r : theory_requests.State). r.due) leads.keeps.requests ∙ nothing_due);
          no_note = refl;
          not_to_open = is.not_to_open;
        };
        kind = kind;
        nothing = queue;
        goes_on = is.goes_on;
        rightly = is.rightly;
        all = record { kind = kind; owed = is.owed };
      }),
    )

    abbrev then_state : State
    then_state = next setup s (Does decision)

    -- each field behind it
    book_kept : then_state.ledger.book ≡ book_of (record { given = then_state.ledger.book.given; untaken = untaken }) inbound
    book_kept =
        ap (λ (d : Ledger). d.book) ledger
        ∙ is.book_is
        ∙ ap (λ (os : List Opened). book_of (record { given = os; untaken = untaken }) inbound) (sym (ap (λ (d : Ledger). d.book.given) ledger))

    offers_kept : then_state.offers ≡ kept.offers
    offers_kept = ap (λ n. record { kept = theory_responses.unless_over (n == rst_stream_kind) frame.id s.offers.kept; last = s.offers.last }) kind ∙ leads.keeps.offers

    requests_kept : then_state.requests ≡ upstreams.with_due kept.upstreams pending'.due
    requests_kept =
        ap (λ (d : Ledger). theory_requests.after setup (told_in (summary_in d.book)) s.requests (theory_requests.Move.Sends (noted_of frame))) ledger
        ∙ ap (λ (hs : List Held). record { held = hs; live = s.requests.live; due = s.requests.due; count = s.requests.count }) (all_kept (told_in (summary_in is.book)) s.requests.held (is.served s.requests.held (all_held_served setup run s leads.stands leads.so)))
        ∙ leads.keeps.requests
        ∙ ap (λ (d : theory_requests.Due). upstreams.with_due kept.upstreams d) (nothing_due ∙ sym still_nothing_due)

    completes_none : completed_in (told_by s).block_out frame ≡ None
    completes_none = ap (λ n. if (n == headers_kind || n == continuation_kind) && has_flag 4 frame then joined (told_by s).block_out frame else None) kind

    windows_kept : then_state.windows ≡ kept_of (with_given (frame.id == 0) (rooms_in (told_by s) s) (noted_of frame))
    windows_kept = ap (λ n. kept_of (theory_receive_windows.after setup.passing (rooms_in (told_by s) s) (given_or_sent (n == window_update_kind) (sight_in (told_by s)) (sight_in (told_behind setup s decision)) (noted_of frame)))) kind

    same_counts : (b : Bool) → ((kept_of (with_given b (rooms_in (told_by s) s) (noted_of frame))).out ≡ s.windows.out) × ((kept_of (with_given b (rooms_in (told_by s) s) (noted_of frame))).took ≡ s.windows.took)
    same_counts true = (refl, refl)
    same_counts false = (refl, refl)

    counted : (k : ℕ) (c : Connection) → find number_of k kept.upstreams.live ≡ Some c → (then_state.windows.out k ≡ c.out) × (then_state.windows.took k ≡ c.took)
    counted k c found =
        let so = leads.keeps.counted k c found in
        let same = same_counts (frame.id == 0) in (
          ap (λ (w : theory_receive_windows.Kept). w.out k) windows_kept ∙ ap (λ (f : ℕ → ℕ). f k) same.0 ∙ so.0,
          ap (λ (w : theory_receive_windows.Kept). w.took k) windows_kept ∙ ap (λ (f : ℕ → ℕ). f k) same.1 ∙ so.1,
        )

    keeps : Keeps given_view pending' then_state
    keeps = record {
      book = book_kept;
      owed = ap (λ (d : Ledger). d.queue) ledger ∙ sym still_nothing;
      offers = offers_kept;
      requests = requests_kept;
      decoding = leads.keeps.decoding ∙ sym same_table;
      encoding = ap (λ (b : Option Partial). theory_header_tables.encoding_after b s.tables.encoding.table s.tables.encoding) completes_none ∙ leads.keeps.encoding;
      read = leads.keeps.read;
      credited = subst (λ (w : theory_receive_windows.Kept). IsCredited pending' inbound w) (sym windows_kept) is.credited;
      counted = counted;
    }

    marked : AreMarked setup.passing (newest_in then_state) kept.marks (rooms_in (told_by then_state) then_state)
    marked =
        subst (λ (os : List Opened). AreMarked setup.passing (λ j. given j os) kept.marks (rooms_in (told_by then_state) then_state)) (sym (ap (λ (d : Ledger). d.book.given) ledger ∙ is.given_same))
        (subst (AreMarked setup.passing (newest_in s) kept.marks)
        (sym (rooms_next setup run s leads.stands leads.so decision may (so_stays setup run decision tt leads.so)
        ∙ ap (λ n. theory_receive_windows.after setup.passing (rooms_in (told_by s) s) (given_or_sent (n == window_update_kind) (sight_in (told_by s)) (sight_in (told_behind setup s decision)) (noted_of frame))) kind))
        (marked_given setup.passing (newest_in s) kept.marks (rooms_in (told_by s) s) leads.marked (frame.id == 0) (noted_of frame)))

    leads_on : Leads setup (Does decision ∷ run) given_view pending' then_state
    leads_on = record {
      stands = one_more setup run s (Does decision) leads.stands may;
      so = so_stays setup run decision tt leads.so;
      heard = heard_stays setup run s leads.stands leads.so kept.upstreams.live (ap (λ (r : theory_requests.State). r.live) leads.keeps.requests) decision tt leads.heard;
      keeps = keeps;
      marked = marked;
      in_effect = subst (λ (d : theory_requests.Due). IsInEffect d then_state.windows.settled) (sym still_nothing_due) tt;
    }

  -- The frame that gives them back is sent.
  pub gives : PerformsOwn setup kept pending outputs given_view pending' (put outputs (ToClient (spell frame)))
  gives run s leads = record {
    segment = record { moves = Does (decision run s leads) ∷ []; state = then_state run s leads; by_rule = (s, refl, may run s leads, refl); leads = leads_on run s leads; puts = refl };
    are_own = (fits, tt);
  }
