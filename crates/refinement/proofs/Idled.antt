-- Where the gateway rests and something comes of an idle connection, no stream notices: octets or its end finish the connection, which is to be
-- closed then; it is gone where it fails; and no octets change nothing.
use Rattle.std.proofs.Common.{◌≡◌, ℕ, suc, ◌≤◌, true, false, if◌then◌else◌, List, [], ◌∷◌, map, length, Option, Some, refl, sym, ◌∙◌, ap, subst}
use Rattle.std.specs.Prelude.{is_some, ◌&&◌, nat_le}
use Rattle.model.specs.Logs.{Event, Output}
use Rattle.model.specs.Logs.Event.{Client, ClientEnd, ClientTook, Up, UpEnd, UpFailed, UpTook, Drain}
use Rattle.model.specs.Setup.{Setup}
use Rattle.model.specs.Tapes.Entry.{Happened}
use Rattle.model.specs.Openings.{Opened, given}
use Rattle.model.specs.Courses.{upstream_of}
use Rattle.theory_errors.specs.Book.{Book, Ledger, ledger_after, summary_in}
use Rattle.theory_receive_windows.specs.Policy.{Gates, may_come}
use Rattle.theory_receive_windows.specs.State as theory_receive_windows
use Rattle.theory_requests.specs.Told.{Told}
use Rattle.theory_requests.specs.Lines.{Line, Heard, find, without, line_of, lines_heard}
use Rattle.theory_requests.specs.Lines as lines
use Rattle.theory_requests.specs.Lines.Answer.{Pending, Idle, Done}
use Rattle.theory_requests.specs.Lines.Heard.{Keepable, Finished}
use Rattle.theory_requests.specs.State as theory_requests
use Rattle.theory_requests.specs.State.{Held, drop_from}
use Rattle.theory_requests.specs.State.Due.{Nothing}
use Rattle.connection_state.specs.Inbound.{book_of}
use Rattle.connection_state.specs.Sending.{is_of_upstream}
use Rattle.connection_state.proofs.SendingEvents.{heard_lead, happened_ledger}
use Rattle.upstream_response.specs.HeldInside.{octets_of}
use Rattle.upstream_connections.specs.Kept as upstreams
use Rattle.upstream_connections.specs.Connections.{Connection, number_of, lives, marked_at, heard_at, idle_count, AreBelow}
use Rattle.theory.specs.Moves.{Decision, Move, conduct_of, idled, told_in}
use Rattle.theory.specs.Moves.Decision.{Idles}
use Rattle.theory.specs.Moves.Move.{Does}
use Rattle.theory.specs.State.{State, gates_in}
use Rattle.theory.specs.Rule.{rooms_in}
use Rattle.theory.specs.Coming.{MayBreakOff, IsReady}
use Rattle.theory.specs.Steps.{told_by, told_behind, next, MayGoOn}
use Rattle.theory.proofs.Coming.{may_idle}
use Rattle.theory.proofs.Stepping.{one_more}
use Rattle.refinement.specs.View.{View, balanced, newest_in, Keeps, AreMarked, AreSo, AreHeard, Leads}
use Rattle.refinement.specs.Rest.{IsAtRest}
use Rattle.refinement.specs.Bringing.{Course}
use Rattle.refinement.proofs.Idles.{so_idles, idle_stays}
use Rattle.refinement.proofs.Kept.{AreServed, served_by, served_dropped, kept_served}
use Rattle.refinement.proofs.Lives.{lives_heard, lives_closed}
use Rattle.refinement.proofs.Marking.{rooms_next, marked_event}
use Rattle.refinement.proofs.Resting.{rests_are_ready}
use Rattle.refinement.proofs.Staying.{found_live, found_before, found_from, heard_of_fewer, heard_of_marked, heard_idles, rows_kept, all_held_served}
use Rattle.refinement.proofs.Ways.{AreFalling, numbers_fall, falling_below}
use Rattle.refinement.proofs.Where.{stands_here}

-- ---- events of an upstream but that octets were taken

of_upstream : (event : Event) → MayBreakOff event → is_of_upstream event ≡ true
of_upstream (Up k piece) may = refl
of_upstream (UpEnd k) may = refl
of_upstream (UpFailed k) may = refl
of_upstream (Client piece) may = absurd may
of_upstream ClientEnd may = absurd may
of_upstream (ClientTook count) may = absurd may
of_upstream (UpTook k count) may = absurd may
of_upstream Drain may = absurd may

-- of octets that wait they change nothing
quiet : (event : Event) → MayBreakOff event → (x : theory_receive_windows.State) → theory_receive_windows.with_event x event ≡ record x { settled = false }
quiet (Up k piece) may x = refl
quiet (UpEnd k) may x = refl
quiet (UpFailed k) may x = refl
quiet (Client piece) may x = absurd may
quiet ClientEnd may x = absurd may
quiet (ClientTook count) may x = absurd may
quiet (UpTook k count) may x = absurd may
quiet Drain may x = absurd may

-- One that is found now was among these, with the same counts.
pub record IsCounted (live : List Connection) (j : ℕ) (now : Connection) : Type 0 where
  pub before : Connection
  pub there : find number_of j live ≡ Some before
  pub out : before.out ≡ now.out
  pub took : before.took ≡ now.took

module _ (setup : Setup) (kept : View) (rest : IsAtRest kept) (run : List Move) (s : State) (leads : Leads setup run kept balanced s) (k : ℕ) (c : Connection) (found : find number_of k kept.upstreams.live ≡ Some c) (is_idle : c.live.answer ≡ Idle) where
  ready : IsReady s
  ready = rests_are_ready setup run kept s leads rest

  lives_are : s.requests.live ≡ lives kept.upstreams.live
  lives_are = ap (λ (r : theory_requests.State). r.live) leads.keeps.requests

  open_here : line_of k s.requests.live ≡ Some c.live
  open_here = ap (line_of k) lives_are ∙ found_live k kept.upstreams.live c found

  -- an event of it, behind which this is kept of requests and connections
  module _ (event : Event) (of : upstream_of event ≡ k) (may_break : MayBreakOff event) (comes : (gates : Gates) (rooms : theory_receive_windows.State) → gates.is_up k ≡ true → may_come gates rooms event ≡ true) (now : upstreams.State)
      (requests_are : (told : Told) → AreServed told kept.upstreams.held → theory_requests.after setup told (upstreams.with_due kept.upstreams Nothing) (idled event) ≡ upstreams.with_due now Nothing)
      (heard_now : (later : List Move) → AreHeard setup later kept.upstreams.live → AreHeard setup later now.live) (counted : (j : ℕ) (x : Connection) → find number_of j now.live ≡ Some x → IsCounted kept.upstreams.live j x) where
    abbrev decision : Decision
    decision = Idles event

    abbrev book : Book
    book = s.ledger.book

    abbrev then_view : View
    then_view = record kept { upstreams = now }

    abbrev then_state : State
    then_state = next setup s (Does decision)

    ledger : ledger_after setup s.ledger (conduct_of decision) ≡ record { book = record book { ends = false }; queue = [] }
    ledger = happened_ledger setup false s.ledger event (record book { ends = false }) [] (heard_lead setup book event (rows_kept setup run s leads.stands) (of_upstream event may_break))

    may : MayGoOn setup s (Does decision)
    may = (
      ap (λ (d : Ledger). d.book.ends) ledger,
      may_idle setup (told_behind setup s decision) s ready event (record {
        admitted = comes (gates_in (told_by s) s.requests) (rooms_in (told_by s) s) (ap (λ (o : Option Line). is_some o) open_here);
        of_upstream = may_break;
        kept = (c.live, ap (λ n. line_of n s.requests.live) of ∙ open_here);
      }),
    )

    abbrev told_then : Told
    told_then = told_in (summary_in (record book { ends = false }))

    served_then : AreServed told_then kept.upstreams.held
    served_then =
        subst (AreServed told_then) (ap (λ (r : theory_requests.State). r.held) leads.keeps.requests)
        (served_by (told_in (told_by s)) told_then (λ id. refl) s.requests.held (all_held_served setup run s leads.stands leads.so))

    requests_then : then_state.requests ≡ upstreams.with_due now Nothing
    requests_then =
        ap (λ (d : Ledger). theory_requests.after setup (told_in (summary_in d.book)) s.requests (idled event)) ledger
        ∙ ap (λ (r : theory_requests.State). theory_requests.after setup told_then r (idled event)) leads.keeps.requests
        ∙ requests_are told_then served_then

    windows_then : then_state.windows ≡ record s.windows { settled = false }
    windows_then = ap theory_receive_windows.kept_of (quiet event may_break (rooms_in (told_by s) s))

    so_then : AreSo setup (Does decision ∷ run)
    so_then = so_idles setup run s leads.stands leads.so k c.live open_here is_idle event of may_break

    heard_then : AreHeard setup (Does decision ∷ run) now.live
    heard_then = heard_now (Does decision ∷ run) (heard_idles setup run s leads.stands leads.so kept.upstreams.live lives_are event none_pending leads.heard)
      where
        none_pending : (x : Connection) → find number_of (upstream_of event) kept.upstreams.live ≡ Some x → x.live.answer ≡ Pending → ⊥
        none_pending x there on =
            let same : ◌≡◌ {A = Option Connection} (Some x) (Some c) = sym there ∙ ap (λ n. find number_of n kept.upstreams.live) of ∙ found in
            let this : x ≡ c = cc in
            let clash : Pending ≡ Idle = sym on ∙ ap (λ (y : Connection). y.live.answer) this ∙ is_idle in
            cc

    marked_then : AreMarked setup.passing (newest_in then_state) kept.marks (rooms_in (told_by then_state) then_state)
    marked_then =
        subst (λ (os : List Opened). AreMarked setup.passing (λ j. given j os) kept.marks (rooms_in (told_by then_state) then_state)) (sym (ap (λ (d : Ledger). d.book.given) ledger))
        (subst (AreMarked setup.passing (newest_in s) kept.marks) (sym (rooms_next setup run s leads.stands leads.so decision may so_then ∙ quiet event may_break (rooms_in (told_by s) s)))
        (marked_event setup.passing (newest_in s) kept.marks (rooms_in (told_by s) s) leads.marked))

    keeps_then : Keeps then_view balanced then_state
    keeps_then = record {
      book = ap (λ (d : Ledger). d.book) ledger ∙ ap (λ (b : Book). record b { ends = false }) leads.keeps.book ∙ ap (λ (os : List Opened). book_of (record { given = os; untaken = kept.untaken }) kept.inbound) (sym (ap (λ (d : Ledger). d.book.given) ledger));
      owed = ap (λ (d : Ledger). d.queue) ledger;
      offers = leads.keeps.offers;
      requests = requests_then;
      decoding = leads.keeps.decoding;
      encoding = leads.keeps.encoding;
      read = leads.keeps.read;
      credited = record {
        fresh = ap (λ (w : theory_receive_windows.Kept). w.count) windows_then ∙ leads.keeps.credited.fresh;
        shared = ap (λ (w : theory_receive_windows.Kept). w.debt) windows_then ∙ leads.keeps.credited.shared;
        own = λ id back. ap (λ (w : theory_receive_windows.Kept). (w.row id).debt) windows_then ∙ leads.keeps.credited.own id back;
      };
      counted = λ j x is.
          let from = counted j x is in
          let was = leads.keeps.counted j from.before from.there in (
            ap (λ (w : theory_receive_windows.Kept). w.out j) windows_then ∙ was.0 ∙ from.out,
            ap (λ (w : theory_receive_windows.Kept). w.took j) windows_then ∙ was.1 ∙ from.took,
          );
    }

    performs : (outputs : List Output) → Course setup run s outputs (Happened event) then_view balanced outputs
    performs outputs = record {
      segment = record {
        moves = Does decision ∷ [];
        state = then_state;
        by_rule = (s, refl, may, refl);
        leads = record {
          stands = one_more setup run s (Does decision) leads.stands may;
          so = so_then;
          heard = heard_then;
          keeps = keeps_then;
          marked = marked_then;
          in_effect = tt;
        };
        puts = refl;
      };
      own = [];
      begins = refl;
      are_own = tt;
    }

  -- ---- octets, or the end

  -- this is heard of it
  abbrev pub heard_view : Heard → View
  heard_view heard = record kept { upstreams = record kept.upstreams { live = heard_at setup.most_idle k heard kept.upstreams.live } }

  requests_heard : (event : Event) (heard : Heard) → upstream_of event ≡ k → idled event ≡ theory_requests.Move.Hears event heard → (told : Told) → AreServed told kept.upstreams.held
      → theory_requests.after setup told (upstreams.with_due kept.upstreams Nothing) (idled event) ≡ upstreams.with_due (record kept.upstreams { live = heard_at setup.most_idle k heard kept.upstreams.live }) Nothing
  requests_heard event heard of is told served =
      ap (theory_requests.after setup told (upstreams.with_due kept.upstreams Nothing)) is
      ∙ ap (λ (hs : List Held). record { held = hs; live = lines_heard setup.most_idle (upstream_of event) heard (lives kept.upstreams.live); due = Nothing; count = kept.upstreams.count }) (kept_served told kept.upstreams.held served)
      ∙ ap (λ n. record { held = kept.upstreams.held; live = lines_heard setup.most_idle n heard (lives kept.upstreams.live); due = Nothing; count = kept.upstreams.count }) of
      ∙ ap (λ (ls : List Line). record { held = kept.upstreams.held; live = ls; due = Nothing; count = kept.upstreams.count }) (sym (lives_heard setup.most_idle k heard kept.upstreams.live))

  -- They finish it: it is done with.
  pub finish : (event : Event) → upstream_of event ≡ k → MayBreakOff event → idled event ≡ theory_requests.Move.Hears event Finished → ((gates : Gates) (rooms : theory_receive_windows.State) → gates.is_up k ≡ true → may_come gates rooms event ≡ true)
      → (outputs : List Output) → Course setup run s outputs (Happened event) (heard_view Finished) balanced outputs
  finish event of may_break is comes =
      performs event of may_break comes (record kept.upstreams { live = heard_at setup.most_idle k Finished kept.upstreams.live }) (requests_heard event Finished of is)
      (λ later are. heard_of_marked setup later kept.upstreams.live k Done not_pending not_idle are) counted
    where
      not_pending : Done ≡ Pending → ⊥
      not_pending e = cc

      not_idle : Done ≡ Idle → (x : Connection) → find number_of k kept.upstreams.live ≡ Some x → octets_of x.answer ≡ 0
      not_idle e x there = absurd (cc)

      counted : (j : ℕ) (x : Connection) → find number_of j (heard_at setup.most_idle k Finished kept.upstreams.live) ≡ Some x → IsCounted kept.upstreams.live j x
      counted j x is =
          let from = found_from (marked_at k Done) (λ y. refl) kept.upstreams.live j x is in
          record { before = from.before; there = from.there; out = ap (λ (y : Connection). y.out) from.is; took = ap (λ (y : Connection). y.took) from.is }

  -- No octets change nothing.
  pub stay : (outputs : List Output) → Course setup run s outputs (Happened (Up k [])) kept balanced outputs
  stay outputs =
      performs (Up k []) refl tt comes kept.upstreams
      (λ told served. requests_heard (Up k []) Keepable refl refl told served ∙ ap (λ (cs : List Connection). upstreams.with_due (record kept.upstreams { live = cs }) Nothing) (idle_stays setup.most_idle k (suc s.requests.count) kept.upstreams.live c below few found is_idle))
      (λ later are. are) (λ j x is. record { before = x; there = is; out = refl; took = refl }) outputs
    where
      comes : (gates : Gates) (rooms : theory_receive_windows.State) → gates.is_up k ≡ true → may_come gates rooms (Up k []) ≡ true
      comes gates rooms up = ap (λ b. b && nat_le 0 (if b then 65536 else 0)) up

      below : AreBelow (suc s.requests.count) kept.upstreams.live
      below = falling_below (suc s.requests.count) kept.upstreams.live (subst (AreFalling (suc s.requests.count)) lives_are (numbers_fall setup run s leads.stands))

      few : idle_count kept.upstreams.live ≤ setup.most_idle
      few = subst (λ (ls : List Line). length (lines.idle_ones ls) ≤ setup.most_idle) lives_are (stands_here setup run s leads.stands leads.so).keeps.few

  -- ---- its failure

  abbrev pub gone_view : View
  gone_view = record kept { upstreams = record kept.upstreams { held = map (drop_from k) kept.upstreams.held; live = without number_of k kept.upstreams.live } }

  -- It is gone.
  pub gone : (outputs : List Output) → Course setup run s outputs (Happened (UpFailed k)) gone_view balanced outputs
  gone =
      performs (UpFailed k) refl tt (λ gates rooms up. up) (record kept.upstreams { held = map (drop_from k) kept.upstreams.held; live = without number_of k kept.upstreams.live })
      (λ told served.
      ap (λ (hs : List Held). record { held = hs; live = lines.lines_without k (lives kept.upstreams.live); due = Nothing; count = kept.upstreams.count }) (kept_served told (map (drop_from k) kept.upstreams.held) (served_dropped told k kept.upstreams.held served))
      ∙ ap (λ (ls : List Line). record { held = map (drop_from k) kept.upstreams.held; live = ls; due = Nothing; count = kept.upstreams.count }) (sym (lives_closed k kept.upstreams.live)))
      (λ later are. heard_of_fewer setup later kept.upstreams.live k are) (λ j x is. record { before = x; there = found_before k j kept.upstreams.live x is; out = refl; took = refl })
