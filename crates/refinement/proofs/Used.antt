-- An idle connection is given to the stream of the last frame, and its text goes out there: this performs.
use Rattle.std.proofs.Common.{◌≡◌, ℕ, ◌+◌, ◌<◌, Bool, true, false, ◌==◌, if◌then◌else◌, List, [], ◌∷◌, ◌++◌, map, length, Option, Some, None, refl, sym, ◌∙◌, ap, subst, inr, arith}
use Rattle.std.specs.Prelude.{is_none, option_map, ◌&&◌}
use Rattle.model.specs.Logs.{Output}
use Rattle.model.specs.Logs.Act.{ToUp}
use Rattle.model.specs.Logs.Output.{Does as Puts}
use Rattle.model.specs.Setup.{Setup, Passing as Way}
use Rattle.model.specs.Setup.Passing.{Whole as WholePassing, Streaming}
use Rattle.model.specs.Tapes.{Entry, put}
use Rattle.model.specs.Tapes.Entry.{Did}
use Rattle.model.specs.Openings.{Opened, exchanges, given, route_of}
use Rattle.model.specs.Causes.{Cause}
use Rattle.model.specs.Known.{Known}
use Rattle.model.specs.Courses.{items}
use Rattle.model.specs.Offers.{is_to_head}
use Rattle.model.proofs.ItemLaws.{head_stays}
use Rattle.theory_errors.specs.Rule.{AreKnown}
use Rattle.theory_errors.specs.Book.{Book, Ledger, ledger_after, summary_in}
use Rattle.theory_responses.specs.Rule.{BeginsNext}
use Rattle.theory_responses.specs.Sight.{IsRightOf, sight_in}
use Rattle.theory_receive_windows.specs.State as theory_receive_windows
use Rattle.h1_reader.specs.Standing.{Stands as Reads}
use Rattle.h1_writer.specs.Sending.{Stage}
use Rattle.upstream_response.specs.declared.answer.ResponsePassing.{ResponsePassing}
use Rattle.window_credit.specs.Sides.{Side, change, passing as passed}
use Rattle.window_credit.specs.Sides.{find as find_side, opened as opened_side}
use Rattle.window_credit.specs.Standing.{newest_with}
use Rattle.theory_requests.specs.State as theory_requests
use Rattle.theory_requests.specs.Lines.{Line, line_of, find}
use Rattle.theory_requests.specs.State.{Held, held_with, unless_whole}
use Rattle.theory_requests.specs.State.Way.{Going}
use Rattle.theory_requests.specs.State.Due.{Nothing, ToUse}
use Rattle.theory_requests.specs.Rule as requests
use Rattle.theory_requests.specs.Connections.{IsUsedFor}
use Rattle.theory_requests.proofs.Lists.{found_key, find_map}
use Rattle.theory_requests.proofs.Standing as standing
use Rattle.theory_requests.proofs.Standing.{IsDue, IsStarting}
use Rattle.connection_state.specs.Inbound.{book_of}
use Rattle.connection_state.proofs.SendingEvents.{puts_lead, did_ledger}
use Rattle.upstream_connections.specs.Kept as upstreams
use Rattle.upstream_connections.specs.Connections.{Connection, number_of, lives, fresh, given_at, put_at}
use Rattle.theory.specs.Moves.{Decision, Move, conduct_of, told_in, sent_or_used}
use Rattle.theory.specs.Moves.Decision.{Acts}
use Rattle.theory.specs.Moves.Move.{Does}
use Rattle.theory.specs.State.{State, conducts, tape_of}
use Rattle.theory.specs.Rule.{rooms_in}
use Rattle.theory.specs.Steps.{told_by, told_behind, next, MayGoOn}
use Rattle.theory.proofs.Going.{may_act}
use Rattle.theory.proofs.Stepping.{one_more}
use Rattle.refinement.specs.View.{View, Pending, balanced, newest_in, Keeps, AreMarked, AreSo, AreHeard, Leads}
use Rattle.refinement.specs.Hearing.{IsSetUp, IsHeard}
use Rattle.refinement.specs.Rest.{told_view}
use Rattle.refinement.specs.Bringing.{OwnSegment}
use Rattle.refinement.proofs.Connected.{of_it, newest_is}
use Rattle.refinement.proofs.Giving.{used, begins, begins_here, exchange_then, nothing_heard, may_give, heard_fresh}
use Rattle.refinement.proofs.Lives.{lives_given, lives_same, kept_open}
use Rattle.refinement.proofs.Marking.{rooms_next, marked_used, marked_used_beside}
use Rattle.refinement.proofs.Sound as sound
use Rattle.refinement.proofs.Staying.{so_stays, heard_given, heard_of_changed, rows_kept}
use Rattle.refinement.proofs.Where.{own, led_to, right_here, stands_here, live_here}

-- of windows nothing but a row's connection changes
debt_same : (b : Bool) (k : ℕ) (r : theory_receive_windows.Row) → (if b then theory_receive_windows.given k r else r).debt ≡ r.debt
debt_same true k r = refl
debt_same false k r = refl

module _ (setup : Setup) (kept : View) (fresh_octets back k stream : ℕ) (text : List ℕ) (stage : Stage) where
  -- what is pending before and behind it
  abbrev pub due_before : Pending
  due_before = record balanced { due = ToUse k stream text stage; fresh = fresh_octets; shared = back }

  abbrev pub due_behind : Pending
  due_behind = record balanced { fresh = fresh_octets; shared = back }

  module _ (run : List Move) (s : State) (leads : Leads setup run kept due_before s) where
    abbrev t : List Entry
    t = tape_of run

    abbrev decision : Decision
    decision = Acts (ToUp k text)

    abbrev then_tape : List Entry
    then_tape = Did (ToUp k text) ∷ t

    due_is : s.requests.due ≡ ToUse k stream text stage
    due_is = ap (λ (r : theory_requests.State). r.due) leads.keeps.requests

    may_use : requests.MayUse s.requests k text
    may_use = record { stream = stream; stage = stage; due = due_is }

    lives_are : s.requests.live ≡ lives kept.upstreams.live
    lives_are = ap (λ (r : theory_requests.State). r.live) leads.keeps.requests

    stand : standing.Stands (own setup run s leads.stands leads.so) t s.requests
    stand = stands_here setup run s leads.stands leads.so

    right : IsRightOf (own setup run s leads.stands leads.so) t (sight_in (told_by s))
    right = right_here setup run s leads.stands leads.so

    -- what is due can be done, whatever is known
    pub due_for : (known : Known) → known.setup ≡ setup → AreKnown known (conducts run) → (route : ℕ) × IsStarting known t s.requests.live stream route text stage (Some k)
    due_for known same knows = subst (IsDue known t s.requests.live) due_is (sound.stands known run s (led_to known setup run s same knows leads.stands leads.so)).due

    due : (route : ℕ) × IsStarting (own setup run s leads.stands leads.so) t s.requests.live stream route text stage (Some k)
    due = subst (IsDue (own setup run s leads.stands leads.so) t s.requests.live) due_is stand.due

    its_use : IsUsedFor (own setup run s leads.stands leads.so) t k text
    its_use = used setup run s leads.stands leads.so k text may_use

    its_next : BeginsNext (sight_in (told_by s)) k
    its_next = begins setup run s leads.stands leads.so k text may_use

    last_is : (told_by s).last ≡ stream
    last_is = right.last ∙ due.1.last

    -- the connection is open
    pub open_there : (c : Connection) × (find number_of k kept.upstreams.live ≡ Some c) × (line_of k s.requests.live ≡ Some c.live)
    open_there =
        let l = stand.keeps.all k its_use.again.idle.is_open in
        let c = kept_open k kept.upstreams.live l.0 (sym (ap (line_of k) lives_are) ∙ l.1) in
        (c.0, c.1, l.1 ∙ ap (λ (x : Line). Some x) (sym c.2))

    abbrev pub connection : Connection
    connection = open_there.0

    -- and its stream is served
    pub stream_served : (told_view kept).served stream ≡ true
    stream_served =
        ap (λ (b : Book). (told_in (summary_in b)).served stream) (sym leads.keeps.book)
        ∙ ap (λ b. b && is_none ((sight_in (told_by s)).cause stream)) (right.active stream ∙ due.1.in_time.active)
        ∙ ap (λ (o : Option Cause). is_none o) (right.cause stream due.1.in_time.active ∙ due.1.in_time.no_cause)

    -- ---- the move

    abbrev given_then : List Opened
    given_then = record { k = k; route = route_of k s.ledger.book.given; stream = s.ledger.book.last } ∷ s.ledger.book.given

    abbrev book_then : Book
    book_then = record s.ledger.book { given = given_then }

    ledger : ledger_after setup s.ledger (conduct_of decision) ≡ record { book = book_then; queue = s.ledger.queue }
    ledger =
        did_ledger setup false s.ledger (ToUp k text) _ [] (puts_lead setup s.ledger.book k text (rows_kept setup run s leads.stands))
        ∙ ap (λ (os : List Opened). record { book = record s.ledger.book { given = os }; queue = s.ledger.queue })
        (ap (λ b. if b then given_then else s.ledger.book.given) (begins_here setup run s leads.stands leads.so k text may_use))

    may : MayGoOn setup s (Does decision)
    may = (
      ap (λ (d : Ledger). d.book.ends) ledger ∙ leads.stands.goes_on,
      may_act setup (told_behind setup s decision) s (ToUp k text) (ap (λ (b : Book). b.closed) leads.keeps.book)
          (inr (may_give setup run s leads.stands leads.so k text may_use leads.keeps.owed (λ streaming. leads.in_effect))),
    )

    abbrev then_state : State
    then_state = next setup s (Does decision)

    so_then : AreSo setup (Does decision ∷ run)
    so_then = so_stays setup run decision tt leads.so

    -- ---- octets that wait

    abbrev rooms : theory_receive_windows.State
    rooms = rooms_in (told_by s) s

    rooms_then : rooms_in (told_by then_state) then_state ≡ theory_receive_windows.with_use rooms k text
    rooms_then =
        rooms_next setup run s leads.stands leads.so decision may so_then
        ∙ ap (λ b. theory_receive_windows.after setup.passing rooms (sent_or_used b k text)) (begins_here setup run s leads.stands leads.so k text may_use)

    windows_then : then_state.windows ≡ theory_receive_windows.kept_of (theory_receive_windows.with_use rooms k text)
    windows_then = ap (λ b. theory_receive_windows.kept_of (theory_receive_windows.after setup.passing rooms (sent_or_used b k text))) (begins_here setup run s leads.stands leads.so k text may_use)

    counts : (s.windows.out k ≡ connection.out) × (s.windows.took k ≡ connection.took)
    counts = leads.keeps.counted k connection open_there.1

    none_kept : find_side rooms.stream kept.marks ≡ None
    none_kept = by (find_side rooms.stream kept.marks) refl
      where
        by : (o : Option Side) → find_side rooms.stream kept.marks ≡ o → o ≡ None
        by None found = refl
        by (Some side) found =
            let some : 0 < side.k = leads.marked.some rooms.stream side found in
            let none : side.k ≡ 0 = sym (leads.marked.stand.rows rooms.stream side found).k ∙ (may_give setup run s leads.stands leads.so k text may_use leads.keeps.owed (λ streaming. leads.in_effect)).window.first in
            absurd (omega (arith, some, none))

    -- nothing is kept of its stream yet
    pub none_marked : find_side stream kept.marks ≡ None
    none_marked = ap (λ n. find_side n kept.marks) (sym last_is) ∙ none_kept

    module _ (sides : List Side) (beside : setup.passing ≡ WholePassing → sides ≡ kept.marks) (over : setup.passing ≡ Streaming → sides ≡ change connection.live.stream passed kept.marks ++ opened_side stream k (connection.out + length text) connection.took ∷ []) where
      marked_by : (p : Way) → setup.passing ≡ p → AreMarked setup.passing (newest_with k rooms.stream (newest_in s)) sides (theory_receive_windows.with_use rooms k text)
      marked_by WholePassing is =
          subst (λ (ms : List Side). AreMarked setup.passing (newest_with k rooms.stream (newest_in s)) ms (theory_receive_windows.with_use rooms k text)) (sym (beside is))
          (marked_used_beside setup.passing (newest_in s) kept.marks rooms leads.marked k text is)
      marked_by Streaming is =
          subst (λ (ms : List Side). AreMarked setup.passing (newest_with k rooms.stream (newest_in s)) ms (theory_receive_windows.with_use rooms k text))
          (ap (λ n. change n passed kept.marks ++ opened_side rooms.stream k (rooms.out k + length text) (rooms.took k) ∷ []) (newest_is setup run kept due_before s leads k connection open_there.1)
          ∙ ap (λ n. change connection.live.stream passed kept.marks ++ opened_side n k (rooms.out k + length text) (rooms.took k) ∷ []) last_is
          ∙ ap (λ n. change connection.live.stream passed kept.marks ++ opened_side stream k (n + length text) (rooms.took k) ∷ []) counts.0
          ∙ ap (λ n. change connection.live.stream passed kept.marks ++ opened_side stream k (connection.out + length text) n ∷ []) counts.1
          ∙ sym (over is))
          (marked_used setup.passing (newest_in s) kept.marks rooms leads.marked k text its_next.counted is (live_here setup run s leads.stands leads.so (told_by s).last ∙ its_next.active) none_kept
          (of_it setup run kept due_before s leads k connection open_there.1))

      marked_then : AreMarked setup.passing (newest_in then_state) sides (rooms_in (told_by then_state) then_state)
      marked_then =
          subst (λ (os : List Opened). AreMarked setup.passing (λ j. given j os) sides (rooms_in (told_by then_state) then_state)) (sym (ap (λ (d : Ledger). d.book.given) ledger))
          (subst (AreMarked setup.passing (newest_with k rooms.stream (newest_in s)) sides) (sym rooms_then) (marked_by setup.passing refl))

      -- ---- what is kept then

      module _ (to_head : Bool) (way : ResponsePassing) (reads : Reads [] [] (fresh to_head way).reader) (set_up : (known : Known) → known.setup ≡ setup → IsSetUp known (fresh to_head way))
          (asks : (known : Known) → known.setup ≡ setup → AreKnown known (conducts run) → to_head ≡ is_to_head (items known stream t)) where
        abbrev pub held_then : List Held
        held_then = held_with stream (unless_whole stage (Going k stage)) kept.upstreams.held

        abbrev pub live_then : List Connection
        live_then = map (put_at k (length text)) (map (given_at k stream (fresh to_head way)) kept.upstreams.live)

        abbrev pub used_view : View
        used_view = record kept { upstreams = record { held = held_then; live = live_then; count = kept.upstreams.count }; marks = sides }

        requests_then : then_state.requests ≡ upstreams.with_due used_view.upstreams Nothing
        requests_then =
            ap (λ (r : theory_requests.State). theory_requests.after setup (told_in (told_behind setup s decision)) r (theory_requests.Move.Acts (ToUp k text))) leads.keeps.requests
            ∙ ap (λ (ls : List Line). record { held = held_then; live = ls; due = Nothing; count = kept.upstreams.count })
            (sym (lives_same (put_at k (length text)) (λ c. refl) (map (given_at k stream (fresh to_head way)) kept.upstreams.live) ∙ lives_given k stream (fresh to_head way) kept.upstreams.live))

        -- of the new exchange nothing was heard
        heard_new : (known : Known) → known.setup ≡ setup → AreKnown known (conducts run) → IsHeard known then_tape k (fresh to_head way)
        heard_new known same knows =
            let it = due_for known same knows in
            let some : items known stream t ≡ [] → ⊥ = standing.some_items (items known stream t) it.1.head it.1.has_head in
            let its_stream : given k (exchanges then_tape) ≡ stream = ap (λ (o : Opened). o.stream) (exchange_then setup run s leads.stands leads.so k text may_use) ∙ it.1.last in
            heard_fresh known then_tape k to_head way reads (nothing_heard setup run s leads.stands leads.so k text may_use)
            (asks known same knows ∙ head_stays known stream t (Did (ToUp k text)) some ∙ ap (λ n. is_to_head (items known n then_tape)) (sym its_stream))
            (set_up known same)

        heard_then : AreHeard setup (Does decision ∷ run) live_then
        heard_then =
            heard_of_changed setup (Does decision ∷ run) (map (given_at k stream (fresh to_head way)) kept.upstreams.live) (put_at k (length text)) (λ c. refl) (λ c. refl)
            (heard_given setup run s leads.stands leads.so kept.upstreams.live lives_are k stream text (fresh to_head way) heard_new leads.heard)

        -- how much was put out for each connection, and how much of it was taken
        counted_one : (j : ℕ) (x : Connection) → find number_of j kept.upstreams.live ≡ Some x
            → ((theory_receive_windows.with_use rooms k text).out j ≡ (put_at k (length text) (given_at k stream (fresh to_head way) x)).out) × ((theory_receive_windows.with_use rooms k text).took j ≡ (put_at k (length text) (given_at k stream (fresh to_head way) x)).took)
        counted_one j x is =
            let was = leads.keeps.counted j x is in (
              ap (λ n. if n == k then s.windows.out j + length text else s.windows.out j) (sym (found_key number_of j kept.upstreams.live x is))
                  ∙ ap (λ n. if x.live.k == k then n + length text else n) was.0,
              was.1,
            )

        counted_then : (j : ℕ) (c : Connection) → find number_of j live_then ≡ Some c → (then_state.windows.out j ≡ c.out) × (then_state.windows.took j ≡ c.took)
        counted_then j c found =
            by (find number_of j kept.upstreams.live) refl
            (sym (find_map number_of (put_at k (length text)) (λ x. refl) j (map (given_at k stream (fresh to_head way)) kept.upstreams.live)
            ∙ ap (option_map (put_at k (length text))) (find_map number_of (given_at k stream (fresh to_head way)) (λ x. refl) j kept.upstreams.live)) ∙ found)
          where
            by : (o : Option Connection) → find number_of j kept.upstreams.live ≡ o → option_map (put_at k (length text)) (option_map (given_at k stream (fresh to_head way)) o) ≡ Some c → (then_state.windows.out j ≡ c.out) × (then_state.windows.took j ≡ c.took)
            by None is none = let clash : ◌≡◌ {A = Option Connection} None (Some c) = none in cc
            by (Some x) is some =
                let this : put_at k (length text) (given_at k stream (fresh to_head way) x) ≡ c = cc in
                let one = counted_one j x is in (
                  ap (λ (w : theory_receive_windows.Kept). w.out j) windows_then ∙ one.0 ∙ ap (λ (y : Connection). y.out) this,
                  ap (λ (w : theory_receive_windows.Kept). w.took j) windows_then ∙ one.1 ∙ ap (λ (y : Connection). y.took) this,
                )

        keeps : Keeps used_view due_behind then_state
        keeps = record {
          book =
              ap (λ (d : Ledger). d.book) ledger ∙ ap (λ (b : Book). record b { given = given_then }) leads.keeps.book
              ∙ ap (λ (os : List Opened). book_of (record { given = os; untaken = kept.untaken }) kept.inbound) (sym (ap (λ (d : Ledger). d.book.given) ledger));
          owed = ap (λ (d : Ledger). d.queue) ledger ∙ leads.keeps.owed;
          offers = leads.keeps.offers;
          requests = requests_then;
          decoding = leads.keeps.decoding;
          encoding = leads.keeps.encoding;
          read = leads.keeps.read;
          credited = record {
            fresh = ap (λ (w : theory_receive_windows.Kept). w.count) windows_then ∙ leads.keeps.credited.fresh;
            shared = ap (λ (w : theory_receive_windows.Kept). w.debt) windows_then ∙ leads.keeps.credited.shared;
            own = λ id goes. ap (λ (w : theory_receive_windows.Kept). (w.row id).debt) windows_then ∙ debt_same (rooms.stream == id) k (rooms.row id) ∙ leads.keeps.credited.own id goes;
          };
          counted = counted_then;
        }

        -- It is given to it, and its text goes out.
        pub used_performs : (outputs : List Output) → OwnSegment setup run s outputs used_view due_behind (put outputs (Puts (ToUp k text)))
        used_performs outputs = record {
          segment = record {
            moves = Does decision ∷ [];
            state = then_state;
            by_rule = (s, refl, may, refl);
            leads = record {
              stands = one_more setup run s (Does decision) leads.stands may;
              so = so_then;
              heard = heard_then;
              keeps = keeps;
              marked = marked_then;
              in_effect = tt;
            };
            puts = refl;
          };
          are_own = tt;
        }
