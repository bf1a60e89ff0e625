-- The side of an open connection, idle or not, took octets: what waited for them goes back, of the stream that it was given to last and of those that had it
-- before. This performs.
use Rattle.std.proofs.Common.{◌≡◌, ℕ, ◌+◌, ◌≤◌, true, false, ◌==◌, nat_le, List, [], ◌∷◌, map, Option, Some, None, refl, sym, ◌∙◌, ap, subst, if◌then◌else◌, inl, inr, arith}
use Rattle.std.specs.Prelude.{option_map, is_some, IfSome}
use Rattle.std.proofs.lemmas.Bool.{le-leb, and_from, eq-eqb}
use Rattle.std.proofs.lemmas.Bool.Decides.{eqb_tells}
use Rattle.model.specs.Logs.{Output}
use Rattle.model.specs.Logs.Event.{UpTook}
use Rattle.model.specs.Setup.{Setup}
use Rattle.model.specs.Tapes.Entry.{Happened}
use Rattle.model.specs.Openings.{Opened, given}
use Rattle.theory_errors.specs.Book.{Book, Ledger, ledger_after}
use Rattle.connection_state.specs.Inbound.{book_of}
use Rattle.connection_state.proofs.SendingEvents.{heard_lead, happened_ledger}
use Rattle.theory_receive_windows.specs.Marks.{released}
use Rattle.theory_receive_windows.specs.Policy.{may_come}
use Rattle.theory_receive_windows.specs.State as theory_receive_windows
use Rattle.theory_receive_windows.specs.State.{is_live}
use Rattle.theory_requests.specs.State as theory_requests
use Rattle.theory_requests.specs.Lines.{Line, line_of, find}
use Rattle.theory_requests.proofs.Lists.{found_key, find_map}
use Rattle.upstream_connections.specs.Kept as upstreams
use Rattle.upstream_connections.specs.Connections.{Connection, number_of, lives, taken_at}
use Rattle.window_credit.specs.Sides.{Side, MayTake, queue_of, released_behind, taken_of_all}
use Rattle.window_credit.specs.Sides.{find as find_side}
use Rattle.window_credit.specs.Standing.{NoneReached, IsOf}
use Rattle.window_credit.proofs.Taking.{goes_back, own_back, may_take}
use Rattle.theory.specs.Moves.{Decision, Move, conduct_of}
use Rattle.theory.specs.Moves.Decision.{Notes}
use Rattle.theory.specs.Moves.Move.{Does}
use Rattle.theory.specs.State.{State, gates_in}
use Rattle.theory.specs.Rule.{rooms_in}
use Rattle.theory.specs.Steps.{told_by, told_behind, next, MayGoOn}
use Rattle.theory.proofs.Coming.{may_note}
use Rattle.theory.proofs.Stepping.{one_more}
use Rattle.refinement.specs.View.{View, Pending, balanced, newest_in, GoBack, Keeps, AreMarked, AreSo, Leads, IsCredited}
use Rattle.refinement.specs.Rest.{IsAtRest}
use Rattle.refinement.specs.Bringing.{Course}
use Rattle.refinement.proofs.Connected.{none_reached, newest_is, of_it}
use Rattle.refinement.proofs.Lives.{lives_same}
use Rattle.refinement.proofs.Marking.{rooms_next, marked_took}
use Rattle.refinement.proofs.Older.{own_stays}
use Rattle.refinement.proofs.Resting.{rests_are_ready}
use Rattle.refinement.proofs.Staying.{so_stays, heard_stays, heard_of_changed, rows_kept, found_live}
use Rattle.refinement.proofs.Where.{live_here}

module _ (setup : Setup) (kept : View) (rest : IsAtRest kept) (k count : ℕ) (c : Connection) (found : find number_of k kept.upstreams.live ≡ Some c) (within : c.took + count ≤ c.out) where
  -- the stream that it was given to last
  abbrev pub stream : ℕ
  stream = c.live.stream

  -- how many octets its side took by now
  abbrev pub now : ℕ
  now = c.took + count

  -- what goes back of that stream, and of those that had it before
  abbrev pub own_octets : ℕ
  own_octets = released now (queue_of stream kept.marks)

  abbrev pub older_octets : ℕ
  older_octets = released_behind k now kept.marks

  -- what is kept then, and what is to go back: on the connection all of it, on that stream its own
  abbrev pub taken_view : View
  taken_view = record kept { upstreams = record kept.upstreams { live = map (taken_at k count) kept.upstreams.live }; marks = taken_of_all stream k now kept.marks }

  abbrev pub back_behind : Pending
  back_behind = record balanced { shared = own_octets + older_octets; own = λ other. if stream == other then own_octets else 0 }

  module _ (run : List Move) (s : State) (leads : Leads setup run kept balanced s) where
    abbrev decision : Decision
    decision = Notes (UpTook k count)

    abbrev rooms : theory_receive_windows.State
    rooms = rooms_in (told_by s) s

    abbrev rooms_then : theory_receive_windows.State
    rooms_then = theory_receive_windows.with_taken rooms k count

    lives_are : s.requests.live ≡ lives kept.upstreams.live
    lives_are = ap (λ (r : theory_requests.State). r.live) leads.keeps.requests

    counts : (s.windows.out k ≡ c.out) × (s.windows.took k ≡ c.took)
    counts = leads.keeps.counted k c found

    now_is : s.windows.took k + count ≡ now
    now_is = ap (λ n. n + count) counts.1

    ledger : ledger_after setup s.ledger (conduct_of decision) ≡ record { book = record s.ledger.book { ends = false }; queue = [] }
    ledger = happened_ledger setup false s.ledger (UpTook k count) (record s.ledger.book { ends = false }) [] (heard_lead setup s.ledger.book (UpTook k count) (rows_kept setup run s leads.stands) refl)

    -- it is open, and no more is taken than was put out
    within_out : s.windows.took k + count ≤ s.windows.out k
    within_out = subst (λ n. n + count ≤ s.windows.out k) (sym counts.1) (subst (λ n. c.took + count ≤ n) (sym counts.0) within)

    admitted : may_come (gates_in (told_by s) s.requests) rooms (UpTook k count) ≡ true
    admitted =
        and_from (is_some (line_of k s.requests.live)) (nat_le (s.windows.took k + count) (s.windows.out k))
        (ap (λ (o : Option Line). is_some o) (ap (line_of k) lives_are ∙ found_live k kept.upstreams.live c found))
        (le-leb (s.windows.took k + count) (s.windows.out k) within_out)

    may : MayGoOn setup s (Does decision)
    may = (ap (λ (d : Ledger). d.book.ends) ledger, may_note setup (told_behind setup s decision) s (rests_are_ready setup run kept s leads rest) (UpTook k count) refl admitted)

    abbrev then_state : State
    then_state = next setup s (Does decision)

    so_then : AreSo setup (Does decision ∷ run)
    so_then = so_stays setup run decision tt leads.so

    -- ---- what waits, and what goes back

    ahead : NoneReached rooms
    ahead = none_reached setup run kept balanced s leads

    last : newest_in s k ≡ stream
    last = newest_is setup run kept balanced s leads k c found

    its : IsOf stream k kept.marks
    its = subst (λ n. IsOf n k kept.marks) last (of_it setup run kept balanced s leads k c found)

    -- So many may be taken of what is kept of the stream.
    pub marks_may : IfSome (find_side stream kept.marks) (MayTake now)
    marks_may = subst (λ n. IfSome (find_side stream kept.marks) (MayTake n)) now_is (may_take (newest_in s) kept.marks rooms leads.marked.stand ahead k count stream last its within_out)

    -- by what its side took by now
    own_same : released (s.windows.took k + count) (queue_of stream kept.marks) ≡ own_octets
    own_same = ap (λ n. released n (queue_of stream kept.marks)) now_is

    older_same : released_behind k (s.windows.took k + count) kept.marks ≡ older_octets
    older_same = ap (λ n. released_behind k n kept.marks) now_is

    shared_then : rooms_then.debt ≡ own_octets + older_octets
    shared_then =
        let all : rooms_then.debt ≡ s.windows.debt + released (s.windows.took k + count) (queue_of stream kept.marks) + released_behind k (s.windows.took k + count) kept.marks =
        goes_back (newest_in s) kept.marks rooms leads.marked.stand ahead k count stream last its in
        let none : s.windows.debt ≡ 0 = leads.keeps.credited.shared in
        let own = own_same in
        let older = older_same in
        omega (arith, all, none, own, older)

    live_of_book : (id : ℕ) → GoBack kept.inbound id → is_live rooms id ≡ true
    live_of_book id goes = live_here setup run s leads.stands leads.so id ∙ ap (λ (b : Book). Rattle.streams.specs.Asked.is_active b.rows id) leads.keeps.book ∙ goes.active

    own_then : GoBack kept.inbound stream → (rooms_then.row stream).debt ≡ own_octets
    own_then goes = by (find_side stream kept.marks) refl
      where
        none_before : (rooms.row stream).debt ≡ 0
        none_before = leads.keeps.credited.own stream goes

        by : (o : Option Side) → find_side stream kept.marks ≡ o → (rooms_then.row stream).debt ≡ own_octets
        by (Some side) there =
            let all : (rooms_then.row stream).debt ≡ (rooms.row stream).debt + released (s.windows.took k + count) (queue_of stream kept.marks) = own_back (newest_in s) kept.marks rooms leads.marked.stand ahead k count stream last its side there in
            let before : (rooms.row stream).debt ≡ 0 = none_before in
            let own = own_same in
            omega (arith, all, before, own)
        by None none =
            let zero : released (theory_receive_windows.add k count rooms.took (rooms.row stream).k) (rooms.row stream).queue ≡ 0 = ap (released (theory_receive_windows.add k count rooms.took (rooms.row stream).k)) (leads.marked.stand.rest stream (live_of_book stream goes) none) in
            let nothing : released now (queue_of stream kept.marks) ≡ 0 = ap (λ (o : Option Side). released now (Rattle.window_credit.specs.Sides.queue_if o)) none in
            let before : (rooms.row stream).debt ≡ 0 = none_before in
            omega (arith, zero, nothing, before)

    credited : IsCredited back_behind kept.inbound then_state.windows
    credited = record {
      fresh = leads.keeps.credited.fresh;
      shared = shared_then;
      own = λ id goes. elim (eqb_tells stream id) [
        | inl same ↦
            subst (λ n. (rooms_then.row n).debt ≡ (if stream == n then own_octets else 0)) same.1
            (own_then (subst (GoBack kept.inbound) (sym same.1) goes) ∙ sym (ap (λ b. if b then own_octets else 0) (eq-eqb stream stream refl)))
        | inr off ↦
            own_stays setup run kept balanced s leads k count id (λ is. off.1 (sym last ∙ is)) goes
            ∙ leads.keeps.credited.own id goes
            ∙ sym (ap (λ b. if b then own_octets else 0) off.0)
      ];
    }

    marked_then : AreMarked setup.passing (newest_in then_state) taken_view.marks (rooms_in (told_by then_state) then_state)
    marked_then =
        subst (λ (os : List Opened). AreMarked setup.passing (λ j. given j os) taken_view.marks (rooms_in (told_by then_state) then_state)) (sym (ap (λ (d : Ledger). d.book.given) ledger))
        (subst (AreMarked setup.passing (newest_in s) taken_view.marks) (sym (rooms_next setup run s leads.stands leads.so decision may so_then))
        (subst (λ n. AreMarked setup.passing (newest_in s) (taken_of_all stream k n kept.marks) rooms_then) now_is
        (marked_took setup.passing (newest_in s) kept.marks rooms leads.marked k count stream ahead last its)))

    -- ---- what is kept then

    requests_then : then_state.requests ≡ upstreams.with_due taken_view.upstreams theory_requests.Due.Nothing
    requests_then =
        leads.keeps.requests
        ∙ ap (λ (ls : List Line). record { held = kept.upstreams.held; live = ls; due = theory_requests.Due.Nothing; count = kept.upstreams.count }) (sym (lives_same (taken_at k count) (λ x. refl) kept.upstreams.live))

    counted_then : (j : ℕ) (x : Connection) → find number_of j taken_view.upstreams.live ≡ Some x → (then_state.windows.out j ≡ x.out) × (then_state.windows.took j ≡ x.took)
    counted_then j x is = by (find number_of j kept.upstreams.live) refl (sym (find_map number_of (taken_at k count) (λ y. refl) j kept.upstreams.live) ∙ is)
      where
        by : (o : Option Connection) → find number_of j kept.upstreams.live ≡ o → option_map (taken_at k count) o ≡ Some x → (then_state.windows.out j ≡ x.out) × (then_state.windows.took j ≡ x.took)
        by None there none = let clash : ◌≡◌ {A = Option Connection} None (Some x) = none in cc
        by (Some y) there some =
            let changed : taken_at k count y ≡ x = cc in
            let was = leads.keeps.counted j y there in
            let number : y.live.k ≡ j = found_key number_of j kept.upstreams.live y there in (
              was.0 ∙ ap (λ (z : Connection). z.out) changed,
              ap (λ n. if j == k then n + count else n) was.1 ∙ ap (λ n. if n == k then y.took + count else y.took) (sym number) ∙ ap (λ (z : Connection). z.took) changed,
            )

    keeps : Keeps taken_view back_behind then_state
    keeps = record {
      book =
          ap (λ (d : Ledger). d.book) ledger ∙ ap (λ (b : Book). record b { ends = false }) leads.keeps.book
          ∙ ap (λ (os : List Opened). book_of (record { given = os; untaken = kept.untaken }) kept.inbound) (sym (ap (λ (d : Ledger). d.book.given) ledger));
      owed = ap (λ (d : Ledger). d.queue) ledger;
      offers = leads.keeps.offers;
      requests = requests_then;
      decoding = leads.keeps.decoding;
      encoding = leads.keeps.encoding;
      read = leads.keeps.read;
      credited = credited;
      counted = counted_then;
    }

    -- It took so many octets.
    pub took_performs : (outputs : List Output) → Course setup run s outputs (Happened (UpTook k count)) taken_view back_behind outputs
    took_performs outputs = record {
      segment = record {
        moves = Does decision ∷ [];
        state = then_state;
        by_rule = (s, refl, may, refl);
        leads = record {
          stands = one_more setup run s (Does decision) leads.stands may;
          so = so_then;
          heard = heard_of_changed setup (Does decision ∷ run) kept.upstreams.live (taken_at k count) (λ x. refl) (λ x. refl) (heard_stays setup run s leads.stands leads.so kept.upstreams.live lives_are decision tt leads.heard);
          keeps = keeps;
          marked = marked_then;
          in_effect = tt;
        };
        puts = refl;
      };
      own = [];
      begins = refl;
      are_own = tt;
    }
