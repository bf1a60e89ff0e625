-- The client's side, or an upstream's, took octets of those that were put out for it.
use Rattle.std.proofs.Common.{◌≡◌, ℕ, ◌+◌, ◌-◌, ◌≤◌, true, false, nat_le, List, [], ◌∷◌, map, Option, Some, None, refl, sym, ◌∙◌, ap, subst, if◌then◌else◌}
use Rattle.std.specs.Prelude.{option_map, IfSome}
use Rattle.std.proofs.lemmas.Bool.{le-leb, eq-eqb}
use Rattle.model.specs.Logs.{Output}
use Rattle.model.specs.Logs.Event.{ClientTook, UpTook}
use Rattle.model.specs.Setup.{Setup}
use Rattle.model.specs.Tapes.Entry.{Happened}
use Rattle.model.specs.Openings.{Opened, given}
use Rattle.theory_errors.specs.Book.{Book, Ledger, ledger_after}
use Rattle.connection_state.specs.Inbound.{book_of}
use Rattle.connection_state.proofs.SendingEvents.{took_leads, happened_ledger}
use Rattle.theory_receive_windows.specs.Marks.{released}
use Rattle.theory_receive_windows.specs.Policy.{may_come}
use Rattle.theory_requests.specs.State as theory_requests
use Rattle.theory_requests.specs.Lines.{find}
use Rattle.theory_requests.proofs.Lists.{found_key, find_map}
use Rattle.upstream_connections.specs.Connections.{Connection, number_of, taken_at}
use Rattle.window_credit.specs.Sides.{MayTake, queue_of, released_behind, taken_of_all}
use Rattle.window_credit.specs.Sides.{find as find_side}
use Rattle.window_credit.specs.declared.marks.TakenOctets.{TakenOctets}
use Rattle.theory.specs.Moves.{Decision, Move, conduct_of}
use Rattle.theory.specs.Moves.Decision.{Notes}
use Rattle.theory.specs.Moves.Move.{Does}
use Rattle.theory.specs.State.{State, gates_in}
use Rattle.theory.specs.Rule.{rooms_in}
use Rattle.theory.specs.Steps.{told_by, told_behind, next, MayGoOn}
use Rattle.theory.proofs.Coming.{may_note}
use Rattle.theory.proofs.Stepping.{one_more}
use Rattle.refinement.specs.View.{View, balanced, Keeps, AreMarked, AreSo, Leads, newest_in}
use Rattle.refinement.specs.Rest.{IsAtRest, Reached}
use Rattle.refinement.specs.Bringing.{Course, Brings}
use Rattle.refinement.proofs.Marking.{rooms_next, marked_event}
use Rattle.refinement.proofs.Resting.{rests_are_ready}
use Rattle.refinement.proofs.Staying.{so_stays, heard_stays, rows_kept}
use Rattle.refinement.proofs.Took.{took_performs, marks_may}
use Rattle.event_handlers.specs.paying.Returning.{back_on}
use Rattle.event_handlers.specs.paying.Taking.{MayBeTaken, with_taken, took_if, took_then, own_released, older_released}

-- ---- the client's side

module _ (setup : Setup) (kept : View) (count : ℕ) (within : count ≤ kept.untaken) (rest : IsAtRest kept) (outputs : List Output) where
  -- what is kept then
  abbrev pub fewer_untaken : View
  fewer_untaken = record kept { untaken = kept.untaken - count }

  module _ (run : List Move) (s : State) (leads : Leads setup run kept balanced s) where
    abbrev decision : Decision
    decision = Notes (ClientTook count)

    ledger : ledger_after setup s.ledger (conduct_of decision) ≡ record { book = record s.ledger.book { ends = false; untaken = s.ledger.book.untaken - count }; queue = [] }
    ledger = happened_ledger setup false s.ledger (ClientTook count) (record s.ledger.book { ends = false; untaken = s.ledger.book.untaken - count }) [] (took_leads setup s.ledger.book count (rows_kept setup run s leads.stands))

    admitted : may_come (gates_in (told_by s) s.requests) (rooms_in (told_by s) s) (ClientTook count) ≡ true
    admitted = ap (λ (b : Book). nat_le count b.untaken) leads.keeps.book ∙ le-leb count kept.untaken within

    may : MayGoOn setup s (Does decision)
    may = (ap (λ (d : Ledger). d.book.ends) ledger, may_note setup (told_behind setup s decision) s (rests_are_ready setup run kept s leads rest) (ClientTook count) refl admitted)

    abbrev then_state : State
    then_state = next setup s (Does decision)

    book_kept : then_state.ledger.book ≡ book_of (record { given = then_state.ledger.book.given; untaken = fewer_untaken.untaken }) kept.inbound
    book_kept =
        ap (λ (d : Ledger). d.book) ledger
        ∙ ap (λ (b : Book). record b { ends = false; untaken = b.untaken - count }) leads.keeps.book
        ∙ ap (λ (os : List Opened). book_of (record { given = os; untaken = fewer_untaken.untaken }) kept.inbound) (sym (ap (λ (d : Ledger). d.book.given) ledger))

    keeps : Keeps fewer_untaken balanced then_state
    keeps = record {
      book = book_kept;
      owed = ap (λ (d : Ledger). d.queue) ledger;
      offers = leads.keeps.offers;
      requests = leads.keeps.requests;
      decoding = leads.keeps.decoding;
      encoding = leads.keeps.encoding;
      read = leads.keeps.read;
      credited = record { fresh = leads.keeps.credited.fresh; shared = leads.keeps.credited.shared; own = λ id goes. leads.keeps.credited.own id goes };
      counted = leads.keeps.counted;
    }

    so_then : AreSo setup (Does decision ∷ run)
    so_then = so_stays setup run decision tt leads.so

    marked : AreMarked setup.passing (newest_in then_state) kept.marks (rooms_in (told_by then_state) then_state)
    marked =
        subst (λ (os : List Opened). AreMarked setup.passing (λ j. given j os) kept.marks (rooms_in (told_by then_state) then_state)) (sym (ap (λ (d : Ledger). d.book.given) ledger))
        (subst (AreMarked setup.passing (newest_in s) kept.marks) (sym (rooms_next setup run s leads.stands leads.so decision may so_then))
        (marked_event setup.passing (newest_in s) kept.marks (rooms_in (told_by s) s) leads.marked))

    leads_on : Leads setup (Does decision ∷ run) fewer_untaken balanced then_state
    leads_on = record {
      stands = one_more setup run s (Does decision) leads.stands may;
      so = so_then;
      heard = heard_stays setup run s leads.stands leads.so kept.upstreams.live (ap (λ (r : theory_requests.State). r.live) leads.keeps.requests) decision tt leads.heard;
      keeps = keeps;
      marked = marked;
      in_effect = tt;
    }

  -- The client's side took so many octets.
  pub client_took : Brings setup kept balanced outputs (Happened (ClientTook count)) fewer_untaken balanced outputs
  client_took run s leads = record {
    segment = record { moves = Does (decision run s leads) ∷ []; state = then_state run s leads; by_rule = (s, refl, may run s leads, refl); leads = leads_on run s leads; puts = refl };
    own = [];
    begins = refl;
    are_own = tt;
  }

-- ---- an upstream's side

module _ (setup : Setup) (kept : View) (k count : ℕ) (may_take : MayBeTaken kept.upstreams.live k count) (rest : IsAtRest kept) (outputs : List Output) where
  -- the stream of the connection
  abbrev pub stream_of : ℕ
  stream_of = may_take.connection.live.stream

  -- what is kept and goes back where so many are taken by now
  abbrev taken_by : ℕ → View
  taken_by now = record kept { upstreams = record kept.upstreams { live = map (taken_at k count) kept.upstreams.live }; marks = taken_of_all stream_of k now kept.marks }

  abbrev back_by : ℕ → TakenOctets
  back_by now = record { own = released now (queue_of stream_of kept.marks); older = released_behind k now kept.marks }

  -- An upstream's side took so many octets.
  pub up_took : Brings setup kept balanced outputs (Happened (UpTook k count)) (with_taken k stream_of count kept) (back_on stream_of (record { own = own_released k stream_of count kept; older = older_released k count kept })) outputs
  up_took run s leads =
      subst (λ n. Course setup run s outputs (Happened (UpTook k count)) (taken_by n) (back_on stream_of (back_by n)) outputs) (sym (ap (λ n. n + count) (ap took_if may_take.found)))
      (took_performs setup kept rest k count may_take.connection may_take.found may_take.within run s leads outputs)

-- how many it took, where it takes so many more
pub took_after : (k count : ℕ) (live : List Connection) (c : Connection) → find number_of k live ≡ Some c → took_if (find number_of k (map (taken_at k count) live)) ≡ took_if (find number_of k live) + count
took_after k count live c found =
    ap took_if (find_map number_of (taken_at k count) (λ x. refl) k live)
    ∙ ap (λ (o : Option Connection). took_if (option_map (taken_at k count) o)) found
    ∙ ap (λ b. if b then c.took + count else c.took) (eq-eqb c.live.k k (found_key number_of k live c found))
    ∙ sym (ap (λ (o : Option Connection). took_if o + count) found)

-- ---- where the stream is named

-- it is the connection's
named : (o : Option Connection) (c : Connection) (stream : ℕ) → o ≡ Some c → IfSome o (λ x. stream ≡ x.live.stream) → stream ≡ c.live.stream
named None c stream found of = cc
named (Some x) c stream found of = of ∙ ap (λ (y : Connection). y.live.stream) (let same : x ≡ c = cc in same)

module _ (kept : View) (k stream count : ℕ) (may_take : MayBeTaken kept.upstreams.live k count) (of : IfSome (find number_of k kept.upstreams.live) (λ x. stream ≡ x.live.stream)) where
  its_name : stream ≡ may_take.connection.live.stream
  its_name = named (find number_of k kept.upstreams.live) may_take.connection stream may_take.found of

  -- Its side took so many octets.
  pub took_of_stream : (setup : Setup) → IsAtRest kept → (outputs : List Output)
      → Brings setup kept balanced outputs (Happened (UpTook k count)) (with_taken k stream count kept) (back_on stream (record { own = own_released k stream count kept; older = older_released k count kept })) outputs
  took_of_stream setup rest outputs =
      subst (λ n. Brings setup kept balanced outputs (Happened (UpTook k count)) (with_taken k n count kept) (back_on n (record { own = own_released k n count kept; older = older_released k count kept })) outputs) (sym its_name)
      (up_took setup kept k count may_take rest outputs)

  -- What is kept of the stream's marks may have so many taken by now.
  pub marks_have : (setup : Setup) → IsAtRest kept → Reached setup kept balanced → IfSome (find_side stream kept.marks) (MayTake (took_then k count kept))
  marks_have setup rest reached =
      subst (λ n. IfSome (find_side n kept.marks) (MayTake (took_then k count kept))) (sym its_name)
      (subst (λ n. IfSome (find_side may_take.connection.live.stream kept.marks) (MayTake n)) (sym (ap (λ n. n + count) (ap took_if may_take.found)))
      (marks_may setup kept rest k count may_take.connection may_take.found may_take.within reached.0 reached.1 reached.2))
