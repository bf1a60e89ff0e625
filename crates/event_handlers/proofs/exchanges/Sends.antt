-- Octets that are due on an open connection go out: this performs.
use Rattle.std.proofs.Common.{◌≡◌, ℕ, ◌+◌, ◌<◌, ◌^◌, false, ◌==◌, List, ◌∷◌, map, length, Option, Some, None, refl, sym, ◌∙◌, ap, subst, inl, if◌then◌else◌}
use Rattle.std.specs.Prelude.{is_some, IfSome}
use Rattle.std.specs.List.{list_any}
use Rattle.model.specs.Logs.{Output}
use Rattle.model.specs.Logs.Act.{ToUp}
use Rattle.model.specs.Logs.Output.{Does as Puts}
use Rattle.model.specs.Openings.{Opened, exchanges, given, route_of, last_stream, begins_another}
use Rattle.model.specs.Setup.{Setup}
use Rattle.model.specs.Tapes.{put}
use Rattle.theory_receive_windows.specs.State as theory_receive_windows
use Rattle.theory_requests.specs.State as theory_requests
use Rattle.theory_requests.specs.Lines.{Line, line_of, find}
use Rattle.theory_requests.specs.State.Due.{Nothing, ToSend}
use Rattle.theory_requests.specs.Rule.{is_done}
use Rattle.theory_requests.proofs.Lists.{found_key}
use Rattle.model.proofs.AloneLaws.{none_begins}
use Rattle.theory_requests.proofs.Standing as standing
use Rattle.theory_requests.proofs.Standing.{IsSending, IsDue}
use Rattle.model.proofs.AloneLaws.{same_exchanges}
use Rattle.upstream_connections.specs.Kept as upstreams
use Rattle.upstream_connections.specs.Connections.{Connection, number_of, lives, put_at, HasRoom}
use Rattle.window_credit.specs.Sides.{Side, change, putting}
use Rattle.window_credit.specs.Sides.{find as find_side}
use Rattle.window_credit.proofs.Rising.{change_none}
use Rattle.theory.specs.Moves.{Move, told_in, sent_or_used}
use Rattle.theory.specs.Moves.Decision.{Acts}
use Rattle.theory.specs.Moves.Move.{Does}
use Rattle.theory.specs.State.{State, tape_of}
use Rattle.theory.specs.Rule.{rooms_in}
use Rattle.theory.specs.Steps.{told_by, told_behind}
use Rattle.refinement.specs.View.{View, Pending, balanced, newest_in, AreMarked, Leads}
use Rattle.refinement.specs.Bringing.{OwnSegment, PerformsOwn}
use Rattle.refinement.proofs.Connected.{its_side, newest_is}
use Rattle.refinement.proofs.Lives.{lives_same, kept_open}
use Rattle.refinement.proofs.Marking.{marked_put, marked_put_beside}
use Rattle.refinement.proofs.Staying.{found_from, heard_stays, heard_of_changed}
use Rattle.event_handlers.specs.Closings.{told_but, NoneDoneBut}
use Rattle.event_handlers.proofs.exchanges.Acts as acts
use Rattle.refinement.proofs.Where.{own, right_here, stands_here}

module _ (setup : Setup) (kept : View) (fresh back k : ℕ) (text : List ℕ) where
  -- what is pending before and behind it
  abbrev pub due_before : Pending
  due_before = record balanced { due = ToSend k text; fresh = fresh; shared = back }

  abbrev pub due_behind : Pending
  due_behind = record balanced { fresh = fresh; shared = back }

  module _ (run : List Move) (s : State) (leads : Leads setup run kept due_before s) where
    due_is : s.requests.due ≡ ToSend k text
    due_is = ap (λ (r : theory_requests.State). r.due) leads.keeps.requests

    stand : standing.Stands (own setup run s leads.stands leads.so) (tape_of run) s.requests
    stand = stands_here setup run s leads.stands leads.so

    pub due_there : IsSending (tape_of run) s.requests.live k
    due_there = subst (IsDue (own setup run s leads.stands leads.so) (tape_of run) s.requests.live) due_is stand.due

    -- its connection is given to the stream of the last frame
    its : given k (exchanges (tape_of run)) ≡ last_stream (tape_of run)
    its = (stand.keeps.are_so k due_there.line due_there.found).stream ∙ due_there.stream

    its_book : given k s.ledger.book.given ≡ s.ledger.book.last
    its_book =
        let right = right_here setup run s leads.stands leads.so in
        ap (λ (os : List Opened). given k os) right.given ∙ its ∙ sym right.last

    -- and open
    pub open_there : (c : Connection) × (find number_of k kept.upstreams.live ≡ Some c) × (c.live ≡ due_there.line)
    open_there = kept_open k kept.upstreams.live due_there.line (sym (ap (λ (r : theory_requests.State). line_of k r.live) leads.keeps.requests) ∙ due_there.found)

    abbrev connection : Connection
    connection = open_there.0

    abbrev stream : ℕ
    stream = connection.live.stream

    -- what is kept then
    abbrev pub sent_view : View
    sent_view = record kept { upstreams = record kept.upstreams { live = map (put_at k (length text)) kept.upstreams.live }; marks = change stream (putting (length text)) kept.marks }

    -- what is kept of DATA that waits
    abbrev rooms : theory_receive_windows.State
    rooms = rooms_in (told_by s) s

    -- of the stream that the connection was given to last
    newest : newest_in s k ≡ stream
    newest = newest_is setup run kept due_before s leads k connection open_there.1

    marked_by : (o : Option Side) → find_side stream kept.marks ≡ o → AreMarked setup.passing (newest_in s) (change stream (putting (length text)) kept.marks) (theory_receive_windows.with_act rooms (ToUp k text))
    marked_by (Some side) found =
        let number : side.k ≡ k = (its_side setup run kept due_before s leads k connection open_there.1 side found).0 in
        marked_put setup.passing (newest_in s) kept.marks rooms leads.marked k stream text side found number (ap (newest_in s) number ∙ newest)
    marked_by None none =
        subst (λ (sides : List Side). AreMarked setup.passing (newest_in s) sides (theory_receive_windows.with_act rooms (ToUp k text))) (sym (change_none stream (putting (length text)) kept.marks none))
        (marked_put_beside setup.passing (newest_in s) kept.marks rooms leads.marked k text
        (λ side there. absurd (let no : ◌≡◌ {A = Option Side} None (Some side) = sym none ∙ ap (λ n. find_side n kept.marks) (sym newest) ∙ there in let clash : ◌≡◌ {A = Option Side} None (Some side) = no in cc)))

    -- its side counts what its connection does
    pub side_room : (count : ℕ) → HasRoom count (find number_of k kept.upstreams.live) → IfSome (find_side stream kept.marks) (λ side. side.out + count < 2 ^ 64)
    side_room count room = by (find_side stream kept.marks) refl
      where
        by : (o : Option Side) → find_side stream kept.marks ≡ o → IfSome o (λ side. side.out + count < 2 ^ 64)
        by None none = tt
        by (Some side) found = subst (λ n. n + count < 2 ^ 64) (sym (its_side setup run kept due_before s leads k connection open_there.1 side found).2) (subst (HasRoom count) open_there.1 room)

    -- how much was put out for each connection, and how much of it was taken
    counted_then : (j : ℕ) (c : Connection) → find number_of j sent_view.upstreams.live ≡ Some c → ((theory_receive_windows.with_act rooms (ToUp k text)).out j ≡ c.out) × (s.windows.took j ≡ c.took)
    counted_then j c found =
        let from = found_from (put_at k (length text)) (λ x. refl) kept.upstreams.live j c found in
        let was = leads.keeps.counted j from.before from.there in (
          ap (λ n. if n == k then s.windows.out j + length text else s.windows.out j) (sym (found_key number_of j kept.upstreams.live from.before from.there))
              ∙ ap (λ n. if from.before.live.k == k then n + length text else n) was.0
              ∙ ap (λ (y : Connection). y.out) from.is,
          was.1 ∙ ap (λ (y : Connection). y.took) from.is,
        )

    none_begun : begins_another (given k s.ledger.book.given) s.ledger.book.last text ≡ false
    none_begun = none_begins (given k s.ledger.book.given) s.ledger.book.last text its_book

    done : acts.IsDone setup kept due_before run s leads (ToUp k text) s.ledger.book.given sent_view.upstreams Nothing sent_view.marks (theory_receive_windows.with_act rooms (ToUp k text))
    done = record {
      goes_on = tt;
      may = inl (record { nothing = leads.keeps.owed; due = due_is; window = record { opened = ap (λ (o : Option Line). is_some o) due_there.found; its = its_book; in_effect = λ streaming. leads.in_effect } });
      given_is = ap (λ b. if b then record { k = k; route = route_of k s.ledger.book.given; stream = s.ledger.book.last } ∷ s.ledger.book.given else s.ledger.book.given) none_begun;
      requests =
          ap (λ (r : theory_requests.State). theory_requests.after setup (told_in (told_behind setup s (Acts (ToUp k text)))) r (theory_requests.Move.Acts (ToUp k text))) leads.keeps.requests
          ∙ ap (λ (ls : List Line). record { held = kept.upstreams.held; live = ls; due = Nothing; count = kept.upstreams.count }) (sym (lives_same (put_at k (length text)) (λ c. refl) kept.upstreams.live));
      rooms_are = ap (λ b. theory_receive_windows.after setup.passing rooms (sent_or_used b k text)) none_begun;
      debts = record { fresh = refl; shared = refl; own = λ id. refl };
      counted = counted_then;
      heard = heard_of_changed setup (Does (Acts (ToUp k text)) ∷ run) kept.upstreams.live (put_at k (length text)) (λ c. refl) (λ c. refl)
          (heard_stays setup run s leads.stands leads.so kept.upstreams.live (ap (λ (r : theory_requests.State). r.live) leads.keeps.requests) (Acts (ToUp k text)) (same_exchanges (tape_of run) k text its) leads.heard);
      marked = marked_by (find_side stream kept.marks) refl;
      in_effect = tt;
    }

    -- Octets that are due go out.
    pub sent_performs : (outputs : List Output) → OwnSegment setup run s outputs sent_view due_behind (put outputs (Puts (ToUp k text)))
    sent_performs = acts.acted setup kept due_before run s leads (ToUp k text) s.ledger.book.given sent_view.upstreams Nothing sent_view.marks (theory_receive_windows.with_act rooms (ToUp k text)) done

-- ---- in the words of the calls

-- the stream of an open connection
pub stream_is : (o : Option Connection) (stream : ℕ) (c : Connection) → IfSome o (λ x. stream ≡ x.live.stream) → o ≡ Some c → stream ≡ c.live.stream
stream_is o stream c of is = subst (λ (x : Option Connection). IfSome x (λ y. stream ≡ y.live.stream)) is of

module _ (kept : View) (k stream count : ℕ) (text : List ℕ) (behind : upstreams.State) (sides : List Side) (before after : List Output)
    (of : IfSome (find number_of k kept.upstreams.live) (λ c. stream ≡ c.live.stream)) (is_count : count ≡ length text)
    (put_is : behind ≡ record kept.upstreams { live = map (put_at k count) kept.upstreams.live }) (sides_are : sides ≡ change stream (putting count) kept.marks) (puts_out : after ≡ put before (Puts (ToUp k text))) where
  -- The calls perform.
  pub calls_send : (setup : Setup) (fresh back : ℕ)
      → PerformsOwn setup kept (record balanced { due = ToSend k text; fresh = fresh; shared = back }) before (record kept { upstreams = behind; marks = sides }) (record balanced { fresh = fresh; shared = back }) after
  calls_send setup fresh back run s leads =
      let there = open_there setup kept fresh back k text run s leads in
      let own : stream ≡ there.0.live.stream = stream_is (find number_of k kept.upstreams.live) stream there.0 of there.1 in
      subst (λ (u : upstreams.State). OwnSegment setup run s before (record kept { upstreams = u; marks = sides }) (record balanced { fresh = fresh; shared = back }) after)
      (ap (λ n. let u : upstreams.State = record kept.upstreams { live = map (put_at k n) kept.upstreams.live } in u) (sym is_count) ∙ sym put_is)
      (subst (λ (ms : List Side). OwnSegment setup run s before (record kept { upstreams = record kept.upstreams { live = map (put_at k (length text)) kept.upstreams.live }; marks = ms }) (record balanced { fresh = fresh; shared = back }) after)
      (ap (λ n. change n (putting (length text)) kept.marks) (sym own) ∙ ap (λ n. change stream (putting n) kept.marks) (sym is_count) ∙ sym sides_are)
      (subst (λ (o : List Output). OwnSegment setup run s before (sent_view setup kept fresh back k text run s leads) (record balanced { fresh = fresh; shared = back }) o) (sym puts_out)
      (sent_performs setup kept fresh back k text run s leads before)))

  -- No connection is done with that wasn't before.
  pub sends_but : (id : ℕ) → NoneDoneBut id kept → NoneDoneBut id (record kept { upstreams = behind; marks = sides })
  sends_but id none = ap (λ (ls : List Line). list_any (is_done (told_but id kept)) ls) (ap (λ (u : upstreams.State). lives u.live) put_is ∙ lives_same (put_at k count) (λ c. refl) kept.upstreams.live) ∙ none
