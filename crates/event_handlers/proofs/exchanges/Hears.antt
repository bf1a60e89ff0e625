-- An upstream's answer goes on, or is whole: what comes of it is on offer. This performs.
use Rattle.std.proofs.Common.{◌≡◌, ℕ, Bool, true, false, ◌==◌, nat_lt, List, [], ◌∷◌, map, Some, refl, sym, ◌∙◌, ap, subst, inl, inr, if◌then◌else◌}
use Rattle.std.proofs.lemmas.Bool.Decides.{eqb_tells}
use Rattle.model.specs.Logs.{Event, Output}
use Rattle.model.specs.Setup.{Setup}
use Rattle.model.specs.Tapes.Entry.{Happened}
use Rattle.model.specs.Openings.{Opened, given}
use Rattle.model.specs.Known.{Known}
use Rattle.model.specs.Courses.{course, upstream_of}
use Rattle.model.specs.Deliveries.{Delivery}
use Rattle.theory_errors.specs.Rule.{AreKnown}
use Rattle.theory_errors.specs.Book.{Book, Ledger, ledger_after, summary_in}
use Rattle.theory_responses.specs.Outbox.{Outbox, grown}
use Rattle.theory_responses.specs.State as theory_responses
use Rattle.theory_responses.specs.State.{Kept}
use Rattle.theory_receive_windows.specs.Policy.{Gates, may_come}
use Rattle.theory_receive_windows.specs.State as theory_receive_windows
use Rattle.theory_requests.specs.Told.{Told}
use Rattle.theory_requests.specs.State as theory_requests
use Rattle.theory_requests.specs.Lines.{Heard, Line, find, lines_heard, answer_by, idle_beside}
use Rattle.theory_requests.specs.Lines as lines
use Rattle.theory_requests.specs.Lines.Answer.{Pending, Idle}
use Rattle.theory_requests.specs.Lines.Heard.{Partly, Keepable, Finished}
use Rattle.theory_requests.specs.State.{Held}
use Rattle.theory_requests.specs.State.Due.{Nothing}
use Rattle.theory_requests.specs.Rule.{IsAnswer}
use Rattle.theory_requests.proofs.Lists.{found_key}
use Rattle.connection_state.specs.Inbound.{book_of}
use Rattle.connection_state.specs.Sending.{is_of_upstream}
use Rattle.connection_state.proofs.SendingEvents.{heard_lead, happened_ledger}
use Rattle.upstream_response.specs.Waiting.{Answer}
use Rattle.upstream_response.specs.HeldInside.{octets_of}
use Rattle.send_queue.specs.Changes.{with_box, refilled}
use Rattle.upstream_connections.specs.Kept as upstreams
use Rattle.upstream_connections.specs.Connections.{Connection, number_of, lives, answer_at, marked_at, heard_at}
use Rattle.theory.specs.Moves.{Decision, Move, conduct_of, told_in}
use Rattle.theory.specs.Moves.Decision.{Hears}
use Rattle.theory.specs.Moves.Move.{Does}
use Rattle.theory.specs.State.{State, conducts, tape_of}
use Rattle.theory.specs.Rule.{rooms_in}
use Rattle.theory.specs.Answered.{IsAnswered}
use Rattle.theory.specs.Steps.{told_by, told_behind, next, MayGoOn}
use Rattle.theory.proofs.Coming.{may_hear}
use Rattle.theory.proofs.Stepping.{one_more}
use Rattle.refinement.specs.View.{View, balanced, newest_in, Keeps, AreMarked, AreSo, Leads, AreHeard}
use Rattle.refinement.specs.Rest.{IsAtRest}
use Rattle.refinement.specs.Hearing.{IsHeard}
use Rattle.refinement.specs.Bringing.{Course}
use Rattle.refinement.proofs.Kept.{AreServed, served_by, kept_served}
use Rattle.refinement.proofs.Lives.{lives_heard, lives_same}
use Rattle.refinement.proofs.Marking.{rooms_next, marked_event}
use Rattle.refinement.proofs.Staying.{found_from, rows_kept, all_held_served}
use Rattle.event_handlers.proofs.exchanges.Coming as coming

-- ---- what is on offer for a stream

-- changes that come to the same for the stream that is found are the same
pub change_as : (id : ℕ) (f g : Kept → Kept) (ks : List Kept) (x : Kept) → theory_responses.find id ks ≡ Some x → f x ≡ g x → theory_responses.change id f ks ≡ theory_responses.change id g ks
change_as id f g [] x found same = cc
change_as id f g (k ∷ ks) x found same = by (k.id == id) found (change_as id f g ks x)
  where
    by : (b : Bool) → (if b then Some k else theory_responses.find id ks) ≡ Some x → (theory_responses.find id ks ≡ Some x → f x ≡ g x → theory_responses.change id f ks ≡ theory_responses.change id g ks) → (if b then f k ∷ ks else k ∷ theory_responses.change id f ks) ≡ (if b then g k ∷ ks else k ∷ theory_responses.change id g ks)
    by true is rest = let this : x ≡ k = cc in ap (λ (y : Kept). y ∷ ks) (subst (λ (y : Kept). f y ≡ g y) this same)
    by false is rest = ap (λ (ys : List Kept). k ∷ ys) (rest is same)

-- ---- how far responses are

-- only where no whole response was heard it isn't whole
pending_partly : (most others : ℕ) (heard : Heard) → answer_by most others heard ≡ Pending → heard ≡ Partly
pending_partly most others Partly is = refl
pending_partly most others Keepable is = by (nat_lt others most) is
  where
    by : (b : Bool) → (if b then Idle else lines.Answer.Done) ≡ Pending → Keepable ≡ Partly
    by true on = cc
    by false off = cc
pending_partly most others Finished is = cc

-- and only where one was the connection is idle
idle_whole : (most others : ℕ) (heard : Heard) → answer_by most others heard ≡ Idle → heard ≡ Partly → ⊥
idle_whole most others Partly is e = cc
idle_whole most others Keepable is e = cc
idle_whole most others Finished is e = cc

module _ (setup : Setup) (kept : View) (rest : IsAtRest kept) (run : List Move) (s : State) (leads : Leads setup run kept balanced s) (k : ℕ) (c : Connection) (found : find number_of k kept.upstreams.live ≡ Some c) (working : lines.is_idle c.live.answer ≡ false)
    (event : Event) (of : upstream_of event ≡ k) (upstream : is_of_upstream event ≡ true) (is_answer : IsAnswer event)
    (quiet : (x : theory_receive_windows.State) → theory_receive_windows.with_event x event ≡ record x { settled = false }) (comes : (gates : Gates) (rooms : theory_receive_windows.State) → gates.is_up k ≡ true → may_come gates rooms event ≡ true) where
  module _ (news : Delivery) (heard : Heard) (answer : Answer) (box : Outbox) (x : Kept) (kept_there : theory_responses.find c.live.stream kept.offers.kept ≡ Some x) (grows : box ≡ grown x.box news)
      (so : (known : Known) → known.setup ≡ setup → AreKnown known (conducts run) → IsAnswered known (tape_of run) (Hears event c.live.stream news heard))
      (stands_for : heard ≡ Partly → (known : Known) → known.setup ≡ setup → AreKnown known (conducts run) → IsHeard known (Happened event ∷ tape_of run) k answer)
      (empty : (heard ≡ Partly → ⊥) → octets_of answer ≡ 0) where
    -- the connections with this answer of the one
    abbrev pub answered_lives : List Connection
    answered_lives = map (answer_at k answer) kept.upstreams.live

    abbrev pub heard_view : View
    heard_view = record kept { offers = refilled c.live.stream box kept.offers; upstreams = record kept.upstreams { live = heard_at setup.most_idle k heard answered_lives } }

    abbrev decision : Decision
    decision = Hears event c.live.stream news heard

    abbrev book : Book
    book = s.ledger.book

    abbrev then_state : State
    then_state = next setup s (Does decision)

    ledger : ledger_after setup s.ledger (conduct_of decision) ≡ record { book = record book { ends = false }; queue = [] }
    ledger = happened_ledger setup false s.ledger event (record book { ends = false }) [] (heard_lead setup book event (rows_kept setup run s leads.stands) upstream)

    may : MayGoOn setup s (Does decision)
    may = (
      ap (λ (d : Ledger). d.book.ends) ledger,
      may_hear setup (told_behind setup s decision) s (coming.ready setup kept rest run s leads k c found working) event c.live.stream news heard (record {
        answer = coming.may_answer setup kept rest run s leads k c found working event of comes;
        of_upstream = is_answer;
        calm = ap (λ (d : Ledger). ((summary_in d.book).stream c.live.stream).outline.cause) ledger ∙ (coming.event_of setup kept rest run s leads k c found working event of).no_cause;
      }),
    )

    -- what is held stays
    abbrev told_then : Told
    told_then = told_in (summary_in (record book { ends = false }))

    served_then : AreServed told_then kept.upstreams.held
    served_then =
        subst (AreServed told_then) (ap (λ (r : theory_requests.State). r.held) leads.keeps.requests)
        (served_by (told_in (told_by s)) told_then (λ id. refl) s.requests.held (all_held_served setup run s leads.stands leads.so))

    lives_then : lines_heard setup.most_idle k heard (lives kept.upstreams.live) ≡ lives (heard_at setup.most_idle k heard answered_lives)
    lives_then = ap (lines_heard setup.most_idle k heard) (sym (lives_same (answer_at k answer) (λ y. refl) kept.upstreams.live)) ∙ sym (lives_heard setup.most_idle k heard answered_lives)

    requests_then : then_state.requests ≡ upstreams.with_due heard_view.upstreams Nothing
    requests_then =
        ap (λ (d : Ledger). theory_requests.after setup (told_in (summary_in d.book)) s.requests (theory_requests.Move.Hears event heard)) ledger
        ∙ ap (λ (r : theory_requests.State). theory_requests.after setup told_then r (theory_requests.Move.Hears event heard)) leads.keeps.requests
        ∙ ap (λ (hs : List Held). record { held = hs; live = lines_heard setup.most_idle (upstream_of event) heard (lives kept.upstreams.live); due = Nothing; count = kept.upstreams.count }) (kept_served told_then kept.upstreams.held served_then)
        ∙ ap (λ n. record { held = kept.upstreams.held; live = lines_heard setup.most_idle n heard (lives kept.upstreams.live); due = Nothing; count = kept.upstreams.count }) of
        ∙ ap (λ (ls : List Line). record { held = kept.upstreams.held; live = ls; due = Nothing; count = kept.upstreams.count }) lives_then

    offers_then : then_state.offers ≡ heard_view.offers
    offers_then =
        ap (λ (o : theory_responses.State). record { kept = theory_responses.change c.live.stream (theory_responses.told news) o.kept; last = o.last }) leads.keeps.offers
        ∙ ap (λ (ks : List Kept). let o : theory_responses.State = record { kept = ks; last = kept.offers.last } in o)
        (change_as c.live.stream (theory_responses.told news) (with_box box) kept.offers.kept x kept_there (ap (λ (b : Outbox). let y : Kept = record { id = x.id; box = b; cut = x.cut } in y) (sym grows)))

    -- ---- connections

    -- how far the response is
    abbrev progress : lines.Answer
    progress = answer_by setup.most_idle (idle_beside k (lives answered_lives)) heard

    -- what becomes of one
    abbrev changed : Connection → Connection
    changed y = marked_at k progress (answer_at k answer y)

    -- one that is found now was there before
    record WasSo (j : ℕ) (now : Connection) : Type 0 where
      pub before : Connection
      pub there : find number_of j kept.upstreams.live ≡ Some before
      pub is : changed before ≡ now

    was_so : (j : ℕ) (now : Connection) → find number_of j (heard_at setup.most_idle k heard answered_lives) ≡ Some now → WasSo j now
    was_so j now is =
        let later = found_from (marked_at k progress) (λ y. refl) answered_lives j now is in
        let first = found_from (answer_at k answer) (λ y. refl) kept.upstreams.live j later.before later.there in
        record { before = first.before; there = first.there; is = ap (marked_at k progress) first.is ∙ later.is }

    heard_then : AreHeard setup (Does decision ∷ run) heard_view.upstreams.live
    heard_then = record {
      so = λ known same knows j now is on calm.
          let from = was_so j now is in
          let y = from.before in
          let number : y.live.k ≡ j = found_key number_of j kept.upstreams.live y from.there in
          elim (eqb_tells j k) [
            | inl here ↦ (
                let own : (y.live.k == k) ≡ true = ap (λ n. n == k) number ∙ here.0 in
                subst (λ n. IsHeard known (Happened event ∷ tape_of run) n now.answer) (sym here.1)
                (subst (λ (a : Answer). IsHeard known (Happened event ∷ tape_of run) k a) (sym (ap (λ b. if b then answer else y.answer) own) ∙ ap (λ (z : Connection). z.answer) from.is)
                (stands_for (pending_partly setup.most_idle (idle_beside k (lives answered_lives)) heard (sym (ap (λ b. if b then progress else y.live.answer) own) ∙ ap (λ (z : Connection). z.live.answer) from.is ∙ on)) known same knows.0))
                )
            | inr off ↦ (
                let other : (y.live.k == k) ≡ false = ap (λ n. n == k) number ∙ off.0 in
                subst (λ (a : Answer). IsHeard known (Happened event ∷ tape_of run) j a) (sym (ap (λ b. if b then answer else y.answer) other) ∙ ap (λ (z : Connection). z.answer) from.is)
                (coming.others_heard setup kept rest run s leads k c found working event of known same knows.0 j y off.1 from.there
                (sym (ap (λ b. if b then progress else y.live.answer) other) ∙ ap (λ (z : Connection). z.live.answer) from.is ∙ on)
                (ap (λ n. (course known n (Happened event ∷ tape_of run)).cause) (ap (λ (z : Connection). z.live.stream) from.is) ∙ calm))
                )
          ];
      none_idle = λ j now is idle.
          let from = was_so j now is in
          let y = from.before in
          let number : y.live.k ≡ j = found_key number_of j kept.upstreams.live y from.there in
          elim (eqb_tells j k) [
            | inl here ↦ (
                let own : (y.live.k == k) ≡ true = ap (λ n. n == k) number ∙ here.0 in
                ap octets_of (sym (sym (ap (λ b. if b then answer else y.answer) own) ∙ ap (λ (z : Connection). z.answer) from.is))
                ∙ empty (idle_whole setup.most_idle (idle_beside k (lives answered_lives)) heard (sym (ap (λ b. if b then progress else y.live.answer) own) ∙ ap (λ (z : Connection). z.live.answer) from.is ∙ idle))
                )
            | inr off ↦ (
                let other : (y.live.k == k) ≡ false = ap (λ n. n == k) number ∙ off.0 in
                ap octets_of (sym (sym (ap (λ b. if b then answer else y.answer) other) ∙ ap (λ (z : Connection). z.answer) from.is))
                ∙ leads.heard.none_idle j y from.there (sym (ap (λ b. if b then progress else y.live.answer) other) ∙ ap (λ (z : Connection). z.live.answer) from.is ∙ idle)
                )
          ];
    }

    windows_then : then_state.windows ≡ record s.windows { settled = false }
    windows_then = ap theory_receive_windows.kept_of (quiet (rooms_in (told_by s) s))

    so_then : AreSo setup (Does decision ∷ run)
    so_then known same knows = (leads.so known same knows.0, so known same knows.0)

    marked_then : AreMarked setup.passing (newest_in then_state) kept.marks (rooms_in (told_by then_state) then_state)
    marked_then =
        subst (λ (os : List Opened). AreMarked setup.passing (λ j. given j os) kept.marks (rooms_in (told_by then_state) then_state)) (sym (ap (λ (d : Ledger). d.book.given) ledger))
        (subst (AreMarked setup.passing (newest_in s) kept.marks) (sym (rooms_next setup run s leads.stands leads.so decision may so_then ∙ quiet (rooms_in (told_by s) s)))
        (marked_event setup.passing (newest_in s) kept.marks (rooms_in (told_by s) s) leads.marked))

    keeps_then : Keeps heard_view balanced then_state
    keeps_then = record {
      book = ap (λ (d : Ledger). d.book) ledger ∙ ap (λ (b : Book). record b { ends = false }) leads.keeps.book ∙ ap (λ (os : List Opened). book_of (record { given = os; untaken = kept.untaken }) kept.inbound) (sym (ap (λ (d : Ledger). d.book.given) ledger));
      owed = ap (λ (d : Ledger). d.queue) ledger;
      offers = offers_then;
      requests = requests_then;
      decoding = leads.keeps.decoding;
      encoding = leads.keeps.encoding;
      read = leads.keeps.read;
      credited = record {
        fresh = ap (λ (w : theory_receive_windows.Kept). w.count) windows_then ∙ leads.keeps.credited.fresh;
        shared = ap (λ (w : theory_receive_windows.Kept). w.debt) windows_then ∙ leads.keeps.credited.shared;
        own = λ id back. ap (λ (w : theory_receive_windows.Kept). (w.row id).debt) windows_then ∙ leads.keeps.credited.own id back;
      };
      counted = λ j now is.
          let from = was_so j now is in
          let was = leads.keeps.counted j from.before from.there in (
            ap (λ (w : theory_receive_windows.Kept). w.out j) windows_then ∙ was.0 ∙ ap (λ (z : Connection). z.out) from.is,
            ap (λ (w : theory_receive_windows.Kept). w.took j) windows_then ∙ was.1 ∙ ap (λ (z : Connection). z.took) from.is,
          );
    }

    -- What is news of the answer is on offer.
    pub heard_performs : (outputs : List Output) → Course setup run s outputs (Happened event) heard_view balanced outputs
    heard_performs outputs = record {
      segment = record {
        moves = Does decision ∷ [];
        state = then_state;
        by_rule = (s, refl, may, refl);
        leads = record {
          stands = one_more setup run s (Does decision) leads.stands may;
          so = so_then;
          heard = heard_then;
          keeps = keeps_then;
          marked = marked_then;
          in_effect = tt;
        };
        puts = refl;
      };
      own = [];
      begins = refl;
      are_own = tt;
    }
