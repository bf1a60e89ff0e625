-- What holds of a state to which moves led: what is kept of streams and of connections is of those that there are.
use Rattle.std.proofs.Common.{◌≡◌, ℕ, zero, suc, ◌<◌, Bool, true, false, ◌&&◌, List, [], ◌∷◌, map, reverse, Option, Some, None, refl, sym, ◌∙◌, ap, subst, arith}
use Rattle.std.specs.Prelude.{is_none}
use Rattle.model.specs.Messages.{Item}
use Rattle.model.specs.Causes.{Cause}
use Rattle.model.specs.Logs.{Event}
use Rattle.model.specs.Tapes.{Entry}
use Rattle.model.specs.Openings.{Opened, exchanges, exchange_on, given, last_stream, IsGivenNone}
use Rattle.model.specs.Available.{IsIn}
use Rattle.model.specs.Known.{Known}
use Rattle.model.specs.Lifetimes.{active, is_active, is_ended_by_client}
use Rattle.model.specs.Courses.{items, upstream_of}
use Rattle.model.specs.Malformed.{is_begun}
use Rattle.theory_errors.specs.Summary.{Stream as Conducted, Summary}
use Rattle.theory_errors.specs.Judging.{active_in}
use Rattle.theory_errors.specs.Rows.{find}
use Rattle.theory_errors.specs.Book.{ledger_of}
use Rattle.theory_errors.proofs.Telling.{book_told, live_told}
use Rattle.theory_responses.specs.Sight.{IsRightOf, sight_in}
use Rattle.theory_responses.specs.Rule.{IsEventOf, BeginsNext}
use Rattle.theory_responses.specs.State.{Kept}
use Rattle.theory_responses.proofs.Counting as counting
use Rattle.theory_requests.specs.State as theory_requests
use Rattle.theory_requests.specs.Lines.{Line, line_of}
use Rattle.theory_requests.specs.Rule as requests
use Rattle.theory_requests.specs.Connections.{IsStarted, IsOpenedFor, IsUsedFor}
use Rattle.model.proofs.ExchangeLaws.{open_exchange}
use Rattle.theory_requests.proofs.Clauses.{all_stand}
use Rattle.theory_requests.proofs.Standing as standing
use Rattle.theory_requests.proofs.Connections.{next_opened, idle_used, earlier_ended}
use Rattle.theory_requests.proofs.Numbers.{none_zero}
use Rattle.theory.specs.Moves.{Move, told_in}
use Rattle.theory.specs.State.{State, conducts, tape_of, offers_of, turns_of, summary_at}
use Rattle.theory.specs.Steps.{told_by}
use Rattle.theory.proofs.Tapes.{offers_tape, requests_tape}
use Rattle.theory.proofs.Telling as telling
use Rattle.theory.proofs.Telling.{all_moved, sight_right}
use Rattle.theory.proofs.Placing.{offers_may, offers_right, offers_told, turns_may, turns_so}
use Rattle.theory.proofs.Stepping.{before_is}
use Rattle.refinement.specs.Led.{IsLed}

above_zero : (n : ℕ) → (n ≡ 0 → ⊥) → 0 < n
above_zero zero none = absurd (none refl)
above_zero (suc n) none = omega arith

some_begun : (xs : List Item) → (xs ≡ [] → ⊥) → is_begun xs ≡ true
some_begun [] some = absurd (some refl)
some_begun (x ∷ xs) some = refl

module _ (known : Known) (run : List Move) (s : State) (led : IsLed known run s) where
  abbrev t : List Entry
  t = tape_of run

  told : summary_at known.setup run ≡ told_by s
  told = before_is known.setup run s led.stands

  -- what is read of the book is right
  pub right : IsRightOf known t (sight_in (told_by s))
  right = subst (λ (u : Summary). IsRightOf known t (sight_in u)) told (sight_right known run led.knows (all_moved known run led.stands.allowed))

  -- outboxes are kept of the active streams, in the order in which they were opened
  pub boxes : map (λ (k : Kept). k.id) s.offers.kept ≡ reverse (active_in (told_by s))
  boxes =
      ap (λ (x : State). map (λ (k : Kept). k.id) x.offers.kept) (sym led.stands.is)
      ∙ counting.are_of_active known (offers_of known.setup run) (offers_may known.setup run led.stands.allowed) (offers_right known run led.knows led.stands.allowed) (offers_told known run led.knows led.answered)
      ∙ ap (λ (x : List Entry). reverse (active x)) (offers_tape known.setup run)
      ∙ ap (λ (xs : List ℕ). reverse xs) (sym (telling.live_told known run led.knows (all_moved known run led.stands.allowed)))
      ∙ ap (λ (u : Summary). reverse (active_in u)) told

  -- ---- connections

  stand : standing.Stands known (theory_requests.tape_of (turns_of known.setup run)) (theory_requests.state_of known.setup (turns_of known.setup run))
  stand = all_stand known (turns_of known.setup run) (turns_may known.setup run led.stands.allowed) (turns_so known run led.knows led.stands.allowed led.answered)

  -- what is kept of requests stands for the tape
  pub stands : standing.Stands known t s.requests
  stands =
      subst (λ (x : State). standing.Stands known t x.requests) led.stands.is
      (subst (λ (x : List Entry). standing.Stands known x (theory_requests.state_of known.setup (turns_of known.setup run))) (requests_tape known.setup run) stand)

  -- the stream that is kept with an open connection is the one that it was given to last
  pub given_to : (k : ℕ) (line : Line) → line_of k s.requests.live ≡ Some line → given k (exchanges t) ≡ line.stream
  given_to k line found = (stands.keeps.are_so k line found).stream

  -- An event of an open connection is of its stream, where that is served.
  pub event_of : (event : Event) (line : Line) → line_of (upstream_of event) s.requests.live ≡ Some line → (told_in (told_by s)).served line.stream ≡ true → IsEventOf (sight_in (told_by s)) event line.stream
  event_of event line found served =
      let parts = served_parts ((sight_in (told_by s)).active line.stream) ((sight_in (told_by s)).cause line.stream) served in
      record { is_given = ap (given (upstream_of event)) right.given ∙ given_to (upstream_of event) line found; active = parts.0; no_cause = parts.1 }
    where
      served_parts : (a : Bool) (c : Option Cause) → (a && is_none c) ≡ true → (a ≡ true) × (c ≡ None)
      served_parts true None is = (refl, refl)
      served_parts true (Some cause) is = cc
      served_parts false c is = cc

  -- an exchange begins for the stream of the last frame, on a connection that has a number
  begins_for : (k : ℕ) → IsStarted known t → 0 < k → BeginsNext (sight_in (told_by s)) k
  begins_for k started counted =
      let last : (sight_in (told_by s)).last ≡ last_stream t = right.last in
      let is_live : is_active (last_stream t) t ≡ true = started.in_time.active in
      record {
        active = ap (λ n. (sight_in (told_by s)).active n) last ∙ right.active (last_stream t) ∙ is_live;
        has_items = ap (λ n. (sight_in (told_by s)).has_items n) last ∙ begun (last_stream t) is_live started.has_items;
        no_cause = ap (λ n. (sight_in (told_by s)).cause n) last ∙ right.cause (last_stream t) is_live ∙ started.in_time.no_cause;
        first = subst (λ n. IsGivenNone n (sight_in (told_by s)).given) (sym last) (subst (λ (os : List Opened). IsGivenNone (last_stream t) os) (sym right.given) started.none_given);
        counted = counted;
      }
    where
      begun : (id : ℕ) → is_active id t ≡ true → (items known id t ≡ [] → ⊥) → (find s.ledger.book.rows id).outline.begun ≡ true
      begun id is_live some =
          ap (λ (x : State). (find x.ledger.book.rows id).outline.begun) (sym led.stands.is)
          ∙ ap (λ (kept : Conducted). kept.outline.begun) (live_told known t (ledger_of known.setup (conducts run)).book (book_told known (conducts run) led.knows (all_moved known run led.stands.allowed) (ap (λ (x : State). x.ledger.book.ends) led.stands.is ∙ led.stands.goes_on)) id is_live)
          ∙ some_begun (items known id t) some

  -- The next connection is opened for the stream of the last frame.
  pub opens_next : (k route : ℕ) → requests.MayOpen s.requests k route → BeginsNext (sight_in (told_by s)) k
  opens_next k route may =
      let opened : IsOpenedFor known t k route =
      subst (λ (u : List Entry). IsOpenedFor known u k route) (requests_tape known.setup run)
      (next_opened known (turns_of known.setup run) (turns_may known.setup run led.stands.allowed) (turns_so known run led.knows led.stands.allowed led.answered) k route
      (subst (λ (x : State). requests.MayOpen x.requests k route) (sym led.stands.is) may)) in
      begins_for k opened.started (let next = opened.next in omega (arith, next))

  -- An idle one is given to it, the least of its route.
  pub given_next : (k : ℕ) (octets : List ℕ) → requests.MayUse s.requests k octets → IsUsedFor known t k octets
  given_next k octets may =
      subst (λ (u : List Entry). IsUsedFor known u k octets) (requests_tape known.setup run)
      (idle_used known (turns_of known.setup run) (turns_may known.setup run led.stands.allowed) (turns_so known run led.knows led.stands.allowed led.answered) k octets
      (subst (λ (x : State). requests.MayUse x.requests k octets) (sym led.stands.is) may))

  pub uses_next : (k : ℕ) (octets : List ℕ) → requests.MayUse s.requests k octets → BeginsNext (sight_in (told_by s)) k
  uses_next k octets may =
      let used = given_next k octets may in
      begins_for k used.started (above_zero k (none_zero t (exchange_on k t) stands.numbered stands.goes (open_exchange k t used.again.idle.is_open)))

  -- The client has ended each stream whose connection was given to another since.
  pub past_ended : (o : Opened) → IsIn o (exchanges t) → (given o.k (exchanges t) ≡ o.stream → ⊥) → is_ended_by_client o.stream t ≡ true
  past_ended =
      subst (λ (u : List Entry). (o : Opened) → IsIn o (exchanges u) → (given o.k (exchanges u) ≡ o.stream → ⊥) → is_ended_by_client o.stream u ≡ true) (requests_tape known.setup run)
      (earlier_ended known (turns_of known.setup run) (turns_may known.setup run led.stands.allowed) (turns_so known run led.knows led.stands.allowed led.answered))
