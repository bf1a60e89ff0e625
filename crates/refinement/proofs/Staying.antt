-- What stays behind a move, where moves led: what is said of upstreams' answers, answers that stand for what was heard, rows, and what is held.
use Rattle.std.proofs.Common.{◌≡◌, ℕ, Bool, true, false, ◌==◌, List, [], ◌∷◌, map, Option, Some, None, refl, sym, ◌∙◌, ap, subst, inl, inr, if◌then◌else◌}
use Rattle.std.specs.Prelude.{option_map}
use Rattle.std.proofs.lemmas.Bool.{eq-eqb, eqb-true, cases_eq}
use Rattle.std.proofs.lemmas.Bool.Decides.{eqb_tells}
use Rattle.model.specs.Logs.{Event}
use Rattle.model.specs.Logs.Event.{ClientTook, UpTook, Drain}
use Rattle.model.specs.Logs.Act.{ToUp, Close}
use Rattle.model.specs.Setup.{Setup}
use Rattle.model.specs.Tapes.{Entry}
use Rattle.model.specs.Tapes.Entry.{Happened, Did}
use Rattle.model.specs.Openings.{Opened, exchanges, exchange_on, given, route_of}
use Rattle.model.specs.Available.{heard_by}
use Rattle.model.specs.Known.{Known}
use Rattle.model.specs.Causes.{Cause}
use Rattle.model.specs.Courses.{course, items, upstream_of, first_of_both}
use Rattle.model.specs.Offers.{is_to_head}
use Rattle.model.proofs.ItemLaws.{head_stays}
use Rattle.model.proofs.ExchangeLaws.{open_exchange}
use Rattle.theory_errors.specs.Summary.{Summary}
use Rattle.theory_errors.specs.Rule.{AreKnown, known_of}
use Rattle.theory_errors.specs.Tidy.{AreKept}
use Rattle.theory_errors.proofs.Knowing.{known_so}
use Rattle.theory_errors.proofs.Tidy.{ledger_kept}
use Rattle.theory_requests.specs.Told.{Told, is_served}
use Rattle.theory_requests.specs.State as theory_requests
use Rattle.theory_requests.specs.Lines as lines
use Rattle.theory_requests.specs.Lines.{Line, k_of, line_of, find, without, with_answer}
use Rattle.theory_requests.specs.State.{Held, held_of}
use Rattle.theory_requests.specs.Held.{AreApart}
use Rattle.theory_requests.proofs.Lists.{find_gone, find_other, find_map, found_key}
use Rattle.theory_requests.proofs.Reasons.{heard_same}
use Rattle.theory_requests.proofs.Reusing.{sends_leave}
use Rattle.theory_requests.proofs.Standing as standing
use Rattle.theory_requests.proofs.Served.{held_served, held_apart}
use Rattle.upstream_connections.specs.Connections.{Connection, number_of, lives, marked_at, given_at}
use Rattle.upstream_response.specs.Waiting.{Answer}
use Rattle.upstream_response.specs.HeldInside.{octets_of}
use Rattle.theory.specs.Moves.{Decision, Move, entry_of, told_in}
use Rattle.theory.specs.Moves.Decision.{Takes, Breaks, Notes, Idles, Sends, Goes, Acts}
use Rattle.theory.specs.Moves.Move.{Does, Settles}
use Rattle.theory.specs.State.{State, conducts, tape_of, turns_of}
use Rattle.theory.specs.Answered.{IsAnswered}
use Rattle.theory.specs.Steps.{Stands, told_by}
use Rattle.theory.proofs.Tapes.{requests_tape}
use Rattle.theory.proofs.Telling.{all_moved, told_right}
use Rattle.theory.proofs.Placing.{turns_may, turns_so}
use Rattle.theory.proofs.Stepping.{before_is}
use Rattle.refinement.specs.Led.{IsLed}
use Rattle.refinement.specs.View.{AreSo, AreHeard}
use Rattle.refinement.specs.Hearing.{IsHeard}
use Rattle.refinement.proofs.Kept.{AreServed}
use Rattle.refinement.proofs.Sound.{stands}

-- ---- what is said of answers

-- a decision that says nothing of an upstream's answer
abbrev pub SaysNothing : Decision → Type 0
SaysNothing (Takes noted next addition) = Unit {0}
SaysNothing (Breaks breach) = Unit {0}
SaysNothing (Notes (ClientTook count)) = Unit {0}
SaysNothing (Notes (UpTook k count)) = Unit {0}
SaysNothing (Notes Drain) = Unit {0}
SaysNothing (Sends noted next) = Unit {0}
SaysNothing (Goes noted item part next) = Unit {0}
SaysNothing (Acts act) = Unit {0}
SaysNothing d = ⊥

answered_none : (known : Known) (t : List Entry) (d : Decision) → SaysNothing d → IsAnswered known t d
answered_none known t (Takes noted next addition) none = tt
answered_none known t (Breaks breach) none = tt
answered_none known t (Notes (ClientTook count)) none = λ no. no
answered_none known t (Notes (UpTook k count)) none = λ no. no
answered_none known t (Notes Drain) none = λ no. no
answered_none known t (Sends noted next) none = tt
answered_none known t (Goes noted item part next) none = tt
answered_none known t (Acts act) none = tt
answered_none known t d none = absurd none

-- What is said of answers is so behind a decision that says nothing of them, and where the effect of what came is over.
pub so_stays : (setup : Setup) (run : List Move) (d : Decision) → SaysNothing d → AreSo setup run → AreSo setup (Does d ∷ run)
so_stays setup run d none so known same knows = (so known same knows.0, answered_none known (tape_of run) d none)

pub so_settles : (setup : Setup) (run : List Move) → AreSo setup run → AreSo setup (Settles ∷ run)
so_settles setup run so = so

-- ---- connections by their number

-- what is found among connections is found among those of the rule
pub found_live : (k : ℕ) (cs : List Connection) (c : Connection) → find number_of k cs ≡ Some c → line_of k (lives cs) ≡ Some c.live
found_live k [] c is = cc
found_live k (x ∷ cs) c is = by (number_of x == k) is (found_live k cs c)
  where
    by : (b : Bool) → (if b then Some x else find number_of k cs) ≡ Some c → (find number_of k cs ≡ Some c → line_of k (lives cs) ≡ Some c.live) → (if b then Some x.live else line_of k (lives cs)) ≡ Some c.live
    by true is rest = let same : x ≡ c = cc in ap (λ (y : Connection). Some y.live) same
    by false is rest = rest is

-- what is found where one is gone was there before
pub found_before : (k j : ℕ) (cs : List Connection) (c : Connection) → find number_of j (without number_of k cs) ≡ Some c → find number_of j cs ≡ Some c
found_before k j cs c is = elim (cases_eq k j) [
  | inl same ↦ (let clash : ◌≡◌ {A = Option Connection} None (Some c) = sym (find_gone number_of k cs) ∙ ap (λ n. find number_of n (without number_of k cs)) same ∙ is in cc)
  | inr apart ↦ sym (find_other number_of k j cs apart) ∙ is
]

-- ---- answers that stand for what was heard

-- the gateway didn't reply to a stream itself before an entry, where it doesn't behind that
pub calm_before : (known : Known) (stream : ℕ) (e : Entry) (t : List Entry) → (course known stream (e ∷ t)).cause ≡ None → (course known stream t).cause ≡ None
calm_before known stream e t calm = stays (course known stream t).cause _ calm
  where
    stays : (first later : Option Cause) → first_of_both first later ≡ None → first ≡ None
    stays None later is = refl
    stays (Some cause) later is = is

-- The answers that are kept stand for what was heard where the effect of what came is over.
pub heard_settles : (setup : Setup) (run : List Move) (live : List Connection) → AreHeard setup run live → AreHeard setup (Settles ∷ run) live
heard_settles setup run live are = record { so = are.so; none_idle = are.none_idle }

-- So they do of fewer connections, and of those whose octets are counted.
pub heard_of_fewer : (setup : Setup) (run : List Move) (live : List Connection) (k : ℕ) → AreHeard setup run live → AreHeard setup run (without number_of k live)
heard_of_fewer setup run live k are = record {
  so = λ known same knows j c found. are.so known same knows j c (found_before k j live c found);
  none_idle = λ j c found. are.none_idle j c (found_before k j live c found);
}

-- a connection that is found where each changes so was another before
pub record IsFrom (f : Connection → Connection) (live : List Connection) (j : ℕ) (now : Connection) : Type 0 where
  pub before : Connection
  pub there : find number_of j live ≡ Some before
  pub is : f before ≡ now

pub found_from : (f : Connection → Connection) → ((c : Connection) → number_of (f c) ≡ number_of c) → (live : List Connection) (j : ℕ) (now : Connection) → find number_of j (map f live) ≡ Some now → IsFrom f live j now
found_from f numbers live j now found = by (find number_of j live) refl (sym (find_map number_of f numbers j live) ∙ found)
  where
    by : (o : Option Connection) → find number_of j live ≡ o → option_map f o ≡ Some now → IsFrom f live j now
    by None none is = cc
    by (Some x) there is = record { before = x; there = there; is = let same : f x ≡ now = cc in same }

pub heard_of_changed : (setup : Setup) (run : List Move) (live : List Connection) (f : Connection → Connection) → ((c : Connection) → (f c).live ≡ c.live) → ((c : Connection) → (f c).answer ≡ c.answer) → AreHeard setup run live → AreHeard setup run (map f live)
heard_of_changed setup run live f lives_stay answers_stay are = record {
  so = λ known same knows j c found goes_on calm.
      let x = from j c found in
      subst (IsHeard known (tape_of run) j) (answer_of x)
      (are.so known same knows j x.before x.there (ap (λ (l : Line). l.answer) (line_of_it x) ∙ goes_on) (ap (λ (l : Line). (course known l.stream (tape_of run)).cause) (line_of_it x) ∙ calm));
  none_idle = λ j c found is.
      let x = from j c found in
      ap octets_of (sym (answer_of x)) ∙ are.none_idle j x.before x.there (ap (λ (l : Line). l.answer) (line_of_it x) ∙ is);
}
  where
    from : (j : ℕ) (c : Connection) → find number_of j (map f live) ≡ Some c → IsFrom f live j c
    from = found_from f (λ x. ap k_of (lives_stay x)) live

    line_of_it : {j : ℕ} {c : Connection} → (x : IsFrom f live j c) → x.before.live ≡ c.live
    line_of_it x = sym (lives_stay x.before) ∙ ap (λ (y : Connection). y.live) x.is

    answer_of : {j : ℕ} {c : Connection} → (x : IsFrom f live j c) → x.before.answer ≡ c.answer
    answer_of x = sym (answers_stay x.before) ∙ ap (λ (y : Connection). y.answer) x.is

-- So they do where of one it is told that its response is whole: nothing is said of that any more, but that nothing is kept of it where it is idle.
pub heard_of_marked : (setup : Setup) (run : List Move) (live : List Connection) (k : ℕ) (progress : lines.Answer) → (progress ≡ lines.Answer.Pending → ⊥) → (progress ≡ lines.Answer.Idle → (c : Connection) → find number_of k live ≡ Some c → octets_of c.answer ≡ 0)
    → AreHeard setup run live → AreHeard setup run (map (marked_at k progress) live)
heard_of_marked setup run live k progress whole empty are = record {
  so = λ known same knows j c found goes_on calm.
      let x = from j c found in
      subst (IsHeard known (tape_of run) j) (ap (λ (y : Connection). y.answer) x.is)
      (are.so known same knows j x.before x.there (pending (x.before.live.k == k) x.before.live.answer (ap (λ (y : Connection). y.live.answer) x.is ∙ goes_on)) (ap (λ (y : Connection). (course known y.live.stream (tape_of run)).cause) x.is ∙ calm));
  none_idle = λ j c found is.
      let x = from j c found in
      sym (ap (λ (y : Connection). octets_of y.answer) x.is) ∙ idle j x.before x.there (x.before.live.k == k) refl (ap (λ (y : Connection). y.live.answer) x.is ∙ is);
}
  where
    from : (j : ℕ) (c : Connection) → find number_of j (map (marked_at k progress) live) ≡ Some c → IsFrom (marked_at k progress) live j c
    from = found_from (marked_at k progress) (λ x. refl) live

    pending : (b : Bool) (a : lines.Answer) → (if b then progress else a) ≡ lines.Answer.Pending → a ≡ lines.Answer.Pending
    pending true a on = absurd (whole on)
    pending false a on = on

    idle : (j : ℕ) (x : Connection) → find number_of j live ≡ Some x → (b : Bool) → (x.live.k == k) ≡ b → (if b then progress else x.live.answer) ≡ lines.Answer.Idle → octets_of x.answer ≡ 0
    idle j x there true own is = empty is x (ap (λ n. find number_of n live) (sym (eqb-true x.live.k k own) ∙ found_key number_of j live x there) ∙ there)
    idle j x there false own is = are.none_idle j x there is

-- An answer stands for all that was heard behind an entry with which nothing is heard on its connection and no exchange begins there, where its
-- stream has an item.
pub heard_by_entry : (known : Known) (t : List Entry) (e : Entry) (k : ℕ) (answer : Answer) → heard_by (exchange_on k t) (e ∷ t) ≡ heard_by (exchange_on k t) t → exchange_on k (e ∷ t) ≡ exchange_on k t → (items known (given k (exchanges t)) t ≡ [] → ⊥) → IsHeard known t k answer → IsHeard known (e ∷ t) k answer
heard_by_entry known t e k answer unheard same begun is = record {
  parts = is.parts;
  stands = subst (λ x. Rattle.h1_reader.specs.Standing.Stands x is.parts answer.reader) (sym all_heard) is.stands;
  knows = subst (λ x. Rattle.h1_reader.specs.Keeps.Knows x answer.reader) (sym all_heard) is.knows;
  short = is.short;
  few_named = is.few_named;
  goes_on = is.goes_on;
  waits = is.waits;
  asked = is.asked ∙ head_stays known (given k (exchanges t)) t e begun ∙ ap (λ (o : Opened). is_to_head (items known o.stream (e ∷ t))) (sym same);
  set_up = is.set_up;
}
  where
    all_heard : heard_by (exchange_on k (e ∷ t)) (e ∷ t) ≡ heard_by (exchange_on k t) t
    all_heard = ap (λ (o : Opened). heard_by o (e ∷ t)) same ∙ unheard

module _ (setup : Setup) (run : List Move) (s : State) (stand : Stands setup run s) (so : AreSo setup run) (live : List Connection) (open_ones : s.requests.live ≡ lives live) where
  -- the stream of an open connection has an item
  pub open_begun : (known : Known) → known.setup ≡ setup → AreKnown known (conducts run) → (k : ℕ) (c : Connection) → find number_of k live ≡ Some c → items known (given k (exchanges (tape_of run))) (tape_of run) ≡ [] → ⊥
  open_begun known same knows k c found none =
      let led : IsLed known run s = record { knows = knows; answered = so known same knows; stands = subst (λ (x : Setup). Stands x run s) (sym same) stand } in
      let is = stands known run s led in
      let it = is.given (exchange_on k (tape_of run)) (open_exchange k (tape_of run) (is.keeps.are_so k c.live (ap (line_of k) open_ones ∙ found_live k live c found)).opened) in
      standing.some_items (items known (given k (exchanges (tape_of run))) (tape_of run)) it.head it.has_head none

  -- An answer stands for what was heard behind a decision with which nothing is heard on its connection, and no exchange begins there.
  pub heard_beside : (d : Decision) (j : ℕ) → heard_by (exchange_on j (tape_of run)) (entry_of d ∷ tape_of run) ≡ heard_by (exchange_on j (tape_of run)) (tape_of run) → exchange_on j (entry_of d ∷ tape_of run) ≡ exchange_on j (tape_of run) → AreHeard setup run live
      → (known : Known) → known.setup ≡ setup → AreKnown known (conducts run) → (c : Connection) → find number_of j live ≡ Some c → c.live.answer ≡ lines.Answer.Pending → (course known c.live.stream (entry_of d ∷ tape_of run)).cause ≡ None → IsHeard known (entry_of d ∷ tape_of run) j c.answer
  heard_beside d j unheard none_begun are known same knows c found goes_on calm =
      heard_by_entry known (tape_of run) (entry_of d) j c.answer unheard none_begun (open_begun known same knows j c found) (are.so known same knows j c found goes_on (calm_before known c.live.stream (entry_of d) (tape_of run) calm))

  -- Answers stand for what was heard behind a decision with which nothing is heard and no exchange begins.
  pub heard_behind : (d : Decision) → ((o : Opened) → heard_by o (entry_of d ∷ tape_of run) ≡ heard_by o (tape_of run)) → exchanges (entry_of d ∷ tape_of run) ≡ exchanges (tape_of run) → AreHeard setup run live → AreHeard setup (Does d ∷ run) live
  heard_behind d unheard none_begun are = record {
    so = λ known same knows k c found goes_on calm.
        heard_beside d k (unheard (exchange_on k (tape_of run))) (ap {A = List Opened} {B = Opened} (λ os. record { k = k; route = route_of k os; stream = given k os }) none_begun) are known same knows.0 c found goes_on calm;
    none_idle = are.none_idle;
  }

  -- So they do behind an event of a connection whose response is whole already.
  pub heard_idles : (event : Event) → ((c : Connection) → find number_of (upstream_of event) live ≡ Some c → c.live.answer ≡ lines.Answer.Pending → ⊥) → AreHeard setup run live → AreHeard setup (Does (Idles event) ∷ run) live
  heard_idles event whole are = record {
    so = λ known same knows j c found goes_on calm. elim (cases_eq j (upstream_of event)) [
      | inl own ↦ absurd (whole c (ap (λ n. find number_of n live) (sym own) ∙ found) goes_on)
      | inr other ↦ heard_beside (Idles event) j (heard_same (tape_of run) (Happened event) (exchange_on j (tape_of run)) other) refl are known same knows.0 c found goes_on calm
    ];
    none_idle = are.none_idle;
  }

  -- So they do behind octets with which an exchange begins, where the answer to that stands for what was heard.
  pub heard_given : (k stream : ℕ) (octets : List ℕ) (answer : Answer) → ((known : Known) → known.setup ≡ setup → AreKnown known (conducts run) → IsHeard known (Did (ToUp k octets) ∷ tape_of run) k answer)
      → AreHeard setup run live → AreHeard setup (Does (Acts (ToUp k octets)) ∷ run) (map (given_at k stream answer) live)
  heard_given k stream octets answer new are = record {
    so = λ known same knows j c found goes_on calm.
        let x = from j c found in elim (eqb_tells j k) [
          | inl own ↦ subst (IsHeard known t j) (sym (ap (λ b. if b then answer else x.before.answer) (is_it x own.0)) ∙ ap (λ (y : Connection). y.answer) x.is) (subst (λ n. IsHeard known t n answer) (sym own.1) (new known same knows.0))
          | inr off ↦ (
              let left = sends_leave known (tape_of run) j k octets off.1 in
              subst (IsHeard known t j) (sym (ap (λ b. if b then answer else x.before.answer) (is_it x off.0)) ∙ ap (λ (y : Connection). y.answer) x.is)
              (heard_beside (Acts (ToUp k octets)) j refl left.exchange are known same knows.0 x.before x.there
              (sym (ap (λ b. if b then lines.Answer.Pending else x.before.live.answer) (is_it x off.0)) ∙ ap (λ (y : Connection). y.live.answer) x.is ∙ goes_on)
              (ap (λ n. (course known n t).cause) (sym (ap (λ b. if b then stream else x.before.live.stream) (is_it x off.0)) ∙ ap (λ (y : Connection). y.live.stream) x.is) ∙ calm))
              )
        ];
    none_idle = λ j c found is.
        let x = from j c found in
        sym (ap (λ (y : Connection). octets_of y.answer) x.is) ∙ idle j x.before x.there (x.before.live.k == k) (ap (λ (y : Connection). y.live.answer) x.is ∙ is);
  }
    where
      t : List Entry
      t = Did (ToUp k octets) ∷ tape_of run

      from : (j : ℕ) (c : Connection) → find number_of j (map (given_at k stream answer) live) ≡ Some c → IsFrom (given_at k stream answer) live j c
      from = found_from (given_at k stream answer) (λ x. refl) live

      is_it : {j : ℕ} {c : Connection} {b : Bool} → (x : IsFrom (given_at k stream answer) live j c) → (j == k) ≡ b → (x.before.live.k == k) ≡ b
      is_it {j} {c} {b} x is = ap (λ n. n == k) (found_key number_of j live x.before x.there) ∙ is

      idle : (j : ℕ) (x : Connection) → find number_of j live ≡ Some x → (b : Bool) → (if b then lines.Answer.Pending else x.live.answer) ≡ lines.Answer.Idle → octets_of (if b then answer else x.answer) ≡ 0
      idle j x there true is = cc
      idle j x there false is = are.none_idle j x there is

  -- such a decision
  abbrev pub IsUnheard : Decision → Type 0
  IsUnheard (Takes noted next addition) = Unit {0}
  IsUnheard (Notes (ClientTook count)) = Unit {0}
  IsUnheard (Notes (UpTook k count)) = Unit {0}
  IsUnheard (Notes Drain) = Unit {0}
  IsUnheard (Sends noted next) = Unit {0}
  IsUnheard (Goes noted item part next) = Unit {0}
  IsUnheard (Acts (ToUp k octets)) = exchanges (Did (ToUp k octets) ∷ tape_of run) ≡ exchanges (tape_of run)
  IsUnheard (Acts (Close k)) = Unit {0}
  IsUnheard d = ⊥

  pub heard_stays : (d : Decision) → IsUnheard d → AreHeard setup run live → AreHeard setup (Does d ∷ run) live
  heard_stays (Takes noted next addition) none = heard_behind (Takes noted next addition) (λ o. refl) refl
  heard_stays (Notes (ClientTook count)) none = heard_behind (Notes (ClientTook count)) (λ o. refl) refl
  heard_stays (Notes (UpTook j count)) none = heard_behind (Notes (UpTook j count)) (λ o. refl) refl
  heard_stays (Notes Drain) none = heard_behind (Notes Drain) (λ o. refl) refl
  heard_stays (Sends noted next) none = heard_behind (Sends noted next) (λ o. refl) refl
  heard_stays (Goes noted item part next) none = heard_behind (Goes noted item part next) (λ o. refl) refl
  heard_stays (Acts (ToUp j octets)) none = heard_behind (Acts (ToUp j octets)) (λ o. refl) none
  heard_stays (Acts (Close j)) none = heard_behind (Acts (Close j)) (λ o. refl) refl
  heard_stays d none = absurd none

-- ---- rows, and what is held

-- Rows hold what they should where moves led.
pub rows_kept : (setup : Setup) (run : List Move) (s : State) → Stands setup run s → AreKept s.ledger.book.rows
rows_kept setup run s stand = subst (λ (x : State). AreKept x.ledger.book.rows) stand.is (ledger_kept setup (conducts run))

-- streams of which each is held once, and of which each that is found is served, are all served
each_served : (told : Told) (hs : List Held) → AreApart hs → ((stream : ℕ) (x : Held) → held_of stream hs ≡ Some x → told.served stream ≡ true) → AreServed told hs
each_served told [] apart found = tt
each_served told (h ∷ hs) apart found = (
  found h.id h (ap (λ b. if b then Some h else held_of h.id hs) (eq-eqb h.id h.id refl)),
  each_served told hs apart.1 (λ stream x is. elim (eqb_tells h.id stream) [
    | inl same ↦ (let no : ◌≡◌ {A = Option Held} None (Some x) = sym apart.0 ∙ ap (λ n. held_of n hs) same.1 ∙ is in cc)
    | inr other ↦ found stream x (ap (λ b. if b then Some h else held_of stream hs) other.0 ∙ is)
  ]),
)

module _ (setup : Setup) (run : List Move) (s : State) (stand : Stands setup run s) (so : AreSo setup run) where
  abbrev known : Known
  known = known_of setup (conducts run)

  -- All that is held is of streams that are served.
  pub all_held_served : AreServed (told_in (told_by s)) s.requests.held
  all_held_served =
      subst (λ (x : State). AreServed (told_in (told_by s)) x.requests.held) stand.is
      (each_served (told_in (told_by s)) (theory_requests.state_of setup (turns_of setup run)).held (held_apart setup (turns_of setup run)) (λ stream x is.
      ap (λ (u : Summary). (told_in u).served stream) (sym (before_is setup run s stand))
      ∙ (told_right known run (known_so setup (conducts run)) (all_moved known run stand.allowed)).served stream
      ∙ ap (λ (t : List Entry). is_served known stream t) (sym (requests_tape setup run))
      ∙ held_served known (turns_of setup run) (turns_may setup run stand.allowed) (turns_so known run (known_so setup (conducts run)) stand.allowed (so known refl (known_so setup (conducts run)))) stream x is))
