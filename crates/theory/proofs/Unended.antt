-- A connection that is open where the gateway rests hasn't been ended by its upstream: where it is, its response is whole or has failed, and it is
-- closed.
use Rattle.std.proofs.Common.{◌≡◌, ℕ, zero, suc, Bool, true, false, ◌&&◌, ◌==◌, nat_lt, if◌then◌else◌, List, [], ◌∷◌, Option, Some, None, refl, sym, ◌∙◌, ap, subst, inl, inr, arith}
use Rattle.std.proofs.lemmas.Bool.{cases_Bool, eq-eqb, ne_eqb, lt-ltb}
use Rattle.std.proofs.lemmas.Bool.Decides.{eqb_tells}
use Rattle.model.specs.Logs.{Event, Act}
use Rattle.model.specs.Logs.Event.{Client, ClientEnd, ClientTook, Up, UpEnd, UpFailed, UpTook, Drain}
use Rattle.model.specs.Logs.Act.{Open, ToUp, Close, CloseClient}
use Rattle.model.specs.Tapes.{Entry}
use Rattle.model.specs.Tapes.Entry.{Came, Breached, Happened, Sent, Did}
use Rattle.model.specs.Responses.{IsComplete}
use Rattle.model.specs.Admission.{is_open}
use Rattle.model.specs.Openings.{Opened, exchanges, exchange_on, route_of, given, last_stream, begins_another, AreApart, IsGivenNone}
use Rattle.model.specs.Available.{ended_by, heard_by}
use Rattle.model.specs.Known.{Known, fails_behind}
use Rattle.model.specs.Causes.{Cause, cause_if}
use Rattle.model.specs.Causes.Cause.{BadAnswer}
use Rattle.model.specs.Lifetimes.{is_opened}
use Rattle.model.specs.Courses.{cause, items, upstream_of, first_of_both}
use Rattle.model.specs.Offers.{is_to_head}
use Rattle.model.specs.Failures.{IsJudged}
use Rattle.model.specs.Idle.{IsAllHeard, IsIdle}
use Rattle.model.specs.ProgressClause.{Reason}
use Rattle.model.specs.ProgressClause.Reason.{Complete, Answered}
use Rattle.model.proofs.OpenedLaws.{none_zero}
use Rattle.model.proofs.ExchangeLaws.{open_exchange, unheard}
use Rattle.model.proofs.ItemLaws.{head_stays}
use Rattle.theory_requests.specs.Lines.{Heard}
use Rattle.theory_requests.specs.Lines.Heard.{Partly, Keepable, Finished}
use Rattle.theory_requests.specs.State as theory_requests
use Rattle.theory_requests.proofs.Numbers as numbers
use Rattle.theory_requests.proofs.Standing.{Given, Stands, some_items}
use Rattle.theory_requests.proofs.Reasons.{IsOf, ended_same, reason_stays}
use Rattle.theory_requests.proofs.Idling.{hears_end}
use Rattle.theory_requests.proofs.Clauses.{all_stand}
use Rattle.theory.specs.Moves.{Decision, Move, entry_of, fails_in}
use Rattle.theory.specs.Moves.Decision.{Takes, Breaks, Notes, Hears, Fails, Idles, Sends, Goes, Acts}
use Rattle.theory.specs.Moves.Move.{Does, Settles}
use Rattle.theory.specs.State.{tape_of, summary_at, turns_of, state_of}
use Rattle.theory.specs.Rule.{MayDo, RestsBehind}
use Rattle.theory.specs.Answered.{IsHeardBy, IsAnswered}
use Rattle.theory.proofs.Tapes.{requests_tape}
use Rattle.theory.proofs.Placing.{turns_may, turns_so}
use Rattle.theory.proofs.Keeping.{IsKnown, of_requests}

-- Each open connection that was ended is done with.
abbrev AreDone : Known → List Entry → Type 0
AreDone known t = (k : ℕ) → is_open k t ≡ true → ended_by (exchange_on k t) t ≡ true → Reason known t (exchange_on k t)

module _ (known : Known) (t : List Entry) (s : theory_requests.State) (h : Stands known t s) where
  -- the newest exchange of an open connection
  newest : (k : ℕ) → is_open k t ≡ true → Given known t s.due (exchange_on k t)
  newest k on = h.given (exchange_on k t) (open_exchange k t on)

  begun : (k : ℕ) → is_open k t ≡ true → items known (given k (exchanges t)) t ≡ [] → ⊥
  begun k on = let g = newest k on in some_items (items known (given k (exchanges t)) t) g.head g.has_head

  counted : (k : ℕ) → is_open k t ≡ true → given k (exchanges t) ≡ 0 → ⊥
  counted k on e = let clash : true ≡ false = sym (newest k on).started ∙ ap (λ n. is_opened n t) e ∙ none_zero t in cc

  no_zero : is_open 0 t ≡ true → ⊥
  no_zero on = numbers.none_zero t (exchange_on 0 t) h.numbered h.goes (open_exchange 0 t on) refl

  -- what was so of a connection stays so, whatever comes but an event of it
  module _ (before : AreDone known t) where
    stays : (e : Entry) (k : ℕ) → is_open k t ≡ true → (IsOf k e → ⊥) → ended_by (exchange_on k t) (e ∷ t) ≡ true → Reason known (e ∷ t) (exchange_on k t)
    stays e k on other ended =
        reason_stays known t e (exchange_on k t) (newest k on).started (begun k on) other (before k on (sym (ended_same t e (exchange_on k t) other) ∙ ended))

  -- the end makes a response whole that isn't said to fail
  whole_by_end : (k : ℕ) → is_open k t ≡ true → (heard : Heard) → IsHeardBy known t (UpEnd k) heard → IsJudged known t (UpEnd k) false → ended_by (exchange_on k t) (Happened (UpEnd k) ∷ t) ≡ true → Reason known (Happened (UpEnd k) ∷ t) (exchange_on k t)
  whole_by_end k on Finished verdict judged ended = Complete verdict.0
  whole_by_end k on Keepable verdict judged ended = absurd (let clash : false ≡ true = sym verdict.not_ended ∙ ended in cc)
  whole_by_end k on Partly verdict judged ended = absurd (judged (λ c. verdict (all c)))
    where
      o : Opened
      o = exchange_on k t

      all : IsComplete (heard_by (exchange_on k t) t) true (is_to_head (items known (given k (exchanges t)) t)) → IsAllHeard known (Happened (UpEnd k) ∷ t) (exchange_on k t)
      all c =
          subst (λ b. IsComplete (heard_by (exchange_on k t) t) b (is_to_head (items known (given k (exchanges t)) (Happened (UpEnd k) ∷ t)))) (sym ended)
          (subst (IsComplete (heard_by (exchange_on k t) t) true) (head_stays known (given k (exchanges t)) t (Happened (UpEnd k)) (begun k on)) c)

  -- and one that is gives its stream a cause
  caused_by_end : (k : ℕ) → is_open k t ≡ true → fails_behind known t ≡ true → Reason known (Happened (UpEnd k) ∷ t) (exchange_on k t)
  caused_by_end k on fails = found (cause known stream t) refl
    where
      stream : ℕ
      stream = given k (exchanges t)

      above : nat_lt 0 stream ≡ true
      above = some stream refl
        where
          some : (n : ℕ) → stream ≡ n → nat_lt 0 n ≡ true
          some zero e = absurd (counted k on e)
          some (suc n) e = lt-ltb 0 (suc n) (omega (arith))

      new : (if stream == stream && nat_lt 0 stream then cause_if (fails_behind known t) BadAnswer else None) ≡ Some BadAnswer
      new =
          ap (λ b. if b && nat_lt 0 stream then cause_if (fails_behind known t) BadAnswer else None) (eq-eqb stream stream refl)
          ∙ ap (λ b. if b then cause_if (fails_behind known t) BadAnswer else None) above
          ∙ ap (λ b. cause_if b BadAnswer) fails

      found : (c : Option Cause) → cause known stream t ≡ c → Reason known (Happened (UpEnd k) ∷ t) (exchange_on k t)
      found None e = Answered BadAnswer (ap (λ c. first_of_both c (if stream == stream && nat_lt 0 stream then cause_if (fails_behind known t) BadAnswer else None)) e ∙ new)
      found (Some c) e = Answered c (ap (λ x. first_of_both x (if stream == stream && nat_lt 0 stream then cause_if (fails_behind known t) BadAnswer else None)) e)

-- ---- an exchange that begins

-- of its stream nothing was heard before
module _ (known : Known) (t : List Entry) (act : Act) (u : theory_requests.State) (h : Stands known (Did act ∷ t) u) where
  begins : (k : ℕ) → is_open k (Did act ∷ t) ≡ true → IsGivenNone (given k (exchanges (Did act ∷ t))) (exchanges t) → ended_by (exchange_on k (Did act ∷ t)) (Did act ∷ t) ≡ true → ⊥
  begins k on none ended =
      let not_ended = (unheard (exchange_on k (Did act ∷ t)) t none (counted known (Did act ∷ t) u h k on)).1 in
      let clash : true ≡ false = sym ended ∙ not_ended in cc

module _ (known : Known) (t : List Entry) (s u : theory_requests.State) (h : Stands known t s) (before : AreDone known t) where
  -- a connection that is opened has a new exchange, and others keep theirs
  opened : (j route : ℕ) → Stands known (Did (Open j route) ∷ t) u → AreDone known (Did (Open j route) ∷ t)
  opened j route behind k on ended = elim (eqb_tells j k) [
    | inl same ↦ absurd (begins known t (Open j route) u behind k on (subst (λ n. IsGivenNone n (exchanges t)) (sym (ap (λ b. if b then last_stream t else given k (exchanges t)) same.0)) behind.apart.0) ended)
    | inr apart ↦ (
        let is : exchange_on k (Did (Open j route) ∷ t) ≡ exchange_on k t = ap {A = Bool} {B = Opened} (λ b. record { k = k; route = if b then route else route_of k (exchanges t); stream = if b then last_stream t else given k (exchanges t) }) apart.0 in
        let was : is_open k t ≡ true = sym (ap (λ b. if b then true else is_open k t) (ne_eqb k j (λ e. apart.1 (sym e)))) ∙ on in
        subst (Reason known (Did (Open j route) ∷ t)) (sym is) (stays known t s h before (Did (Open j route)) k was (λ none. none) (ap (λ (x : Opened). ended_by x t) (sym is) ∙ ended)))
  ]

  -- octets begin another exchange, or leave them all
  sent : (j : ℕ) (octets : List ℕ) → Stands known (Did (ToUp j octets) ∷ t) u → AreDone known (Did (ToUp j octets) ∷ t)
  sent j octets behind k on ended = by (begins_another (given j (exchanges t)) (last_stream t) octets) refl
    where
      e : Entry
      e = Did (ToUp j octets)

      after : Bool → List Opened
      after b = if b then record { k = j; route = route_of j (exchanges t); stream = last_stream t } ∷ exchanges t else exchanges t

      -- where the newest one is the same
      old : exchange_on k (Did (ToUp j octets) ∷ t) ≡ exchange_on k t → Reason known (Did (ToUp j octets) ∷ t) (exchange_on k (Did (ToUp j octets) ∷ t))
      old is = subst (Reason known (Did (ToUp j octets) ∷ t)) (sym is) (stays known t s h before (Did (ToUp j octets)) k on (λ none. none) (ap (λ (x : Opened). ended_by x t) (sym is) ∙ ended))

      on_list : List Opened → Opened
      on_list os = record { k = k; route = route_of k os; stream = given k os }

      by : (b : Bool) → begins_another (given j (exchanges t)) (last_stream t) octets ≡ b → Reason known (Did (ToUp j octets) ∷ t) (exchange_on k (Did (ToUp j octets) ∷ t))
      by false is = old (ap (λ b. on_list (after b)) is)
      by true is = elim (eqb_tells j k) [
        | inl same ↦ absurd (
            let none : IsGivenNone (last_stream t) (exchanges t) = (subst AreApart (ap after is) behind.apart).0 in
            begins known t (ToUp j octets) u behind k on (subst (λ n. IsGivenNone n (exchanges t)) (sym (ap (λ b. given k (after b)) is ∙ ap (λ b. if b then last_stream t else given k (exchanges t)) same.0)) none) ended)
        | inr apart ↦ old (ap (λ b. on_list (after b)) is ∙ ap {A = Bool} {B = Opened} (λ b. record { k = k; route = if b then route_of j (exchanges t) else route_of k (exchanges t); stream = if b then last_stream t else given k (exchanges t) }) apart.0)
      ]

-- ---- an event

-- one that an upstream's connection is open behind was open before
open_before : (event : Event) (k : ℕ) (t : List Entry) → is_open k (Happened event ∷ t) ≡ true → is_open k t ≡ true
open_before (Client piece) k t on = on
open_before ClientEnd k t on = on
open_before (ClientTook count) k t on = on
open_before (Up j piece) k t on = on
open_before (UpEnd j) k t on = on
open_before (UpTook j count) k t on = on
open_before Drain k t on = on
open_before (UpFailed j) k t on = by (k == j) on
  where
    by : (b : Bool) → (if b then false else is_open k t) ≡ true → is_open k t ≡ true
    by true e = let clash : false ≡ true = e in cc
    by false e = e

module _ (known : Known) (t : List Entry) (s : theory_requests.State) (h : Stands known t s) (before : AreDone known t) (event : Event) where
  -- of a connection that wasn't ended, or of none
  happened : (is_open (upstream_of event) t ≡ true → ended_by (exchange_on (upstream_of event) t) t ≡ true → ⊥) → ((k : ℕ) → is_open k t ≡ true → event ≡ UpEnd k → ended_by (exchange_on k t) (Happened event ∷ t) ≡ true → Reason known (Happened event ∷ t) (exchange_on k t)) → AreDone known (Happened event ∷ t)
  happened not_ended ends k on ended = elim (eqb_tells k (upstream_of event)) [
    | inl same ↦ own same.1
    | inr apart ↦ stays known t s h before (Happened event) k was apart.1 ended
  ]
    where
      was : is_open k t ≡ true
      was = open_before event k t on

      own : k ≡ upstream_of event → Reason known (Happened event ∷ t) (exchange_on k t)
      own is = by event refl
        where
          never : ended_by (exchange_on k t) t ≡ true → ⊥
          never now = subst (λ n. is_open n t ≡ true → ended_by (exchange_on n t) t ≡ true → ⊥) (sym is) not_ended was now

          by : (x : Event) → event ≡ x → Reason known (Happened event ∷ t) (exchange_on k t)
          by (UpEnd j) e = ends k was (e ∙ ap UpEnd (sym (is ∙ ap upstream_of e))) ended
          by (Client piece) e = absurd (never (sym (ap (λ x. ended_by (exchange_on k t) (Happened x ∷ t)) e) ∙ ended))
          by ClientEnd e = absurd (never (sym (ap (λ x. ended_by (exchange_on k t) (Happened x ∷ t)) e) ∙ ended))
          by (ClientTook count) e = absurd (never (sym (ap (λ x. ended_by (exchange_on k t) (Happened x ∷ t)) e) ∙ ended))
          by (Up j piece) e = absurd (never (sym (ap (λ x. ended_by (exchange_on k t) (Happened x ∷ t)) e) ∙ ended))
          by (UpFailed j) e = absurd (never (sym (ap (λ x. ended_by (exchange_on k t) (Happened x ∷ t)) e) ∙ ended))
          by (UpTook j count) e = absurd (never (sym (ap (λ x. ended_by (exchange_on k t) (Happened x ∷ t)) e) ∙ ended))
          by Drain e = absurd (never (sym (ap (λ x. ended_by (exchange_on k t) (Happened x ∷ t)) e) ∙ ended))

-- ---- along a run

-- what is kept of requests stands for the tape
pub stands : (known : Known) (run : List Move) → IsKnown known run → Stands known (tape_of run) (state_of known.setup run).requests
stands known run k = subst (λ (t : List Entry). Stands known t (state_of known.setup run).requests) (requests_tape known.setup run) (all_stand known (turns_of known.setup run) (turns_may known.setup run k.all) (turns_so known run k.knows k.all k.answered))

-- at rest a connection that is open isn't done with, or may be kept: so it wasn't ended
unended : (known : Known) (run : List Move) → IsKnown known run → AreDone known (tape_of run) → RestsBehind known.setup run → (k : ℕ) → is_open k (tape_of run) ≡ true → ended_by (exchange_on k (tape_of run)) (tape_of run) ≡ true → ⊥
unended known run is_known before rests k on ended =
    let kept = (of_requests known run is_known rests).closed k on (before k on ended) in
    let clash : false ≡ true = sym kept.not_ended ∙ ended in cc

module _ (known : Known) (run : List Move) (k : IsKnown known run) (before : AreDone known (tape_of run)) where
  abbrev t : List Entry
  t = tape_of run

  abbrev st : Stands known t (state_of known.setup run).requests
  st = stands known run k

  -- entries that open nothing and are no answer
  silent : (e : Entry) → ((j : ℕ) → is_open j (e ∷ t) ≡ true → is_open j t ≡ true) → ((j : ℕ) → exchange_on j (e ∷ t) ≡ exchange_on j t) → ((j : ℕ) → IsOf j e → ⊥) → AreDone known (e ∷ t)
  silent e was same other j on ended =
      subst (Reason known (e ∷ t)) (sym (same j)) (stays known t _ st before e j (was j on) (other j) (ap (λ (x : Opened). ended_by x (e ∷ t)) (sym (same j)) ∙ ended))

  one_more : (d : Decision) → Stands known (entry_of d ∷ t) (state_of known.setup (Does d ∷ run)).requests → MayDo known.setup (summary_at known.setup run) (summary_at known.setup (Does d ∷ run)) (state_of known.setup run) d → fails_behind known t ≡ fails_in d → IsAnswered known t d → AreDone known (entry_of d ∷ t)
  one_more (Takes noted next addition) behind may fails so = silent (Came noted) (λ j on. on) (λ j. refl) (λ j none. none)
  one_more (Breaks breach) behind may fails so = silent (Breached breach) (λ j on. on) (λ j. refl) (λ j none. none)
  one_more (Sends noted next) behind may fails so = silent (Sent noted) (λ j on. on) (λ j. refl) (λ j none. none)
  one_more (Goes noted item part next) behind may fails so = silent (Sent noted) (λ j on. on) (λ j. refl) (λ j none. none)
  one_more (Acts (Open j route)) behind may fails so = opened known t _ _ st before j route behind
  one_more (Acts (ToUp j octets)) behind may fails so = sent known t _ _ st before j octets behind
  one_more (Acts (Close j)) behind may fails so = silent (Did (Close j)) (λ i. closed i (i == j)) (λ i. refl) (λ i none. none)
    where
      closed : (i : ℕ) (b : Bool) → (if b then false else is_open i t) ≡ true → is_open i t ≡ true
      closed i true e = let clash : false ≡ true = e in cc
      closed i false e = e
  one_more (Acts CloseClient) behind may fails so = silent (Did CloseClient) (λ j on. on) (λ j. refl) (λ j none. none)
  one_more (Notes event) behind may fails so =
      happened known t _ st before event (λ on ended. no_zero known t _ st (subst (λ n. is_open n t ≡ true) may.request.may.1 on))
      (λ j on is ended. absurd (no_zero known t _ st (subst (λ n. is_open n t ≡ true) (sym (ap upstream_of is) ∙ may.request.may.1) on)))
  one_more (Hears event stream news heard) behind may fails so =
      happened known t _ st before event (unended known run k before (may.rests refl) (upstream_of event)) (λ j on is. ends j on event is so.1 so.2)
    where
      ends : (j : ℕ) → is_open j t ≡ true → (x : Event) → x ≡ UpEnd j → IsHeardBy known t x heard → IsJudged known t x false → ended_by (exchange_on j t) (Happened x ∷ t) ≡ true → Reason known (Happened x ∷ t) (exchange_on j t)
      ends j on x is verdict judged ended =
          subst (λ (y : Event). Reason known (Happened y ∷ t) (exchange_on j t)) (sym is)
          (whole_by_end known t _ st j on heard (subst (λ (y : Event). IsHeardBy known t y heard) is verdict) (subst (λ (y : Event). IsJudged known t y false) is judged) (subst (λ (y : Event). ended_by (exchange_on j t) (Happened y ∷ t) ≡ true) is ended))
  one_more (Fails event stream heard) behind may fails so =
      happened known t _ st before event (unended known run k before (may.rests refl) (upstream_of event)) (λ j on is ended. subst (λ (y : Event). Reason known (Happened y ∷ t) (exchange_on j t)) (sym is) (caused_by_end known t _ st j on fails))
  one_more (Idles event) behind may fails so =
      happened known t _ st before event (unended known run k before (may.rests refl) (upstream_of event))
      (λ j on is ended. subst (λ (y : Event). Reason known (Happened y ∷ t) (exchange_on j t)) (sym is) (Complete (hears_end known t j (subst (IsIdle known t) (ap upstream_of is) so.0)).0))

all_done : (known : Known) (run : List Move) → IsKnown known run → AreDone known (tape_of run)
all_done known [] k = λ j on. absurd (let clash : false ≡ true = on in cc)
all_done known (Does d ∷ run) k =
    let before : IsKnown known run = record { knows = k.knows.0; all = k.all.0; answered = k.answered.0 } in
    one_more known run before (all_done known run before) d (stands known (Does d ∷ run) k) k.all.1 k.knows.1 k.answered.1
all_done known (Settles ∷ run) k = all_done known run (record { knows = k.knows; all = k.all; answered = k.answered })

-- So an upstream whose connection is open at rest hasn't ended it.
pub open_go_on : (known : Known) (run : List Move) → IsKnown known run → RestsBehind known.setup run → (k : ℕ) → is_open k (tape_of run) ≡ true → ended_by (exchange_on k (tape_of run)) (tape_of run) ≡ false
open_go_on known run known_run rests k on = elim (cases_Bool (ended_by (exchange_on k (tape_of run)) (tape_of run))) [
  | inr not_ended ↦ not_ended
  | inl ended ↦ absurd (unended known run known_run (all_done known run known_run) rests k on ended)
]
