-- What is known of failures at later places of a tape changes nothing before them.
use Rattle.std.proofs.Common.{◌≡◌, ℕ, ◌≤◌, ◌<◌, Bool, true, false, ◌||◌, ◌==◌, List, [], ◌∷◌, length, refl, sym, ap, subst, ◌∙◌, arith, inl, inr, if◌then◌else◌}
use Rattle.std.specs.Prelude.{Option, Some, None, nat_lt, ◌&&◌}
use Rattle.std.proofs.lemmas.Bool.Decides.{eqb_tells}
use Rattle.model.specs.Logs.{Event}
use Rattle.model.specs.Logs.Event.{Client, ClientEnd, ClientTook, Up, UpEnd, UpFailed, UpTook, Drain}
use Rattle.model.specs.Responses.{IsComplete}
use Rattle.model.specs.Tapes.{Entry, sent}
use Rattle.model.specs.Tapes.Entry.{Came, Breached, Happened, Sent, Did}
use Rattle.model.specs.Errors.{Fault}
use Rattle.model.specs.Streams.{items_of}
use Rattle.model.specs.Openings.{Opened, exchange_on}
use Rattle.model.specs.Available.{heard_by, items_on}
use Rattle.model.specs.Setup.{own_window}
use Rattle.model.specs.Known.{Known, fails_behind, with_failure}
use Rattle.model.specs.Causes.{Cause, cause_if}
use Rattle.model.specs.Causes.Cause.{BadAnswer}
use Rattle.model.specs.ErrorTable.{fault_with}
use Rattle.model.specs.Courses.{Course, carried, cause_at, new_cause, next_course, interrupts, course_behind, about, course}
use Rattle.model.specs.Offers.{is_to_head}
use Rattle.model.specs.Idle.{is_asked_for_head, IsTooLong, LeavesOpen, MayBeKept, IsIdle}
use Rattle.model.specs.Failures.{IsBroken, IsPlainlyBroken, MayFail, MustFail, IsJudged, AreJudged}

not_here : (place : ℕ) (known : Known) (t : List Entry) → length t < place → fails_behind (with_failure place known) t ≡ fails_behind known t
not_here place known t lt = elim (eqb_tells place (length t)) [
  | inl same ↦ absurd (let e = same.1 in omega (arith, lt, e))
  | inr apart ↦ ap (λ b. b || fails_behind known t) apart.0
]

same_cause : (place : ℕ) (known : Known) (c : Course) (t : List Entry) (e : Entry) (found : Option Fault) → length t < place → cause_at (with_failure place known) c t e found ≡ cause_at known c t e found
same_cause place known c t (Came noted) None lt = refl
same_cause place known c t (Came noted) (Some f) lt = refl
same_cause place known c t (Breached breach) found lt = refl
same_cause place known c t (Happened event) found lt = ap (λ b. cause_if b BadAnswer) (not_here place known t lt)
same_cause place known c t (Sent noted) found lt = refl
same_cause place known c t (Did act) found lt = refl

same_step : (place : ℕ) (known : Known) (stream : ℕ) (t : List Entry) (e : Entry) (c : Course) → length t < place → next_course (with_failure place known) stream t e c ≡ next_course known stream t e c
same_step place known stream t e c lt =
    let found = fault_with (own_window known.setup) (carried c) t e in
    let same : new_cause (with_failure place known) stream t e c found ≡ new_cause known stream t e c found =
    ap (λ (x : Option Cause). if about t e == stream && nat_lt 0 stream then x else None) (same_cause place known c t e found lt) in
    ap (λ (x : Option Cause). course_behind c (interrupts stream e found x) (items_of stream t e) x (items_on stream (sent t))) same

pub same_course : (place : ℕ) (known : Known) (stream : ℕ) (t : List Entry) → length t ≤ place → course (with_failure place known) stream t ≡ course known stream t
same_course place known stream [] le = refl
same_course place known stream (e ∷ t) le =
    ap (λ (c : Course). next_course (with_failure place known) stream t e c) (same_course place known stream t (omega (arith, le))) ∙ same_step place known stream t e (course known stream t) (omega (arith, le))

-- ---- what is judged of failures

module _ (place : ℕ) (known : Known) where
  -- what is known with it
  abbrev more : Known
  more = with_failure place known

  -- a request asks for a head alone or not, as before
  asked_same : (o : Opened) (t : List Entry) → length t ≤ place → is_asked_for_head more o t ≡ is_asked_for_head known o t
  asked_same o t le = ap (λ (c : Course). is_to_head c.items) (same_course place known o.stream t le)

  -- a text that is too long stays so
  long_more : (text : List ℕ) (to_head : Bool) → IsTooLong known text to_head → IsTooLong more text to_head
  long_more text to_head h = record { whole = h.whole; interims = h.interims; head = h.head; octets = h.octets; seen = h.seen; over = h.over }

  -- and was so
  long_less : (text : List ℕ) (to_head : Bool) → IsTooLong more text to_head → IsTooLong known text to_head
  long_less text to_head h = record { whole = h.whole; interims = h.interims; head = h.head; octets = h.octets; seen = h.seen; over = h.over }

  -- an exchange that is over so that its connection may be kept, and an idle connection, were so
  kept_less : (t : List Entry) (o : Opened) → length t ≤ place → MayBeKept more t o → MayBeKept known t o
  kept_less t o le m = record {
    keeps = m.keeps;
    goes_on = m.goes_on;
    request = m.request;
    sent = m.sent;
    answered = subst (λ (b : Bool). LeavesOpen (heard_by o t) b) (asked_same o t le) m.answered;
    fits = λ long. m.fits (subst (λ (b : Bool). IsTooLong more (heard_by o t) b) (sym (asked_same o t le)) (long_more (heard_by o t) (is_asked_for_head known o t) long));
    not_ended = m.not_ended;
  }

  idle_less : (t : List Entry) (k : ℕ) → length t ≤ place → IsIdle more t k → IsIdle known t k
  idle_less t k le i = record { is_open = i.is_open; kept = kept_less t (exchange_on k t) le i.kept }

  -- and stay so
  kept_more : (t : List Entry) (o : Opened) → length t ≤ place → MayBeKept known t o → MayBeKept more t o
  kept_more t o le m = record {
    keeps = m.keeps;
    goes_on = m.goes_on;
    request = m.request;
    sent = m.sent;
    answered = subst (λ (b : Bool). LeavesOpen (heard_by o t) b) (sym (asked_same o t le)) m.answered;
    fits = λ long. m.fits (long_less (heard_by o t) (is_asked_for_head known o t) (subst (λ (b : Bool). IsTooLong more (heard_by o t) b) (asked_same o t le) long));
    not_ended = m.not_ended;
  }

  idle_more : (t : List Entry) (k : ℕ) → length t ≤ place → IsIdle known t k → IsIdle more t k
  idle_more t k le i = record { is_open = i.is_open; kept = kept_more t (exchange_on k t) le i.kept }

  -- an event with which an answer may be given up stays one
  may_more : (t : List Entry) (event : Event) → length t ≤ place → MayFail known t event → MayFail more t event
  may_more t (Up k piece) le h =
      subst (λ (b : Bool). IsBroken more (heard_by (exchange_on k t) (Happened (Up k piece) ∷ t)) b) (sym (asked_same (exchange_on k t) t le)) (elim h [ inl spoilt ↦ inl spoilt | inr long ↦ inr (long_more (heard_by (exchange_on k t) (Happened (Up k piece) ∷ t)) (is_asked_for_head known (exchange_on k t) t) long) ])
  may_more t (UpEnd k) le h = λ complete. h (subst (λ (b : Bool). IsComplete (heard_by (exchange_on k t) t) true b) (asked_same (exchange_on k t) t le) complete)
  may_more t (UpFailed k) le h = λ idle. h (idle_less t k le idle)
  may_more t (Client piece) le h = absurd h
  may_more t ClientEnd le h = absurd h
  may_more t (ClientTook count) le h = absurd h
  may_more t (UpTook k count) le h = absurd h
  may_more t Drain le h = absurd h

  -- and one with which it must be was one
  must_less : (t : List Entry) (event : Event) → length t ≤ place → MustFail more t event → MustFail known t event
  must_less t (Up k piece) le h =
      let here : IsPlainlyBroken more (heard_by (exchange_on k t) (Happened (Up k piece) ∷ t)) (is_asked_for_head known (exchange_on k t) t) = subst (λ (b : Bool). IsPlainlyBroken more (heard_by (exchange_on k t) (Happened (Up k piece) ∷ t)) b) (asked_same (exchange_on k t) t le) h in
      elim here [ inl bad ↦ inl bad | inr long ↦ inr (long_less (heard_by (exchange_on k t) (Happened (Up k piece) ∷ t)) (is_asked_for_head known (exchange_on k t) t) long) ]
  must_less t (UpEnd k) le h = λ complete. h (subst (λ (b : Bool). IsComplete (heard_by (exchange_on k t) t) true b) (sym (asked_same (exchange_on k t) t le)) complete)
  must_less t (UpFailed k) le h = λ idle. h (idle_more t k le idle)
  must_less t (Client piece) le h = absurd h
  must_less t ClientEnd le h = absurd h
  must_less t (ClientTook count) le h = absurd h
  must_less t (UpTook k count) le h = absurd h
  must_less t Drain le h = absurd h

  -- What was judged of an event is right with it.
  pub judged_more : (t : List Entry) (event : Event) (fails : Bool) → length t ≤ place → IsJudged known t event fails → IsJudged more t event fails
  judged_more t event true le h = may_more t event le h
  judged_more t event false le h = λ must. h (must_less t event le must)

  -- What is judged of a tape stays so, where the place is behind it.
  pub are_judged_more : (t : List Entry) → length t ≤ place → AreJudged known t → AreJudged more t
  are_judged_more [] le h = tt
  are_judged_more (Happened event ∷ t) le h = (
    subst (λ (b : Bool). IsJudged more t event b) (sym (not_here place known t (omega (arith, le)))) (judged_more t event (fails_behind known t) (omega (arith, le)) h.0),
    are_judged_more t (omega (arith, le)) h.1,
  )
  are_judged_more (Came noted ∷ t) le h = are_judged_more t (omega (arith, le)) h
  are_judged_more (Breached breach ∷ t) le h = are_judged_more t (omega (arith, le)) h
  are_judged_more (Sent noted ∷ t) le h = are_judged_more t (omega (arith, le)) h
  are_judged_more (Did act ∷ t) le h = are_judged_more t (omega (arith, le)) h
