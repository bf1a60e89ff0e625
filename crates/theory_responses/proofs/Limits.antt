-- Where responses are passed on whole, and failures are judged rightly, no more is heard of a body than is kept, as long as the
-- gateway doesn't answer its stream.
use Rattle.std.proofs.Common.{◌≡◌, ℕ, zero, suc, ◌<◌, ◌≤◌, Bool, true, false, List, [], ◌∷◌, length, refl, sym, ap, ◌∙◌, subst, inl, inr, arith, if◌then◌else◌}
use Rattle.std.specs.Prelude.{Option, Some, None}
use Rattle.std.proofs.lemmas.Bool.{cases_lt}
use Rattle.std.proofs.lemmas.Bool.Decides.{eqb_tells}
use Rattle.model.specs.ResponseHeads.{Head}
use Rattle.model.specs.Responses.{Seen}
use Rattle.model.specs.Logs.{Event, Act}
use Rattle.model.specs.Logs.Event.{Client, ClientEnd, ClientTook, Up, UpEnd, UpFailed, UpTook, Drain}
use Rattle.model.specs.Logs.Act.{Open, ToUp, Close, CloseClient}
use Rattle.model.specs.Setup.Passing.{Whole}
use Rattle.model.specs.Tapes.{Entry}
use Rattle.model.specs.Tapes.Entry.{Came, Breached, Happened, Sent, Did}
use Rattle.model.specs.Openings.{Opened, exchanges, exchange_on, last_stream, given, begins_another, IsGivenNone, AreApart}
use Rattle.model.proofs.ExchangeLaws.{another_on, newest_in, unheard}
use Rattle.model.proofs.DeliveryReadings.{one_connection}
use Rattle.model.specs.Available.{heard_by, IsIn}
use Rattle.model.specs.Known.{Known, fails_behind}
use Rattle.model.specs.Causes.{Cause}
use Rattle.model.specs.Causes.Cause.{BadAnswer}
use Rattle.model.specs.Courses.{course, items, cause_of, first_of_both}
use Rattle.model.specs.Offers.{is_to_head}
use Rattle.model.specs.Failures.{IsJudged, AreJudged}
use Rattle.model.specs.Idle.{IsTooLong}
use Rattle.model.proofs.OpenedLaws.{none_zero}
use Rattle.theory_responses.specs.State.{State, entry_of, state_of}
use Rattle.theory_responses.specs.Rule.{Seen as Step, moves_of, tape_of, AllMayCome, AreRight, AreTold}
use Rattle.theory_responses.proofs.Entries.{heard_same, head_stays, items_stay}
use Rattle.theory_responses.proofs.Ruling.{Placed}
use Rattle.theory_responses.proofs.Moving.{caused_by_failure}
use Rattle.theory_responses.proofs.BodySizes.{seen_within}
use Rattle.theory_responses.proofs.Allowing.{placed}

-- What was heard of a connection isn't too long, as long as the gateway doesn't answer its stream.
abbrev pub NoneTooLong : Known → List Entry → Type 0
NoneTooLong known t = (o : Opened) → IsIn o (exchanges t) → (course known o.stream t).cause ≡ None → IsTooLong known (heard_by o t) (is_to_head (items known o.stream t)) → ⊥

-- without a cause there was none before, and none came
none_first : (old new : Option Cause) → first_of_both old new ≡ None → (old ≡ None) × (new ≡ None)
none_first None new e = (refl, e)
none_first (Some cause) new e = let clash : ◌≡◌ {A = Option Cause} (Some cause) None = e in cc

-- nothing is too long where nothing was heard
nothing_long : (known : Known) (text : List ℕ) (to_head : Bool) → text ≡ [] → IsTooLong known text to_head → ⊥
nothing_long known text to_head none long =
    let within = seen_within text to_head long.interims long.head long.octets long.seen in
    let empty : length text ≡ 0 = ap length none in
    let over = long.over in
    omega (arith, within, empty, over)

-- what stands before an entry is judged too
pub judged_before : (known : Known) (t : List Entry) (e : Entry) → AreJudged known (e ∷ t) → AreJudged known t
judged_before known t (Happened event) j = j.1
judged_before known t (Came noted) j = j
judged_before known t (Breached breach) j = j
judged_before known t (Sent noted) j = j
judged_before known t (Did act) j = j

-- no connection is given to a stream 0
counted : (known : Known) (t : List Entry) (s : State) → Placed known t s → (o : Opened) → IsIn o (exchanges t) → 0 < o.stream
counted known t s p o there = by o.stream refl
  where
    by : (n : ℕ) → o.stream ≡ n → 0 < o.stream
    by zero e = absurd (p.not_given 0 (none_zero t) o (record { is_opened = there; is_given = e }))
    by (suc n) e = omega (arith, e)

module _ (known : Known) (t : List Entry) (s : State) (p : Placed known t s) (h : NoneTooLong known t) where
  -- a connection of which nothing more is heard
  still_short : (e : Entry) (o : Opened) → IsIn o (exchanges t) → heard_by o t ≡ heard_by o (e ∷ t) → (course known o.stream (e ∷ t)).cause ≡ None → IsTooLong known (heard_by o (e ∷ t)) (is_to_head (items known o.stream (e ∷ t))) → ⊥
  still_short e o there same none long =
      h o there (none_first (course known o.stream t).cause (cause_of known o.stream t e) none).0
      (subst (λ b. IsTooLong known (heard_by o t) b) (sym (head_stays known o.stream t e (p.neighbours.begun o there)))
      (subst (λ text. IsTooLong known text (is_to_head (items known o.stream (e ∷ t)))) (sym same) long))

  -- octets come of the connection, whose newest exchange it is
  more_short : (o : Opened) (piece : List ℕ) → IsIn o (exchanges t) → given o.k (exchanges t) ≡ o.stream → IsJudged known t (Up o.k piece) (fails_behind known t) → (course known o.stream (Happened (Up o.k piece) ∷ t)).cause ≡ None
      → IsTooLong known (heard_by o (Happened (Up o.k piece) ∷ t)) (is_to_head (items known o.stream (Happened (Up o.k piece) ∷ t))) → ⊥
  more_short o piece there last judged none long = by (fails_behind known t) refl judged
    where
      event : Event
      event = Up o.k piece

      before : ((course known o.stream t).cause ≡ None) × (cause_of known o.stream t (Happened event) ≡ None)
      before = none_first (course known o.stream t).cause (cause_of known o.stream t (Happened event)) none

      newest_there : IsIn (exchange_on o.k t) (exchanges t)
      newest_there = newest_in o.k (exchanges t) o there refl

      newest : exchange_on o.k t ≡ o
      newest = one_connection (exchanges t) (exchange_on o.k t) o p.neighbours.apart newest_there there last

      by : (fails : Bool) → fails_behind known t ≡ fails → IsJudged known t event fails → ⊥
      by true fails j =
          let new = caused_by_failure known t event {stream = o.stream} (record { given = record { is_opened = newest_there; is_given = last }; no_cause = before.0; counted = counted known t s p o there }) fails in
          let clash : ◌≡◌ {A = Option Cause} None (Some BadAnswer) = sym before.1 ∙ new in
          cc
      by false sound j = j (inr (subst (λ (x : Opened). IsTooLong known (heard_by x (Happened event ∷ t)) (is_to_head (items known x.stream t))) (sym newest) (subst (λ b. IsTooLong known (heard_by o (Happened event ∷ t)) b)
          (sym (ap is_to_head (items_stay known o.stream t (Happened event) refl))) long)))

  event_short : (event : Event) → IsJudged known t event (fails_behind known t) → NoneTooLong known (Happened event ∷ t)
  event_short (Up k piece) judged o there none long = elim (eqb_tells o.k k) [
    | inl x ↦ elim (eqb_tells (given k (exchanges t)) o.stream) [
      | inl y ↦ more_short o piece there (ap (λ n. given n (exchanges t)) x.1 ∙ y.1) (subst (λ n. IsJudged known t (Up n piece) (fails_behind known t)) (sym x.1) judged)
          (subst (λ n. (course known o.stream (Happened (Up n piece) ∷ t)).cause ≡ None) (sym x.1) none)
          (subst (λ n. IsTooLong known (heard_by o (Happened (Up n piece) ∷ t)) (is_to_head (items known o.stream (Happened (Up n piece) ∷ t)))) (sym x.1) long)
      | inr y ↦ still_short (Happened (Up k piece)) o there (heard_same t (Up k piece) o (λ e s. y.1 (sym s))) none long
    ]
    | inr x ↦ still_short (Happened (Up k piece)) o there (heard_same t (Up k piece) o (λ e s. x.1 e)) none long
  ]
  event_short (Client piece) judged o there none long = still_short (Happened (Client piece)) o there refl none long
  event_short ClientEnd judged o there none long = still_short (Happened ClientEnd) o there refl none long
  event_short (ClientTook count) judged o there none long = still_short (Happened (ClientTook count)) o there refl none long
  event_short (UpEnd k) judged o there none long = still_short (Happened (UpEnd k)) o there refl none long
  event_short (UpFailed k) judged o there none long = still_short (Happened (UpFailed k)) o there refl none long
  event_short (UpTook k count) judged o there none long = still_short (Happened (UpTook k count)) o there refl none long
  event_short Drain judged o there none long = still_short (Happened Drain) o there refl none long

  -- an exchange begins, of which nothing was heard
  begun_short : (act : Act) (new o : Opened) → IsGivenNone new.stream (exchanges t) → 0 < new.stream → o ≡ new → IsTooLong known (heard_by o (Did act ∷ t)) (is_to_head (items known o.stream (Did act ∷ t))) → ⊥
  begun_short act new o none some is long =
      nothing_long known (heard_by o t) (is_to_head (items known o.stream (Did act ∷ t))) (ap (λ (x : Opened). heard_by x t) is ∙ (unheard new t none (λ zero_is. omega (arith, some, zero_is))).0) long

  -- octets are put out, and begin another exchange or none
  sending_short : (k : ℕ) (octets : List ℕ) (another : Bool) → AreApart (if another then another_on k t ∷ exchanges t else exchanges t) → (o : Opened) → 0 < o.stream → IsIn o (if another then another_on k t ∷ exchanges t else exchanges t) → (course known o.stream (Did (ToUp k octets) ∷ t)).cause ≡ None
      → IsTooLong known (heard_by o (Did (ToUp k octets) ∷ t)) (is_to_head (items known o.stream (Did (ToUp k octets) ∷ t))) → ⊥
  sending_short k octets true apart o some (inl is) none long = begun_short (ToUp k octets) (another_on k t) o apart.0 (subst (λ (x : Opened). 0 < x.stream) is some) is long
  sending_short k octets true apart o some (inr there) none long = still_short (Did (ToUp k octets)) o there refl none long
  sending_short k octets false apart o some there none long = still_short (Did (ToUp k octets)) o there refl none long

  -- Behind one entry more.
  next_short : (e : Entry) → AreApart (exchanges (e ∷ t)) → ((o : Opened) → IsIn o (exchanges (e ∷ t)) → 0 < o.stream) → AreJudged known (e ∷ t) → NoneTooLong known (e ∷ t)
  next_short (Happened event) apart some j o there none long = event_short event j.0 o there none long
  next_short (Did (Open k route)) apart some j o (inl is) none long = begun_short (Open k route) (record { k = k; route = route; stream = last_stream t }) o apart.0 (subst (λ (x : Opened). 0 < x.stream) is (some o (inl is))) is long
  next_short (Did (Open k route)) apart some j o (inr there) none long = still_short (Did (Open k route)) o there refl none long
  next_short (Did (ToUp k octets)) apart some j o there none long = sending_short k octets (begins_another (given k (exchanges t)) (last_stream t) octets) apart o (some o there) there none long
  next_short (Did (Close k)) apart some j o there none long = still_short (Did (Close k)) o there refl none long
  next_short (Did CloseClient) apart some j o there none long = still_short (Did CloseClient) o there refl none long
  next_short (Came noted) apart some j o there none long = still_short (Came noted) o there refl none long
  next_short (Breached breach) apart some j o there none long = still_short (Breached breach) o there refl none long
  next_short (Sent noted) apart some j o there none long = still_short (Sent noted) o there refl none long

-- Behind runs by the rule.
pub none_too_long : (known : Known) (run : List Step) → AllMayCome run → AreRight known run → AreTold known run → AreJudged known (tape_of run) → NoneTooLong known (tape_of run)
none_too_long known [] may right told j = λ o there none long. there
none_too_long known (x ∷ run) may right told j =
    let old = placed known run may.0 right.0 told.0 in
    let new = placed known (x ∷ run) may right told in
    next_short known (tape_of run) (state_of (moves_of run)) old.1 (none_too_long known run may.0 right.0 told.0 (judged_before known (tape_of run) (entry_of x.move) j)) (entry_of x.move) new.1.neighbours.apart
    (counted known (tape_of (x ∷ run)) (state_of (moves_of (x ∷ run))) new.1) j

-- Then what is seen of its body is no more than is kept.
pub seen_kept : (known : Known) (t : List Entry) (o : Opened) (interims : List Head) (head : Option Head) (octets : List ℕ) → NoneTooLong known t → known.setup.passing ≡ Whole → IsIn o (exchanges t) → (course known o.stream t).cause ≡ None
    → Seen (heard_by o t) (is_to_head (items known o.stream t)) interims head octets → length octets ≤ known.setup.max_response
seen_kept known t o interims head octets h whole there none seen = elim (cases_lt known.setup.max_response (length octets)) [
  | inl over ↦ absurd (h o there none (record { whole = whole; interims = interims; head = head; octets = octets; seen = seen; over = over }))
  | inr within ↦ within
]
