-- Which entries leave what is on offer for a stream as it is.
use Rattle.std.proofs.Common.{◌≡◌, ℕ, zero, suc, ◌<◌, Bool, true, false, ◌==◌, ◌&&◌, ◌||◌, List, [], ◌∷◌, ◌++◌, refl, sym, ap, ◌∙◌, inl, inr, arith, if◌then◌else◌, subst}
use Rattle.std.specs.Prelude.{Option, Some, None, is_some, nat_lt}
use Rattle.std.specs.List.{list_any}
use Rattle.std.proofs.lemmas.List.{append-nil}
use Rattle.std.proofs.lemmas.Bool.{ne_eqb}
use Rattle.std.proofs.lemmas.Bool.Decides.{eqb_tells}
use Rattle.model.specs.Messages.{Item}
use Rattle.model.specs.Messages.Item.{Block, Content}
use Rattle.model.specs.Logs.{Event, Act}
use Rattle.model.specs.Logs.Event.{Client, ClientEnd, ClientTook, Up, UpEnd, UpFailed, UpTook, Drain}
use Rattle.model.specs.ResponseHeads.{Head}
use Rattle.model.specs.Deliveries.{Delivery, heads_in}
use Rattle.model.specs.Tapes.{Noted, Breach, Entry, sent}
use Rattle.model.specs.Tapes.Entry.{Came, Breached, Happened, Sent, Did}
use Rattle.model.specs.Streams.{items_of}
use Rattle.model.specs.Openings.{Opened, exchanges, route_of, given, is_of}
use Rattle.model.specs.Available.{heard_by, ended_by, items_on, IsIn, IsShown}
use Rattle.model.specs.Setup.{own_window}
use Rattle.model.specs.Known.{Known, fails_behind}
use Rattle.model.specs.Causes.{Cause, cause_if}
use Rattle.model.specs.Causes.Cause.{BadAnswer}
use Rattle.model.specs.ErrorTable.{fault_with}
use Rattle.model.specs.Courses.{Course, course, carried, items, about, upstream_of, cause_at, cause_of, first_of_both, interrupts, is_final}
use Rattle.model.specs.Offers.{is_to_head, IsGiven}
use Rattle.model.proofs.ExchangeLaws.{given_in}
use Rattle.theory_responses.proofs.Standing.{SameOffer}

-- ---- the course of a stream, where the entry is no cause for it

-- without a cause no head was out when it came
pub not_out : (known : Known) (stream : ℕ) (t : List Entry) → (course known stream t).cause ≡ None → (course known stream t).head_out ≡ false
not_out known stream [] e = refl
not_out known stream (x ∷ t) e = by (course known stream t).cause (course known stream t).head_out (cause_of known stream t x) (list_any is_final (items_on stream (sent t))) e
  where
    by : (old : Option Cause) (out : Bool) (new : Option Cause) (now : Bool) → first_of_both old new ≡ None → (if is_some old then out else is_some new && now) ≡ false
    by None out None now e = refl
    by None out (Some c) now e = let clash : ◌≡◌ {A = Option Cause} (Some c) None = e in cc
    by (Some c) out new now e = let clash : ◌≡◌ {A = Option Cause} (Some c) None = e in cc

-- a cause that came stays
first_stays : (old : Option Cause) → first_of_both old None ≡ old
first_stays None = refl
first_stays (Some c) = refl

pub cause_stays : (known : Known) (stream : ℕ) (t : List Entry) (e : Entry) → cause_of known stream t e ≡ None → (course known stream t).cause ≡ (course known stream (e ∷ t)).cause
cause_stays known stream t e none = sym (ap (λ c. first_of_both (course known stream t).cause c) none ∙ first_stays (course known stream t).cause)

pub out_stays : (known : Known) (stream : ℕ) (t : List Entry) (e : Entry) → cause_of known stream t e ≡ None → (course known stream t).head_out ≡ (course known stream (e ∷ t)).head_out
out_stays known stream t e none =
    let old : Course = course known stream t in
    sym (ap (λ c. if is_some old.cause then old.head_out else is_some c && list_any is_final (items_on stream (sent t))) none ∙ by old.cause refl)
  where
    by : (c : Option Cause) → (course known stream t).cause ≡ c → (if is_some c then (course known stream t).head_out else false) ≡ (course known stream t).head_out
    by None e = sym (not_out known stream t e)
    by (Some c) e = refl

-- without a cause no heads were kept
pub no_heads : (known : Known) (stream : ℕ) (t : List Entry) → (course known stream t).cause ≡ None → (course known stream t).heads_out ≡ []
no_heads known stream [] e = refl
no_heads known stream (x ∷ t) e = by (course known stream t).cause (course known stream t).heads_out (cause_of known stream t x) (heads_in (items_on stream (sent t))) e
  where
    by : (old : Option Cause) (out : List Head) (new : Option Cause) (now : List Head) → first_of_both old new ≡ None → (if is_some old then out else (if is_some new then now else [])) ≡ []
    by None out None now e = refl
    by None out (Some c) now e = let clash : ◌≡◌ {A = Option Cause} (Some c) None = e in cc
    by (Some c) out new now e = let clash : ◌≡◌ {A = Option Cause} (Some c) None = e in cc

pub heads_stay : (known : Known) (stream : ℕ) (t : List Entry) (e : Entry) → cause_of known stream t e ≡ None → (course known stream t).heads_out ≡ (course known stream (e ∷ t)).heads_out
heads_stay known stream t e none =
    let old : Course = course known stream t in
    sym (ap (λ c. if is_some old.cause then old.heads_out else (if is_some c then heads_in (items_on stream (sent t)) else [])) none ∙ by old.cause refl)
  where
    by : (c : Option Cause) → (course known stream t).cause ≡ c → (if is_some c then (course known stream t).heads_out else []) ≡ (course known stream t).heads_out
    by None e = sym (no_heads known stream t e)
    by (Some c) e = refl

-- behind a cause both stay
pub out_with_cause : (known : Known) (stream : ℕ) (t : List Entry) (e : Entry) (found : Cause) → (course known stream t).cause ≡ Some found → (course known stream t).head_out ≡ (course known stream (e ∷ t)).head_out
out_with_cause known stream t e found is =
    sym (ap (λ c. if is_some c then (course known stream t).head_out else is_some (cause_of known stream t e) && list_any is_final (items_on stream (sent t))) is)

pub heads_with_cause : (known : Known) (stream : ℕ) (t : List Entry) (e : Entry) (found : Cause) → (course known stream t).cause ≡ Some found → (course known stream t).heads_out ≡ (course known stream (e ∷ t)).heads_out
heads_with_cause known stream t e found is =
    sym (ap (λ c. if is_some c then (course known stream t).heads_out else (if is_some (cause_of known stream t e) then heads_in (items_on stream (sent t)) else [])) is)

-- the first item tells the method
first_tells : (b : Bool) (xs ys : List Item) → (xs ≡ [] → ⊥) → is_to_head xs ≡ is_to_head (if b then xs else xs ++ ys)
first_tells true xs ys some = refl
first_tells false [] ys some = absurd (some refl)
first_tells false (Block fields ends ∷ xs) ys some = refl
first_tells false (Content octets ends ∷ xs) ys some = refl

none_added : (b : Bool) (xs ys : List Item) → ys ≡ [] → xs ≡ (if b then xs else xs ++ ys)
none_added true xs ys e = refl
none_added false xs ys e = sym (ap (λ l. xs ++ l) e ∙ append-nil xs)

-- where something came on the stream the method stays
pub head_stays : (known : Known) (stream : ℕ) (t : List Entry) (e : Entry) → (items known stream t ≡ [] → ⊥) → is_to_head (items known stream t) ≡ is_to_head (items known stream (e ∷ t))
head_stays known stream t e some =
    first_tells ((course known stream t).over || interrupts stream e (fault_with (own_window known.setup) (carried (course known stream t)) t e) (cause_of known stream t e)) (items known stream t) (items_of stream t e) some

pub items_stay : (known : Known) (stream : ℕ) (t : List Entry) (e : Entry) → items_of stream t e ≡ [] → items known stream t ≡ items known stream (e ∷ t)
items_stay known stream t e none =
    none_added ((course known stream t).over || interrupts stream e (fault_with (own_window known.setup) (carried (course known stream t)) t e) (cause_of known stream t e)) (items known stream t) (items_of stream t e) none

-- ---- entries of each kind

no_cause_if : (b : Bool) → (if b then None else None) ≡ (let none : Option Cause = None in none)
no_cause_if true = refl
no_cause_if false = refl

pub none_by_sent : (known : Known) (stream : ℕ) (t : List Entry) (noted : Noted) → cause_of known stream t (Sent noted) ≡ None
none_by_sent known stream t noted = no_cause_if (0 == stream && nat_lt 0 stream)

pub none_by_did : (known : Known) (stream : ℕ) (t : List Entry) (act : Act) → cause_of known stream t (Did act) ≡ None
none_by_did known stream t act = no_cause_if (0 == stream && nat_lt 0 stream)

none_by_breach : (known : Known) (stream : ℕ) (t : List Entry) (breach : Breach) → cause_of known stream t (Breached breach) ≡ None
none_by_breach known stream t breach = no_cause_if (0 == stream && nat_lt 0 stream)

-- a frame is sent: whatever it is
pub sent_quiet : (known : Known) (t : List Entry) (noted : Noted) (stream : ℕ) → SameOffer known t (Sent noted ∷ t) stream
sent_quiet known t noted stream = record {
  cause = cause_stays known stream t (Sent noted) (none_by_sent known stream t noted);
  out = out_stays known stream t (Sent noted) (none_by_sent known stream t noted);
  heads = heads_stay known stream t (Sent noted) (none_by_sent known stream t noted);
  there = λ o g. record { is_opened = g.is_opened; is_given = g.is_given };
  back = λ o g. record { is_opened = g.is_opened; is_given = g.is_given };
  head = λ o g. ap is_to_head (items_stay known stream t (Sent noted) refl);
  still = λ o g d shown. shown;
}

pub breach_quiet : (known : Known) (t : List Entry) (breach : Breach) (stream : ℕ) → SameOffer known t (Breached breach ∷ t) stream
breach_quiet known t breach stream = record {
  cause = cause_stays known stream t (Breached breach) (none_by_breach known stream t breach);
  out = out_stays known stream t (Breached breach) (none_by_breach known stream t breach);
  heads = heads_stay known stream t (Breached breach) (none_by_breach known stream t breach);
  there = λ o g. record { is_opened = g.is_opened; is_given = g.is_given };
  back = λ o g. record { is_opened = g.is_opened; is_given = g.is_given };
  head = λ o g. ap is_to_head (items_stay known stream t (Breached breach) refl);
  still = λ o g d shown. shown;
}

-- an act that begins no exchange of the stream
acts_quiet : (known : Known) (t : List Entry) (act : Act) (stream : ℕ) → ((o : Opened) → IsIn o (exchanges t) → IsIn o (exchanges (Did act ∷ t))) → ((o : Opened) → o.stream ≡ stream → IsIn o (exchanges (Did act ∷ t)) → IsIn o (exchanges t)) → SameOffer known t (Did act ∷ t) stream
acts_quiet known t act stream there back = record {
  cause = cause_stays known stream t (Did act) (none_by_did known stream t act);
  out = out_stays known stream t (Did act) (none_by_did known stream t act);
  heads = heads_stay known stream t (Did act) (none_by_did known stream t act);
  there = λ o g. record { is_opened = there o g.is_opened; is_given = g.is_given };
  back = λ o g. record { is_opened = back o g.is_given g.is_opened; is_given = g.is_given };
  head = λ o g. ap is_to_head (items_stay known stream t (Did act) refl);
  still = λ o g d shown. shown;
}

-- one that begins none
pub act_quiet : (known : Known) (t : List Entry) (act : Act) (stream : ℕ) → exchanges (Did act ∷ t) ≡ exchanges t → SameOffer known t (Did act ∷ t) stream
act_quiet known t act stream same = acts_quiet known t act stream (λ o i. subst (IsIn o) (sym same) i) (λ o its i. subst (IsIn o) same i)

-- one that begins another stream's
pub begins_quiet : (known : Known) (t : List Entry) (act : Act) (stream : ℕ) (new : Opened) → exchanges (Did act ∷ t) ≡ new ∷ exchanges t → (new.stream ≡ stream → ⊥) → SameOffer known t (Did act ∷ t) stream
begins_quiet known t act stream new now other = acts_quiet known t act stream
    (λ o i. subst (IsIn o) (sym now) (inr i))
    (λ o its i. elim (subst (IsIn o) now i) [
      | inl is ↦ absurd (other (sym (ap (λ (x : Opened). x.stream) is) ∙ its))
      | inr old ↦ old
    ])

-- a frame of the client that is no cause for the stream
pub came_quiet : (known : Known) (t : List Entry) (noted : Noted) (stream : ℕ) → (course known stream t).cause ≡ (course known stream (Came noted ∷ t)).cause → (course known stream t).head_out ≡ (course known stream (Came noted ∷ t)).head_out → (course known stream t).heads_out ≡ (course known stream (Came noted ∷ t)).heads_out → ((o : Opened) → IsIn o (exchanges t) → items known o.stream t ≡ [] → ⊥) → SameOffer known t (Came noted ∷ t) stream
came_quiet known t noted stream cause out heads begun = record {
  cause = cause;
  out = out;
  heads = heads;
  there = λ o g. record { is_opened = g.is_opened; is_given = g.is_given };
  back = λ o g. record { is_opened = g.is_opened; is_given = g.is_given };
  head = λ o g. head_stays known stream t (Came noted) (λ e. begun o g.is_opened (ap (λ n. items known n t) g.is_given ∙ e));
  still = λ o g d shown. shown;
}

-- a frame on another stream
pub none_by_other : (known : Known) (stream : ℕ) (t : List Entry) (noted : Noted) → (noted.frame.id ≡ stream → ⊥) → cause_of known stream t (Came noted) ≡ None
none_by_other known stream t noted other =
    ap (λ b. if b && nat_lt 0 stream then cause_at known (course known stream t) t (Came noted) (fault_with (own_window known.setup) (carried (course known stream t)) t (Came noted)) else None) (ne_eqb noted.frame.id stream other)

-- ---- events

-- the event isn't of the exchange: of another connection, or of one that another stream was given since
abbrev pub IsBeside : List Entry → Event → Opened → Type 0
IsBeside t event o = o.k ≡ upstream_of event → o.stream ≡ about t (Happened event) → ⊥

beside : (o : Opened) (k stream : ℕ) → (o.k ≡ k → o.stream ≡ stream → ⊥) → is_of o k stream ≡ false
beside o k stream other = elim (eqb_tells o.k k) [
  | inl x ↦ ap (λ b. b && o.stream == stream) x.0 ∙ ne_eqb o.stream stream (other x.1)
  | inr x ↦ ap (λ b. b && o.stream == stream) x.0
]

pub heard_same : (t : List Entry) (event : Event) (o : Opened) → IsBeside t event o → heard_by o t ≡ heard_by o (Happened event ∷ t)
heard_same t (Client piece) o other = refl
heard_same t ClientEnd o other = refl
heard_same t (ClientTook count) o other = refl
heard_same t (Up k piece) o other = sym (ap (λ b. if b then heard_by o t ++ piece else heard_by o t) (beside o k (given k (exchanges t)) other))
heard_same t (UpEnd k) o other = refl
heard_same t (UpFailed k) o other = refl
heard_same t (UpTook k count) o other = refl
heard_same t Drain o other = refl

ended_same : (t : List Entry) (event : Event) (o : Opened) → IsBeside t event o → ended_by o t ≡ ended_by o (Happened event ∷ t)
ended_same t (Client piece) o other = refl
ended_same t ClientEnd o other = refl
ended_same t (ClientTook count) o other = refl
ended_same t (Up k piece) o other = refl
ended_same t (UpEnd k) o other = sym (ap (λ b. if b then true else ended_by o t) (beside o k (given k (exchanges t)) other))
ended_same t (UpFailed k) o other = refl
ended_same t (UpTook k count) o other = refl
ended_same t Drain o other = refl

-- What is shown of an answer before the event is shown behind it, where the request is of this stream.
abbrev pub StaysShown : Known → List Entry → Event → Opened → ℕ → Type 0
StaysShown known t event o stream =
    (d : Delivery) → IsShown known.setup.passing (heard_by o t) (ended_by o t) (is_to_head (items known stream t)) d → IsShown known.setup.passing (heard_by o (Happened event ∷ t)) (ended_by o (Happened event ∷ t)) (is_to_head (items known stream t)) d

pub shown_beside : (known : Known) (t : List Entry) (event : Event) (o : Opened) (stream : ℕ) → IsBeside t event o → StaysShown known t event o stream
shown_beside known t event o stream other d shown =
    subst (λ x. IsShown known.setup.passing (heard_by o (Happened event ∷ t)) x (is_to_head (items known stream t)) d) (ended_same t event o other)
    (subst (λ x. IsShown known.setup.passing x (ended_by o t) (is_to_head (items known stream t)) d) (heard_same t event o other) shown)

-- an event that is no cause for the stream, and leaves what is shown of its exchanges
pub event_quiet : (known : Known) (t : List Entry) (event : Event) (stream : ℕ) → cause_of known stream t (Happened event) ≡ None → ((o : Opened) → IsGiven t stream o → StaysShown known t event o stream) → SameOffer known t (Happened event ∷ t) stream
event_quiet known t event stream none still = record {
  cause = cause_stays known stream t (Happened event) none;
  out = out_stays known stream t (Happened event) none;
  heads = heads_stay known stream t (Happened event) none;
  there = λ o g. record { is_opened = g.is_opened; is_given = g.is_given };
  back = λ o g. record { is_opened = g.is_opened; is_given = g.is_given };
  head = λ o g. ap is_to_head (items_stay known stream t (Happened event) refl);
  still = still;
}

-- no stream was given a connection 0
given_zero : (os : List Opened) → ((o : Opened) → IsIn o os → 0 < o.k) → given 0 os ≡ 0
given_zero os counted = by (given 0 os) refl
  where
    by : (n : ℕ) → given 0 os ≡ n → n ≡ 0
    by zero e = refl
    by (suc n) e = let above : 0 < 0 = counted (record { k = 0; route = route_of 0 os; stream = given 0 os }) (given_in 0 os (λ none. let clash : suc n ≡ 0 = sym e ∙ none in omega (arith, clash))) in omega (arith, above)

-- the event is of no connection
pub none_of_nobody : (known : Known) (stream : ℕ) (t : List Entry) (event : Event) → ((o : Opened) → IsIn o (exchanges t) → 0 < o.k) → upstream_of event ≡ 0 → cause_of known stream t (Happened event) ≡ None
none_of_nobody known stream t event counted nobody =
    let about_is : about t (Happened event) ≡ 0 = ap (λ n. given n (exchanges t)) nobody ∙ given_zero (exchanges t) counted in
    ap (λ n. if n == stream && nat_lt 0 stream then cause_if (fails_behind known t) BadAnswer else None) about_is ∙ nobodys stream (cause_if (fails_behind known t) BadAnswer)
  where
    nobodys : (stream : ℕ) (c : Option Cause) → (if 0 == stream && nat_lt 0 stream then c else None) ≡ None
    nobodys zero c = refl
    nobodys (suc n) c = ap (λ b. if b && nat_lt 0 (suc n) then c else None) (ne_eqb 0 (suc n) (λ e. omega (arith, e)))

-- no answer fails with the event
pub none_unless_fails : (known : Known) (stream : ℕ) (t : List Entry) (event : Event) → fails_behind known t ≡ false → cause_of known stream t (Happened event) ≡ None
none_unless_fails known stream t event holds =
    ap (λ b. if about t (Happened event) == stream && nat_lt 0 stream then cause_if b BadAnswer else None) holds ∙ no_cause_if (about t (Happened event) == stream && nat_lt 0 stream)

-- the event is of another stream's connection
pub none_elsewhere : (known : Known) (stream : ℕ) (t : List Entry) (event : Event) → (about t (Happened event) ≡ stream → ⊥) → cause_of known stream t (Happened event) ≡ None
none_elsewhere known stream t event other =
    ap (λ b. if b && nat_lt 0 stream then cause_if (fails_behind known t) BadAnswer else None) (ne_eqb (about t (Happened event)) stream other)
