-- Answers fail at the same events, and the same octets of an upstream may come.
use Rattle.std.proofs.Common.{◌≡◌, ℕ, Bool, true, false, not, List, [], ◌∷◌, length, sym, ap, ◌∙◌, subst, inr}
use Rattle.std.specs.Prelude.{nat_le, ◌-◌}
use Rattle.std.proofs.lemmas.Bool.{and_parts}
use Rattle.model.specs.Logs.{Event}
use Rattle.model.specs.Logs.Event.{Client, ClientEnd, ClientTook, Up, UpEnd, UpFailed, UpTook, Drain}
use Rattle.model.specs.Setup.{Passing}
use Rattle.model.specs.Setup.Passing.{Whole, Streaming}
use Rattle.model.specs.Tapes.{Entry, sent, is_closed}
use Rattle.model.specs.Tapes.Entry.{Came, Breached, Happened, Sent, Did}
use Rattle.model.specs.Responses.{IsComplete, Seen}
use Rattle.model.specs.Admission.{is_open, room, is_in_order, is_admitted}
use Rattle.model.specs.Openings.{Opened, exchange_on, exchanges, given}
use Rattle.model.specs.Available.{heard_by}
use Rattle.model.specs.Known.{Known, fails_behind}
use Rattle.model.specs.Courses.{Course}
use Rattle.model.specs.WindowsOnTape.{is_on, data_octets}
use Rattle.model.specs.Offers.{is_to_head}
use Rattle.model.specs.Idle.{is_asked_for_head}
use Rattle.model.specs.Failures.{IsBroken, IsPlainlyBroken, MayFail, MustFail, IsJudged, AreJudged}
use Rattle.model.specs.Rooms.{IsRoom, FitsRoom, IsAdmitted}
use Rattle.model.proofs.ExchangeLaws.{no_idle}
use Rattle.one_exchange.specs.Connections.{heard}
use Rattle.one_exchange.specs.Courses.{course_once}
use Rattle.one_exchange.specs.Failures.{asks_once, MayFailOnce, MustFailOnce, IsJudgedOnce, AreJudgedOnce}
use Rattle.one_exchange.specs.Rooms.{IsRoomOnce, FitsRoomOnce, IsAdmittedOnce}
use Rattle.one_exchange.proofs.Alone.{Stands, before, one_each, heard_is, open_is_in}
use Rattle.one_exchange.proofs.Courses.{course_is}

-- octets, or the end, of an upstream may come of an open one alone
pub up_open : (t : List Entry) (k : ℕ) (piece : List ℕ) → is_admitted t (Up k piece) ≡ true → is_open k t ≡ true
up_open t k piece may = (and_parts (is_open k t) (nat_le (length piece) (room k t)) (and_parts (not (is_closed t)) (is_in_order t (Up k piece)) may).1).0

pub end_open : (t : List Entry) (k : ℕ) → is_admitted t (UpEnd k) ≡ true → is_open k t ≡ true
end_open t k may = (and_parts (not (is_closed t)) (is_in_order t (UpEnd k)) may).1

module _ (known : Known) (t : List Entry) (s : Stands known t) where
  asks_is : (k : ℕ) → is_asked_for_head known (exchange_on k t) t ≡ asks_once known k t
  asks_is k =
      sym (ap (λ (c : Course). is_to_head c.items) (course_is known (given k (exchanges t)) t s))
      ∙ ap (λ (os : List Opened). is_to_head (course_once known (given k os) t).items) (one_each known t s)

  heard_on : (k : ℕ) → is_open k t ≡ true → heard_by (exchange_on k t) t ≡ heard k t
  heard_on k on = heard_is known t s (exchange_on k t) (open_is_in known t s k on)

  -- ---- rooms

  room_now : (passing : Passing) (k count : ℕ) → is_open k t ≡ true → IsRoomOnce passing known k t count → IsRoom passing known k t count
  room_now Whole k count on r = r
  room_now Streaming k count on r = inr (
    no_idle known t k s.off,
    record {
      interims = r.interims;
      head = r.head;
      octets = r.octets;
      seen = subst (λ X. X) (λ i. Seen (sym (heard_on k on) i) (sym (asks_is k) i) r.interims r.head r.octets) r.seen;
      is = r.is ∙ ap (λ (os : List Opened). room k t - (length r.octets - data_octets (is_on (given k os)) (sent t))) (sym (one_each known t s));
    },
  )

  fits_once : (event : Event) → is_admitted t event ≡ true → FitsRoom known t event → FitsRoomOnce known t event
  fits_once (Up k piece) may h = λ count r. h count (room_now known.setup.passing k count (up_open t k piece may) r)
  fits_once (Client piece) may h = tt
  fits_once ClientEnd may h = tt
  fits_once (ClientTook count) may h = tt
  fits_once (UpEnd k) may h = tt
  fits_once (UpFailed k) may h = tt
  fits_once (UpTook k count) may h = tt
  fits_once Drain may h = tt

  pub admitted_once : (event : Event) → IsAdmitted known t event → IsAdmittedOnce known t event
  admitted_once event a = record { in_order = a.in_order; fits = fits_once event a.in_order a.fits }

module _ (known : Known) (t : List Entry) where
  -- ---- failures

  heard_with : (k : ℕ) (piece : List ℕ) → Stands known (Happened (Up k piece) ∷ t) → heard_by (exchange_on k t) (Happened (Up k piece) ∷ t) ≡ heard k (Happened (Up k piece) ∷ t)
  heard_with k piece s =
      heard_is known (Happened (Up k piece) ∷ t) s (exchange_on k t) (open_is_in known t (before known (Happened (Up k piece)) t s) k s.comes.0)

  ends_is : (k : ℕ) → Stands known (Happened (UpEnd k) ∷ t) → (let o = exchange_on k t in IsComplete (heard_by o t) true (is_asked_for_head known o t)) ≡ IsComplete (heard k t) true (asks_once known k t)
  ends_is k s = let was = before known (Happened (UpEnd k)) t s in λ i. IsComplete (heard_on known t was k s.comes.0 i) true (asks_is known t was k i)

  may_once : (event : Event) → Stands known (Happened event ∷ t) → MayFail known t event → MayFailOnce known t event
  may_once (Up k piece) s h =
      let was = before known (Happened (Up k piece)) t s in
      subst (λ X. X) (λ i. IsBroken known (heard_with k piece s i) (asks_is known t was k i)) h
  may_once (UpEnd k) s h = λ whole. h (subst (λ X. X) (sym (ends_is k s)) whole)
  may_once (UpFailed k) s h = tt
  may_once (Client piece) s h = absurd h
  may_once ClientEnd s h = absurd h
  may_once (ClientTook count) s h = absurd h
  may_once (UpTook k count) s h = absurd h
  may_once Drain s h = absurd h

  must_now : (event : Event) → Stands known (Happened event ∷ t) → MustFailOnce known t event → MustFail known t event
  must_now (Up k piece) s h =
      let was = before known (Happened (Up k piece)) t s in
      subst (λ X. X) (sym (λ i. IsPlainlyBroken known (heard_with k piece s i) (asks_is known t was k i))) h
  must_now (UpEnd k) s h = λ whole. h (subst (λ X. X) (ends_is k s) whole)
  must_now (UpFailed k) s h = no_idle known t k s.off
  must_now (Client piece) s h = absurd h
  must_now ClientEnd s h = absurd h
  must_now (ClientTook count) s h = absurd h
  must_now (UpTook k count) s h = absurd h
  must_now Drain s h = absurd h

  judged_once : (event : Event) (fails : Bool) → Stands known (Happened event ∷ t) → IsJudged known t event fails → IsJudgedOnce known t event fails
  judged_once event true s h = may_once event s h
  judged_once event false s h = λ must. h (must_now event s must)

pub are_judged : (known : Known) (t : List Entry) → Stands known t → AreJudged known t → AreJudgedOnce known t
are_judged known [] s h = tt
are_judged known (Came noted ∷ t) s h = are_judged known t (before known (Came noted) t s) h
are_judged known (Breached breach ∷ t) s h = are_judged known t (before known (Breached breach) t s) h
are_judged known (Happened event ∷ t) s h = (judged_once known t event (fails_behind known t) s h.0, are_judged known t (before known (Happened event) t s) h.1)
are_judged known (Sent noted ∷ t) s h = are_judged known t (before known (Sent noted) t s) h
are_judged known (Did act ∷ t) s h = are_judged known t (before known (Did act) t s) h
