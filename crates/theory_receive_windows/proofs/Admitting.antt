-- Which event may come, and how many octets of an upstream, by the state as by the tape.
use Rattle.std.proofs.Common.{◌≡◌, ℕ, ◌+◌, ◌-◌, ◌≤◌, Bool, true, false, not, ◌&&◌, List, length, refl, sym, ap, subst, ◌∙◌, arith, if◌then◌else◌, inl, inr}
use Rattle.std.specs.Prelude.{nat_le}
use Rattle.std.proofs.lemmas.Bool.{leb-true, le-leb, and_parts, and_from}
use Rattle.model.specs.Logs.{Event}
use Rattle.model.specs.Logs.Event.{Client, ClientEnd, ClientTook, Up, UpEnd, UpFailed, UpTook, Drain}
use Rattle.model.specs.Setup.{Passing}
use Rattle.model.specs.Setup.Passing.{Whole, Streaming}
use Rattle.model.specs.Tapes.{Entry, sent, is_closed}
use Rattle.model.specs.Openings.{exchanges, given, exchange_on}
use Rattle.model.specs.WindowsOnTape.{is_on, data_octets}
use Rattle.model.specs.Known.{Known}
use Rattle.model.specs.Admission.{untaken_up, is_open, room, is_in_order, is_admitted}
use Rattle.model.specs.Rooms.{IsRoom, FitsRoom, IsAdmitted, HasRoomBeside}
use Rattle.model.proofs.SeenLaws.{one_seen}
use Rattle.theory_receive_windows.specs.State.{State}
use Rattle.theory_receive_windows.specs.Policy.{Gates, AreGates, gates_on, room_in, may_come, admits}
use Rattle.theory_receive_windows.specs.Rooms.{HoldsBody, IsHeld, AreHeld, room_left, fits, admits_beside}
use Rattle.theory_receive_windows.proofs.Counting.{Counting}

-- ---- the event's own numbers

-- the same test, with what was taken added on both sides
shifted : (taken count left out : ℕ) → left + taken ≡ out → nat_le (taken + count) out ≡ nat_le count left
shifted taken count left out e = by (nat_le count left) refl (nat_le (taken + count) out) refl
  where
    by : (b : Bool) → nat_le count left ≡ b → (d : Bool) → nat_le (taken + count) out ≡ d → d ≡ b
    by true f true g = refl
    by false f false g = refl
    by true f false g = let le = leb-true count left f in let no : true ≡ false = sym (le-leb (taken + count) out (omega (arith, le, e))) ∙ g in absurd (cc)
    by false f true g = let le = leb-true (taken + count) out g in let no : true ≡ false = sym (le-leb count left (omega (arith, le, e))) ∙ f in absurd (cc)

module _ (t : List Entry) (s : State) (gates : Gates) (told : AreGates t gates) where
  -- the room of an upstream, but for what is held
  pub room_same : (k : ℕ) → room_in gates k ≡ room k t
  room_same k = ap (λ b. if b then 65536 else 0) (told.is_up k)

  -- what is told is what the tape tells
  pub come_same : (event : Event) → may_come gates s event ≡ may_come (gates_on t) s event
  come_same (Client piece) = ap (λ n. nat_le (length piece) 65536 && nat_le n 1073741824) told.untaken
  come_same ClientEnd = refl
  come_same (ClientTook count) = ap (λ n. nat_le count n) told.untaken
  come_same (Up k piece) = ap (λ b. b && nat_le (length piece) (if b then 65536 else 0)) (told.is_up k)
  come_same (UpEnd k) = told.is_up k
  come_same (UpFailed k) = told.is_up k
  come_same (UpTook k count) = ap (λ b. b && nat_le (s.took k + count) (s.out k)) (told.is_up k)
  come_same Drain = refl

  -- which event may come
  pub admits_same : (event : Event) → Counting t s → admits gates s event ≡ is_admitted t event
  admits_same event c = ap (λ b. not b && may_come gates s event) told.closed ∙ ap (λ b. not (is_closed t) && b) (come_same event ∙ in_order event)
    where
      in_order : (event : Event) → may_come (gates_on t) s event ≡ is_in_order t event
      in_order (Client piece) = refl
      in_order ClientEnd = refl
      in_order (ClientTook count) = refl
      in_order (Up k piece) = refl
      in_order (UpEnd k) = refl
      in_order (UpFailed k) = refl
      in_order (UpTook k count) = ap (λ b. is_open k t && b) (shifted (s.took k) count (untaken_up k t) (s.out k) (c.left k))
      in_order Drain = refl

-- ---- the room of an upstream

module _ (known : Known) (t : List Entry) (s : State) (gates : Gates) (told : AreGates t gates) (held : ℕ → ℕ) (c : Counting t s) where
  beside : (k : ℕ) → HoldsBody known (exchange_on k t) t (held k) → HasRoomBeside known (exchange_on k t) t (room_left gates held k)
  beside k h = record {
    interims = h.interims;
    head = h.head;
    octets = h.octets;
    seen = h.seen;
    is = ap (λ n. room_in gates k - n) h.is ∙ ap (λ n. n - (length h.octets - data_octets (is_on (given k (exchanges t))) (sent t))) (room_same t s gates told k);
  }

  -- the room that is left is the tape's
  pub is_room : (passing : Passing) (k : ℕ) → IsHeld passing known t k (held k) → IsRoom passing known k t (room_left gates held k)
  is_room Whole k h = ap (λ n. room_in gates k - n) h ∙ none (room_in gates k) ∙ room_same t s gates told k
    where
      none : (n : ℕ) → n - 0 ≡ n
      none n = omega arith
  is_room Streaming k (inl idle) = inl (idle.0, ap (λ n. room_in gates k - n) idle.1 ∙ none (room_in gates k) ∙ room_same t s gates told k)
    where
      none : (n : ℕ) → n - 0 ≡ n
      none n = omega arith
  is_room Streaming k (inr (busy, h)) = inr (busy, beside k h)

  -- and the only one
  one_room : (passing : Passing) (k count : ℕ) → IsHeld passing known t k (held k) → IsRoom passing known k t count → count ≡ room_left gates held k
  one_room Whole k count h r = r ∙ sym (is_room Whole k h)
  one_room Streaming k count (inl idle) (inl r) = r.1 ∙ sym (is_room Whole k idle.1)
  one_room Streaming k count (inl idle) (inr r) = absurd (r.0 idle.0)
  one_room Streaming k count (inr h) (inl r) = absurd (h.0 r.0)
  one_room Streaming k count (inr (busy, h)) (inr (busy', r)) =
      let mine = beside k h in
      let same : r.octets ≡ mine.octets = (one_seen _ _ r.interims mine.interims r.head mine.head r.octets mine.octets r.seen mine.seen).octets in
      r.is ∙ ap (λ (octets : List ℕ). room k t - (length octets - data_octets (is_on (given k (exchanges t))) (sent t))) same ∙ sym mine.is

  -- an upstream of which octets may come is open
  is_open_there : (k : ℕ) (piece : List ℕ) → is_admitted t (Up k piece) ≡ true → is_open k t ≡ true
  is_open_there k piece may = (and_parts (is_open k t) (nat_le (length piece) (room k t)) (and_parts (not (is_closed t)) (is_in_order t (Up k piece)) may).1).0

  -- what fits by the state fits by the tape
  fits_room : (event : Event) → AreHeld known t held event → is_admitted t event ≡ true → fits gates held event ≡ true → FitsRoom known t event
  fits_room (Up k piece) h may ok = λ count r. let le = leb-true (length piece) (room_left gates held k) ok in subst (λ (n : ℕ). length piece ≤ n) (sym (one_room known.setup.passing k count (h (is_open_there k piece may)) r)) le
  fits_room (Client piece) h may ok = tt
  fits_room ClientEnd h may ok = tt
  fits_room (ClientTook count) h may ok = tt
  fits_room (UpEnd k) h may ok = tt
  fits_room (UpFailed k) h may ok = tt
  fits_room (UpTook k count) h may ok = tt
  fits_room Drain h may ok = tt

  -- and the other way round
  room_fits : (event : Event) → AreHeld known t held event → is_admitted t event ≡ true → FitsRoom known t event → fits gates held event ≡ true
  room_fits (Up k piece) h may f = le-leb (length piece) (room_left gates held k) (f (room_left gates held k) (is_room known.setup.passing k (h (is_open_there k piece may))))
  room_fits (Client piece) h may f = refl
  room_fits ClientEnd h may f = refl
  room_fits (ClientTook count) h may f = refl
  room_fits (UpEnd k) h may f = refl
  room_fits (UpFailed k) h may f = refl
  room_fits (UpTook k count) h may f = refl
  room_fits Drain h may f = refl

  -- The event may come by the state just where it may by the tape.
  pub admitted : (event : Event) → AreHeld known t held event → admits_beside gates s held event ≡ true → IsAdmitted known t event
  admitted event h ok =
      let parts = and_parts (admits gates s event) (fits gates held event) ok in
      let may : is_admitted t event ≡ true = sym (admits_same t s gates told event c) ∙ parts.0 in
      record { in_order = may; fits = fits_room event h may parts.1 }

  -- The other way round.
  pub admits_it : (event : Event) → AreHeld known t held event → IsAdmitted known t event → admits_beside gates s held event ≡ true
  admits_it event h may = and_from (admits gates s event) (fits gates held event) (admits_same t s gates told event c ∙ may.in_order) (room_fits event h may.in_order may.fits)
