-- What is open, what was put out and what of it was taken, by the state as by the tape.
use Rattle.std.proofs.Common.{◌≡◌, ℕ, ◌+◌, ◌-◌, ◌≤◌, Bool, true, false, ◌==◌, List, [], ◌∷◌, ◌++◌, length, refl, sym, ap, ◌∙◌, subst, arith, length-append, if◌then◌else◌, inl, inr}
use Rattle.std.specs.Prelude.{nat_le}
use Rattle.std.proofs.lemmas.Bool.{and_parts, leb-true, ne_eqb}
use Rattle.std.proofs.lemmas.Bool.Decides.{eqb_tells}
use Rattle.model.specs.Logs.{Event, Act}
use Rattle.model.specs.Logs.Event.{Client, ClientEnd, ClientTook, Up, UpEnd, UpFailed, UpTook, Drain}
use Rattle.model.specs.Logs.Act.{Open, ToUp, Close, CloseClient}
use Rattle.model.specs.Setup.{Passing}
use Rattle.model.specs.Tapes.{Noted, Entry, sent_up}
use Rattle.model.specs.Tapes.Entry.{Happened, Sent, Did}
use Rattle.model.specs.Admission.{untaken_up, is_open}
use Rattle.model.specs.Openings.{last_stream}
use Rattle.model.specs.WindowClause.{taken}
use Rattle.theory_receive_windows.specs.State.{State, Move, start, after, entries_of, add, with_event, settle_by, must_wait, with_given}
use Rattle.theory_receive_windows.specs.State.Move.{Takes, Breaks, Hears, Settles, Gives, Sends, Uses, Acts}
use Rattle.theory_receive_windows.specs.Policy.{gates_on, may_come, Holds}

-- The counts are those of the tape.
pub record Counting (t : List Entry) (s : State) : Type 0 where
  pub out : (k : ℕ) → s.out k ≡ length (sent_up k t)
  pub took : (k : ℕ) → s.took k ≡ taken k t
  pub within : (k : ℕ) → s.took k ≤ s.out k
  pub left : (k : ℕ) → untaken_up k t + s.took k ≡ s.out k
  pub last : s.stream ≡ last_stream t
  -- no connection has the number 0
  pub none_up : is_open 0 t ≡ false
  pub none_out : s.out 0 ≡ 0
  pub none_took : s.took 0 ≡ 0

-- nothing came
pub counting_start : (more : ℕ) → Counting [] (start more)
counting_start more = record {
  out = λ k. refl;
  took = λ k. refl;
  within = λ k. omega arith;
  left = λ k. refl;
  last = refl;
  none_up = refl;
  none_out = refl;
  none_took = refl;
}

-- ---- events

-- a number that is open isn't 0
up_counted : (t : List Entry) (s : State) (k : ℕ) → Counting t s → is_open k t ≡ true → (0 == k) ≡ false
up_counted t s k c up = ne_eqb 0 k (λ zero. absurd (let no : false ≡ true = sym c.none_up ∙ ap (λ n. is_open n t) zero ∙ up in cc))

-- an upstream's side took octets that were put out for it
counting_taken : (t : List Entry) (s : State) (k count : ℕ) → Counting t s → is_open k t ≡ true → s.took k + count ≤ s.out k → Counting (Happened (UpTook k count) ∷ t) (with_event s (UpTook k count))
counting_taken t s k count c up fits = record {
  out = c.out;
  took = λ j. took (j == k) j (c.took j);
  within = λ j. elim (eqb_tells j k) [
    | inl is ↦ (
        let here : s.took j + count ≤ s.out j = subst (λ (n : ℕ). s.took n + count ≤ s.out n) (sym is.1) fits in
        subst (λ (n : ℕ). n ≤ s.out j) (sym (ap (λ b. if b then s.took j + count else s.took j) is.0)) here
        )
    | inr off ↦ subst (λ (n : ℕ). n ≤ s.out j) (sym (ap (λ b. if b then s.took j + count else s.took j) off.0)) (c.within j)
  ];
  left = λ j. elim (eqb_tells j k) [
    | inl is ↦ (
        let here : s.took j + count ≤ s.out j = subst (λ (n : ℕ). s.took n + count ≤ s.out n) (sym is.1) fits in
        let before = c.left j in
        let sum : (untaken_up j t - count) + (s.took j + count) ≡ s.out j = omega (arith, here, before) in
        ap (λ b. (if b then untaken_up j t - count else untaken_up j t) + (if b then s.took j + count else s.took j)) is.0 ∙ sum
        )
    | inr off ↦ ap (λ b. (if b then untaken_up j t - count else untaken_up j t) + (if b then s.took j + count else s.took j)) off.0 ∙ c.left j
  ];
  last = c.last;
  none_up = c.none_up;
  none_out = c.none_out;
  none_took = ap (λ b. if b then s.took 0 + count else s.took 0) (up_counted t s k c up) ∙ c.none_took;
}
  where
    took : (b : Bool) (j : ℕ) → s.took j ≡ taken j t → (if b then s.took j + count else s.took j) ≡ (if b then taken j t + count else taken j t)
    took true j e = ap (λ n. n + count) e
    took false j e = e

-- an upstream failed
counting_failed : (t : List Entry) (s : State) (k : ℕ) → Counting t s → Counting (Happened (UpFailed k) ∷ t) (with_event s (UpFailed k))
counting_failed t s k c = record {
  out = c.out;
  took = c.took;
  within = c.within;
  left = c.left;
  last = c.last;
  none_up = shut (0 == k) c.none_up;
  none_out = c.none_out;
  none_took = c.none_took;
}
  where
    shut : (b : Bool) → is_open 0 t ≡ false → (if b then false else is_open 0 t) ≡ false
    shut true e = refl
    shut false e = e

-- any event that may come
counting_event : (t : List Entry) (s : State) (event : Event) → Counting t s → may_come (gates_on t) s event ≡ true → Counting (Happened event ∷ t) (with_event s event)
counting_event t s (Client piece) c may = record { out = c.out; took = c.took; within = c.within; left = c.left; last = c.last; none_up = c.none_up; none_out = c.none_out; none_took = c.none_took }
counting_event t s ClientEnd c may = record { out = c.out; took = c.took; within = c.within; left = c.left; last = c.last; none_up = c.none_up; none_out = c.none_out; none_took = c.none_took }
counting_event t s (ClientTook count) c may = record { out = c.out; took = c.took; within = c.within; left = c.left; last = c.last; none_up = c.none_up; none_out = c.none_out; none_took = c.none_took }
counting_event t s (Up k piece) c may = record { out = c.out; took = c.took; within = c.within; left = c.left; last = c.last; none_up = c.none_up; none_out = c.none_out; none_took = c.none_took }
counting_event t s (UpEnd k) c may = record { out = c.out; took = c.took; within = c.within; left = c.left; last = c.last; none_up = c.none_up; none_out = c.none_out; none_took = c.none_took }
counting_event t s (UpFailed k) c may = counting_failed t s k c
counting_event t s Drain c may = record { out = c.out; took = c.took; within = c.within; left = c.left; last = c.last; none_up = c.none_up; none_out = c.none_out; none_took = c.none_took }
counting_event t s (UpTook k count) c may =
    let parts = and_parts (is_open k t) (nat_le (s.took k + count) (s.out k)) may in
    counting_taken t s k count c parts.0 (leb-true (s.took k + count) (s.out k) parts.1)

-- ---- acts

-- octets are put out for a connection that is open
counting_put : (t : List Entry) (s : State) (k : ℕ) (octets : List ℕ) → Counting t s → is_open k t ≡ true → Counting (Did (ToUp k octets) ∷ t) (record s { out = add k (length octets) s.out })
counting_put t s k octets c up = record {
  out = λ j. out (j == k) j (c.out j);
  took = c.took;
  within = λ j. within (j == k) j (c.within j);
  left = λ j. left (j == k) j (c.left j);
  last = c.last;
  none_up = c.none_up;
  none_out = ap (λ b. if b then s.out 0 + length octets else s.out 0) (up_counted t s k c up) ∙ c.none_out;
  none_took = c.none_took;
}
  where
    out : (b : Bool) (j : ℕ) → s.out j ≡ length (sent_up j t) → (if b then s.out j + length octets else s.out j) ≡ length (if b then sent_up j t ++ octets else sent_up j t)
    out true j e = let sum = length-append (sent_up j t) octets in omega (arith, e, sum)
    out false j e = e

    within : (b : Bool) (j : ℕ) → s.took j ≤ s.out j → s.took j ≤ (if b then s.out j + length octets else s.out j)
    within true j le = omega (arith, le)
    within false j le = le

    left : (b : Bool) (j : ℕ) → untaken_up j t + s.took j ≡ s.out j → (if b then untaken_up j t + length octets else untaken_up j t) + s.took j ≡ (if b then s.out j + length octets else s.out j)
    left true j e = omega (arith, e)
    left false j e = e

-- any act
counting_act : (passing : Passing) (t : List Entry) (s : State) (act : Act) → Counting t s → Holds passing t s (Acts act) → Counting (Did act ∷ t) (after passing s (Acts act))
counting_act passing t s (Open k route) c may = record {
  out = c.out;
  took = c.took;
  within = c.within;
  left = c.left;
  last = c.last;
  none_up = ap (λ b. if b then true else is_open 0 t) (ne_eqb 0 k (λ zero. let above = may.counted in omega (arith, zero, above))) ∙ c.none_up;
  none_out = c.none_out;
  none_took = c.none_took;
}
counting_act passing t s (ToUp k octets) c may = counting_put t s k octets c may.opened
counting_act passing t s (Close k) c may = record {
  out = c.out;
  took = c.took;
  within = c.within;
  left = c.left;
  last = c.last;
  none_up = shut (0 == k) c.none_up;
  none_out = c.none_out;
  none_took = c.none_took;
}
  where
    shut : (b : Bool) → is_open 0 t ≡ false → (if b then false else is_open 0 t) ≡ false
    shut true e = refl
    shut false e = e
counting_act passing t s CloseClient c may = record { out = c.out; took = c.took; within = c.within; left = c.left; last = c.last; none_up = c.none_up; none_out = c.none_out; none_took = c.none_took }

-- ---- all moves

-- the end of a frame's effect counts nothing
counting_settled : (t : List Entry) (s : State) (b : Bool) → Counting t s → Counting t (settle_by b s)
counting_settled t s true c = record { out = c.out; took = c.took; within = c.within; left = c.left; last = c.last; none_up = c.none_up; none_out = c.none_out; none_took = c.none_took }
counting_settled t s false c = record { out = c.out; took = c.took; within = c.within; left = c.left; last = c.last; none_up = c.none_up; none_out = c.none_out; none_took = c.none_took }

-- octets that are given back are octets for the client
counting_given : (t : List Entry) (s : State) (noted : Noted) (b : Bool) → Counting t s → Counting (Sent noted ∷ t) (with_given b s noted)
counting_given t s noted true c = record { out = c.out; took = c.took; within = c.within; left = c.left; last = c.last; none_up = c.none_up; none_out = c.none_out; none_took = c.none_took }
counting_given t s noted false c = record { out = c.out; took = c.took; within = c.within; left = c.left; last = c.last; none_up = c.none_up; none_out = c.none_out; none_took = c.none_took }

-- Each move that is allowed keeps the counts.
pub counting_step : (passing : Passing) (t : List Entry) (s : State) (m : Move) → Counting t s → Holds passing t s m → Counting (entries_of m ++ t) (after passing s m)
counting_step passing t s (Takes noted opens over) c may = record { out = c.out; took = c.took; within = c.within; left = c.left; last = refl; none_up = c.none_up; none_out = c.none_out; none_took = c.none_took }
counting_step passing t s (Breaks breach) c may = record { out = c.out; took = c.took; within = c.within; left = c.left; last = c.last; none_up = c.none_up; none_out = c.none_out; none_took = c.none_took }
counting_step passing t s (Hears event) c may = counting_event t s event c may.admitted
counting_step passing t s Settles c may = counting_settled t s (must_wait passing s) c
counting_step passing t s (Gives noted) c may = counting_given t s noted (noted.frame.id == 0) c
counting_step passing t s (Sends noted over) c may = record { out = c.out; took = c.took; within = c.within; left = c.left; last = c.last; none_up = c.none_up; none_out = c.none_out; none_took = c.none_took }
counting_step passing t s (Uses k octets) c may =
    let put = counting_put t s k octets c may.0.opened in
    record { out = put.out; took = put.took; within = put.within; left = put.left; last = put.last; none_up = put.none_up; none_out = put.none_out; none_took = put.none_took }
counting_step passing t s (Acts act) c may = counting_act passing t s act c may
