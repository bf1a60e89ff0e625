-- Laws of a queue of marks.
use Rattle.std.proofs.Common.{◌≡◌, ℕ, ◌+◌, ◌≤◌, ◌<◌, Bool, true, false, List, [], ◌∷◌, refl, ap, ◌∙◌, arith, if◌then◌else◌}
use Rattle.std.specs.Prelude.{nat_lt}
use Rattle.std.proofs.lemmas.Bool.{ltb-true, lt-ltb, ltb-false, le-ltb}
use Rattle.theory_receive_windows.specs.Marks.{Mark, total, waiting_of, pop, released, push, Rise, IsAbove}

-- what is reached and what isn't is all that waits
pub split : (taken : ℕ) (ms : List Mark) → total ms ≡ total (pop taken ms) + released taken ms
split taken [] = refl
split taken (m ∷ ms) = by (nat_lt taken m.mark) (split taken ms)
  where
    by : (b : Bool) → total ms ≡ total (pop taken ms) + released taken ms → m.count + total ms ≡ total (if b then m ∷ ms else pop taken ms) + (if b then 0 else m.count + released taken ms)
    by true more = omega arith
    by false more = omega (arith, more)

-- what is reached by fewer octets is reached by more
pub pop_later : (taken more : ℕ) (ms : List Mark) → taken ≤ more → waiting_of more (pop taken ms) ≡ waiting_of more ms
pop_later taken more [] le = refl
pop_later taken more (m ∷ ms) le = by (nat_lt taken m.mark) refl (pop_later taken more ms le)
  where
    by : (b : Bool) → nat_lt taken m.mark ≡ b → waiting_of more (pop taken ms) ≡ waiting_of more ms → waiting_of more (if b then m ∷ ms else pop taken ms) ≡ (if nat_lt more m.mark then m.count else 0) + waiting_of more ms
    by true e same = refl
    by false e same =
        let over : m.mark ≤ taken = ltb-false taken m.mark e in
        let none : nat_lt more m.mark ≡ false = le-ltb more m.mark (omega (arith, over, le)) in
        let zero : (if nat_lt more m.mark then m.count else 0) ≡ 0 = ap (λ b. if b then m.count else 0) none in
        omega (arith, same, zero)

-- where the first mark isn't reached none is
above : (taken low high : ℕ) (ms : List Mark) → taken < low → Rise low ms high → waiting_of taken ms ≡ total ms
above taken low high [] lt rise = refl
above taken low high (m ∷ ms) lt rise =
    let le : low ≤ m.mark = rise.0 in
    ap (λ b. (if b then m.count else 0) + waiting_of taken ms) (lt-ltb taken m.mark (omega (arith, le, lt))) ∙ ap (λ n. m.count + n) (above taken m.mark high ms (omega (arith, le, lt)) rise.1)

-- where the first isn't reached, all waits
pub all_wait : (taken high : ℕ) (ms : List Mark) → Rise 0 ms high → IsAbove taken ms → waiting_of taken ms ≡ total ms
all_wait taken high [] rise lt = refl
all_wait taken high (m ∷ ms) rise lt = ap (λ b. (if b then m.count else 0) + waiting_of taken ms) (lt-ltb taken m.mark lt) ∙ ap (λ n. m.count + n) (above taken m.mark high ms lt rise.1)

-- What is left behind a pop isn't reached.
pub popped_above : (taken : ℕ) (ms : List Mark) → IsAbove taken (pop taken ms)
popped_above taken [] = tt
popped_above taken (m ∷ ms) = by (nat_lt taken m.mark) refl (popped_above taken ms)
  where
    by : (b : Bool) → nat_lt taken m.mark ≡ b → IsAbove taken (pop taken ms) → IsAbove taken (if b then m ∷ ms else pop taken ms)
    by true e more = ltb-true taken m.mark e
    by false e more = more

-- Where the first isn't reached, nothing is popped.
pub none_popped : (taken : ℕ) (ms : List Mark) → IsAbove taken ms → (pop taken ms ≡ ms) × (released taken ms ≡ 0)
none_popped taken [] lt = (refl, refl)
none_popped taken (m ∷ ms) lt = (ap (λ b. if b then m ∷ ms else pop taken ms) (lt-ltb taken m.mark lt), ap (λ b. if b then 0 else m.count + released taken ms) (lt-ltb taken m.mark lt))

-- a mark that is not reached, behind others that are not
pub pushed_above : (taken mark count : ℕ) (ms : List Mark) → taken < mark → IsAbove taken ms → IsAbove taken (push ms mark count)
pushed_above taken mark count [] lt above = lt
pushed_above taken mark count (m ∷ ms) lt above = above

-- marks rise from a lower number too
lower : (low low' high : ℕ) (ms : List Mark) → low ≤ low' → Rise low' ms high → Rise low ms high
lower low low' high [] le rise = let r : low' ≤ high = rise in omega (arith, r, le)
lower low low' high (m ∷ ms) le rise = (let r : low' ≤ m.mark = rise.0 in omega (arith, r, le), rise.1)

-- what is left behind a pop rises
pub popped_rise : (taken low high : ℕ) (ms : List Mark) → Rise low ms high → Rise low (pop taken ms) high
popped_rise taken low high [] rise = rise
popped_rise taken low high (m ∷ ms) rise = by (nat_lt taken m.mark) (popped_rise taken low high ms (lower low m.mark high ms rise.0 rise.1))
  where
    by : (b : Bool) → Rise low (pop taken ms) high → Rise low (if b then m ∷ ms else pop taken ms) high
    by true more = rise
    by false more = more

-- marks rise to a higher number too
pub higher : (low high high' : ℕ) (ms : List Mark) → high ≤ high' → Rise low ms high → Rise low ms high'
higher low high high' [] le rise = let r : low ≤ high = rise in omega (arith, r, le)
higher low high high' (m ∷ ms) le rise = (rise.0, higher m.mark high high' ms le rise.1)

-- the last number is at least the first
risen : (low high : ℕ) (ms : List Mark) → Rise low ms high → low ≤ high
risen low high [] rise = rise
risen low high (m ∷ ms) rise = let more = risen m.mark high ms rise.1 in let first = rise.0 in omega (arith, more, first)

-- so no mark waits where so many are taken
pub none_above : (taken high : ℕ) (ms : List Mark) → high ≤ taken → Rise 0 ms high → IsAbove taken ms → ms ≡ []
none_above taken high [] le rise above = refl
none_above taken high (m ∷ ms) le rise above = let under = risen m.mark high ms rise.1 in absurd (omega (arith, le, under, above))

-- ---- one mark more

-- a last mark that is the highest
pub pushed_rise : (low high count : ℕ) (ms : List Mark) → Rise low ms high → Rise low (push ms high count) high
pushed_rise low high count [] rise = (rise, omega arith)
pushed_rise low high count (m ∷ ms) rise = (rise.0, pushed_rise m.mark high count ms rise.1)

-- its octets wait too
pub pushed_total : (mark count : ℕ) (ms : List Mark) → total (push ms mark count) ≡ total ms + count
pushed_total mark count [] = omega arith
pushed_total mark count (m ∷ ms) = let more = pushed_total mark count ms in omega (arith, more)

-- until it is reached
pub pushed_waiting : (taken mark count : ℕ) (ms : List Mark) → waiting_of taken (push ms mark count) ≡ waiting_of taken ms + (if nat_lt taken mark then count else 0)
pushed_waiting taken mark count [] = omega arith
pushed_waiting taken mark count (m ∷ ms) = let more = pushed_waiting taken mark count ms in omega (arith, more)
