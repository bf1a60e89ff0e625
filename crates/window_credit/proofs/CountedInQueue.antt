-- Marks behind each of which some octets wait: one more, those that aren't reached, and how many there are.
use Rattle.std.proofs.Common.{ℕ, ◌<◌, ◌≤◌, Bool, true, false, nat_lt, if◌then◌else◌, List, [], ◌∷◌, length, arith}
use Rattle.theory_receive_windows.specs.Marks.{Mark, total, pop, push}
use Rattle.window_credit.specs.Counts.{AreSome}

-- there are no more of them than octets
pub few : (ms : List Mark) → AreSome ms → length ms ≤ total ms
few [] some = omega arith
few (m ∷ ms) some =
    let one : 0 < m.count = some.0 in
    let rest = few ms some.1 in
    omega (arith, one, rest)

pub pushed_some : (mark count : ℕ) (ms : List Mark) → AreSome ms → 0 < count → AreSome (push ms mark count)
pushed_some mark count [] some one = (one, tt)
pushed_some mark count (m ∷ ms) some one = (some.0, pushed_some mark count ms some.1 one)

pub popped_some : (taken : ℕ) (ms : List Mark) → AreSome ms → AreSome (pop taken ms)
popped_some taken [] some = tt
popped_some taken (m ∷ ms) some = by (nat_lt taken m.mark) (popped_some taken ms some.1)
  where
    by : (b : Bool) → AreSome (pop taken ms) → AreSome (if b then m ∷ ms else pop taken ms)
    by true rest = some
    by false rest = rest
