-- How many octets wait of streams whose connections were given to others since, behind each change.
use Rattle.std.proofs.Common.{◌≡◌, ℕ, zero, suc, ◌+◌, ◌<◌, ◌≤◌, ◌==◌, ◌&&◌, if◌then◌else◌, Bool, true, false, nat_lt, List, [], ◌∷◌, ◌++◌, length, set, get_or, take, drop, refl, sym, ap, ◌∙◌, arith}
use Rattle.std.specs.Prelude.{map, sum_by, remove}
use Rattle.std.proofs.lemmas.Bool.{lt-ltb}
use Rattle.std.proofs.lemmas.List.Sums.{sum_by-cons, sum_by-set, sum_by-remove, sum_by_push, sum_by_more, sum_by_more_le_part}
use Rattle.theory_receive_windows.specs.Marks.{Mark, total, pop, released}
use Rattle.theory_receive_windows.proofs.Queues.{split}
use Rattle.window_credit.specs.Counts.{AreSome}
use Rattle.window_credit.specs.Sides.{Side, taking, behind_of, octets_behind, waits_on, taking_on, released_on, taking_behind, released_behind}
use Rattle.window_credit.specs.Places.{AllAreSome}

-- ---- one stream

-- some octets wait just where there are marks
pub some_wait : (ms : List Mark) → length ms ≤ total ms → nat_lt 0 (total ms) ≡ nat_lt 0 (length ms)
some_wait [] few = refl
some_wait (m ∷ ms) few = lt-ltb 0 (total (m ∷ ms)) (omega (arith, few)) ∙ sym (lt-ltb 0 (length (m ∷ ms)) (omega arith))

either : (w : Bool) (x y : Side) → behind_of (if w then x else y) ≡ (if w then behind_of x else behind_of y)
either true x y = refl
either false x y = refl

-- what goes back of it, and what waits on
pub parts_of : (k taken : ℕ) (side : Side) → behind_of (taking_on k taken side) + released_on k taken side ≡ behind_of side
parts_of k taken side =
    ap (λ n. n + released_on k taken side) (either (waits_on k side) (taking taken side) side)
    ∙ by (side.k == k) side.past (nat_lt 0 (length side.queue))
  where
    by : (a b c : Bool) → (if a && (b && c) then (if b then total (pop taken side.queue) else 0) else (if b then total side.queue else 0)) + (if a && (b && c) then released taken side.queue else 0) ≡ (if b then total side.queue else 0)
    by true true true = sym (split taken side.queue)
    by true true false = omega arith
    by true false c = refl
    by false b c = omega arith

pub no_more : (k taken : ℕ) (side : Side) → released_on k taken side ≤ behind_of side
no_more k taken side = let all = parts_of k taken side in omega (arith, all)

-- none does of a connection's newest stream
pub newest_none : (side : Side) → side.past ≡ false → behind_of side ≡ 0
newest_none side newest = ap (λ b. if b then total side.queue else 0) newest

-- none does where none waits
none_waits : (k : ℕ) (side : Side) → AreSome side.queue → behind_of side ≡ 0 → waits_on k side ≡ false
none_waits k side some none = by (side.k == k) side.past side.queue some none
  where
    by : (a b : Bool) (ms : List Mark) → AreSome ms → (if b then total ms else 0) ≡ 0 → (a && (b && nat_lt 0 (length ms))) ≡ false
    by false b ms some none = refl
    by true false ms some none = refl
    by true true [] some none = refl
    by true true (m ∷ ms) some none = absurd (let one : 0 < m.count = some.0 in omega (arith, one, none))

-- ---- all of them

pub all_parts : (k taken : ℕ) (sides : List Side) → octets_behind (taking_behind k taken sides) + released_behind k taken sides ≡ octets_behind sides
all_parts k taken [] = refl
all_parts k taken (side ∷ sides) =
    let a = sum_by-cons behind_of (taking_on k taken side) (taking_behind k taken sides) in
    let b = sum_by-cons (released_on k taken) side sides in
    let c = sum_by-cons behind_of side sides in
    let one = parts_of k taken side in
    let more = all_parts k taken sides in
    omega (arith, a, b, c, one, more)

pub none_taken : (k taken : ℕ) (sides : List Side) → AllAreSome sides → octets_behind sides ≡ 0 → (taking_behind k taken sides ≡ sides) × (released_behind k taken sides ≡ 0)
none_taken k taken [] all none = (refl, refl)
none_taken k taken (side ∷ sides) all none =
    let c = sum_by-cons behind_of side sides in
    let here : behind_of side ≡ 0 = omega (arith, c, none) in
    let rest : octets_behind sides ≡ 0 = omega (arith, c, none) in
    let more = none_taken k taken sides all.1 rest in
    let off = none_waits k side all.0 here in
    let b = sum_by-cons (released_on k taken) side sides in
    let nothing : released_on k taken side ≡ 0 = ap (λ w. if w then released taken side.queue else 0) off in
    let others : released_behind k taken sides ≡ 0 = more.1 in
    (ap (λ w. (if w then taking taken side else side) ∷ taking_behind k taken sides) off ∙ ap (λ ys. side ∷ ys) more.0, omega (arith, b, nothing, others))

-- ---- one changes, joins or goes

pub behind_changed : (sides : List Side) (place : ℕ) (side new : Side) → place < length sides → side ≡ get_or sides place side → octets_behind (set sides place new) + behind_of side ≡ octets_behind sides + behind_of new
behind_changed sides place side new within read = ap (λ (x : Side). octets_behind (set sides place new) + behind_of x) read ∙ sum_by-set behind_of sides place new side within

pub behind_same : (sides : List Side) (place : ℕ) (side new : Side) → place < length sides → side ≡ get_or sides place side → behind_of new ≡ behind_of side → octets_behind (set sides place new) ≡ octets_behind sides
behind_same sides place side new within read same = let changed = behind_changed sides place side new within read in omega (arith, changed, same)

pub behind_joined : (sides : List Side) (last : Side) → behind_of last ≡ 0 → octets_behind (sides ++ last ∷ []) ≡ octets_behind sides
behind_joined sides last none = let all = sum_by_push behind_of sides last in omega (arith, all, none)

pub behind_gone : (sides : List Side) (place : ℕ) (side : Side) → place < length sides → side ≡ get_or sides place side → octets_behind (remove sides place) + behind_of side ≡ octets_behind sides
behind_gone sides place side within read = ap (λ (x : Side). octets_behind (remove sides place) + behind_of x) read ∙ sum_by-remove behind_of sides place side within

-- ---- one after another

-- the first are done with
abbrev pub taken_to : ℕ → ℕ → ℕ → List Side → List Side
taken_to k taken i sides = map (taking_on k taken) (take i sides) ++ drop i sides

taken_at : (k taken i : ℕ) (sides : List Side) (d : Side) → get_or (taken_to k taken i sides) i d ≡ get_or sides i d
taken_at k taken zero sides d = refl
taken_at k taken (suc i) [] d = refl
taken_at k taken (suc i) (side ∷ sides) d = taken_at k taken i sides d

taken_more : (k taken i : ℕ) (sides : List Side) (d : Side) → i < length sides → set (taken_to k taken i sides) i (taking_on k taken (get_or sides i d)) ≡ taken_to k taken (suc i) sides
taken_more k taken i [] d lt = absurd (omega (arith, lt))
taken_more k taken zero (side ∷ sides) d lt = refl
taken_more k taken (suc i) (side ∷ sides) d lt = ap (λ ys. taking_on k taken side ∷ ys) (taken_more k taken i sides d (omega arith))

-- the next is as it was
next_at : (k taken i : ℕ) (sides now : List Side) (x : Side) → now ≡ taken_to k taken i sides → get_or now i x ≡ get_or sides i x
next_at k taken i sides now x front = ap (λ ys. get_or ys i x) front ∙ taken_at k taken i sides x

-- one more is done with
pub taken_next : (k taken i : ℕ) (sides now : List Side) (x y : Side) → now ≡ taken_to k taken i sides → i < length sides → y ≡ taking_on k taken (get_or now i x) → set now i y ≡ taken_to k taken (suc i) sides
taken_next k taken i sides now x y front lt changed =
    ap (λ ys. set ys i y) front
    ∙ ap (set (taken_to k taken i sides) i) (changed ∙ ap (taking_on k taken) (next_at k taken i sides now x front))
    ∙ taken_more k taken i sides x lt

-- its octets are summed
pub summed_next : (k taken i : ℕ) (sides now : List Side) (x : Side) → now ≡ taken_to k taken i sides → i < length sides → sum_by (released_on k taken) (take (i + 1) sides) ≡ sum_by (released_on k taken) (take i sides) + released_on k taken (get_or now i x)
summed_next k taken i sides now x front lt =
    sum_by_more (released_on k taken) sides i x lt
    ∙ ap (λ (y : Side). sum_by (released_on k taken) (take i sides) + released_on k taken y) (sym (next_at k taken i sides now x front))

-- and fit
pub summed_fits : (k taken i top : ℕ) (sides now : List Side) (x : Side) → now ≡ taken_to k taken i sides → i < length sides → octets_behind sides < top → sum_by (released_on k taken) (take i sides) + released_on k taken (get_or now i x) < top
summed_fits k taken i top sides now x front lt fits =
    let le = sum_by_more_le_part (released_on k taken) behind_of sides i x lt (no_more k taken) in
    let own : released_on k taken (get_or now i x) ≡ released_on k taken (get_or sides i x) = ap (released_on k taken) (next_at k taken i sides now x front) in
    let one = no_more k taken (get_or sides i x) in
    omega (arith, le, own, one, fits)

taken_past : (k taken i : ℕ) (sides : List Side) → length sides ≤ i → taken_to k taken i sides ≡ taking_behind k taken sides
taken_past k taken zero [] past = refl
taken_past k taken zero (side ∷ sides) past = absurd (omega (arith, past))
taken_past k taken (suc i) [] past = refl
taken_past k taken (suc i) (side ∷ sides) past = ap (λ ys. taking_on k taken side ∷ ys) (taken_past k taken i sides (omega (arith, past)))

front_taken : (xs ys : List Side) → take (length xs) (xs ++ ys) ≡ xs
front_taken [] ys = refl
front_taken (x ∷ xs) ys = ap (λ zs. x ∷ zs) (front_taken xs ys)

-- behind the last one all are done with
pub taken_out : (k taken i n : ℕ) (sides now : List Side) → now ≡ taken_to k taken i sides → length sides ≤ i → n ≡ length now → take n (now ++ drop (length now) sides) ≡ taking_behind k taken sides
taken_out k taken i n sides now front past all =
    ap (λ m. take m (now ++ drop (length now) sides)) all
    ∙ front_taken now (drop (length now) sides)
    ∙ front
    ∙ taken_past k taken i sides past

all_of : (i : ℕ) (sides : List Side) → length sides ≤ i → take i sides ≡ sides
all_of zero [] past = refl
all_of zero (side ∷ sides) past = absurd (omega (arith, past))
all_of (suc i) [] past = refl
all_of (suc i) (side ∷ sides) past = ap (λ ys. side ∷ ys) (all_of i sides (omega (arith, past)))

pub summed_out : (k taken i : ℕ) (sides : List Side) → length sides ≤ i → sum_by (released_on k taken) (take i sides) ≡ released_behind k taken sides
summed_out k taken i sides past = ap (sum_by (released_on k taken)) (all_of i sides past)
