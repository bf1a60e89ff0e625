-- Numbers that rise: without one, and with one among them.
use Rattle.std.proofs.Common.{◌≡◌, ℕ, ◌<◌, ◌≤◌, ◌==◌, nat_lt, if◌then◌else◌, Bool, true, false, not, List, [], ◌∷◌, ◌++◌, length, get_or, refl, sym, ap, ◌∙◌, subst, inl, inr, arith}
use Rattle.std.specs.Prelude.{zero, suc, reverse}
use Rattle.std.specs.List.{insert, remove}
use Rattle.std.proofs.lemmas.Bool.{lt-ltb, le-ltb, eq-eqb, ne_eqb, cases_lt}
use Rattle.std.proofs.lemmas.List.{reverse-append, append-nil}
use Rattle.std.proofs.lemmas.List.Elements.{filter-append, All-push}
use Rattle.std.proofs.lemmas.List.Kept.{AllPairs-cons, AllPairs-filter}
use Rattle.upstream_connections.specs.Connections.{others, among, Rise}

-- ---- that rise

pub tail_rises : (x : ℕ) (xs : List ℕ) → Rise (x ∷ xs) → Rise xs
tail_rises x xs rise i j d lt within = rise (suc i) (suc j) d (omega (arith, lt)) (omega (arith, within))

-- as a search by halves asks
pub none_falls : (xs : List ℕ) → Rise xs → (i j : ℕ) → i ≤ j → j < length xs → get_or xs i 0 ≤ get_or xs j 0
none_falls xs rise i j le within = elim (cases_lt i j) [
  | inl less ↦ (let low : get_or xs i 0 < get_or xs j 0 = rise i j 0 less within in omega (arith, low))
  | inr from ↦ (let same : i ≡ j = omega (arith, le, from) in subst (λ n. get_or xs i 0 ≤ get_or xs n 0) same (omega arith))
]

-- Each is less than this.
abbrev pub AreUnder : ℕ → List ℕ → Type 0
AreUnder k [] = Unit {0}
AreUnder k (x ∷ xs) = (x < k) × AreUnder k xs

-- they still do with one behind them that is greater
pub rise_more : (y : ℕ) (xs : List ℕ) → AreUnder y xs → Rise xs → Rise (xs ++ y ∷ [])
rise_more y [] under rise = λ i j d lt within. absurd (omega (arith, lt, within))
rise_more y (x ∷ xs) under rise =
    AllPairs-cons (λ j k. j < k) x (xs ++ y ∷ [])
    (All-push (λ k. x < k) xs y (λ j d within. rise 0 (suc j) d (omega arith) (omega (arith, within))) under.0)
    (rise_more y xs under.1 (tail_rises x xs rise))

-- ---- without one

-- it goes from them however they stand
pub others_turned : (k : ℕ) (xs : List ℕ) → others k (reverse xs) ≡ reverse (others k xs)
others_turned k [] = refl
others_turned k (x ∷ xs) =
    ap (others k) (reverse-append (x ∷ []) xs)
    ∙ filter-append (λ j. not (j == k)) (reverse xs) (x ∷ [])
    ∙ ap (λ ys. ys ++ others k (x ∷ [])) (others_turned k xs)
    ∙ by (not (x == k))
  where
    by : (b : Bool) → reverse (others k xs) ++ (if b then x ∷ [] else []) ≡ reverse (if b then x ∷ others k xs else others k xs)
    by true = sym (reverse-append (x ∷ []) (others k xs))
    by false = append-nil (reverse (others k xs))

-- and those that are left rise
pub others_rise : (k : ℕ) (xs : List ℕ) → Rise xs → Rise (others k xs)
others_rise k xs rise = AllPairs-filter (λ i j. i < j) (λ j. not (j == k)) xs rise

-- all are left where none is it
pub not_there : (k : ℕ) (xs : List ℕ) → ((i : ℕ) → i < length xs → get_or xs i 0 ≡ k → ⊥) → xs ≡ others k xs
not_there k [] apart = refl
not_there k (x ∷ xs) apart =
    ap (λ ys. x ∷ ys) (not_there k xs (λ i lt. apart (suc i) (omega (arith, lt))))
    ∙ sym (ap (λ b. if not b then x ∷ others k xs else others k xs) (ne_eqb x k (apart 0 (omega arith))))

-- where they rise one place has it, and no other
pub struck : (k : ℕ) (xs : List ℕ) (place : ℕ) → Rise xs → place < length xs → get_or xs place 0 ≡ k → remove xs place ≡ others k xs
struck k [] place rise lt same = absurd (omega (arith, lt))
struck k (x ∷ xs) zero rise lt same =
    not_there k xs (λ i within is. let less : x < get_or xs i 0 = rise 0 (suc i) 0 (omega arith) (omega (arith, within)) in omega (arith, less, is, same))
    ∙ sym (ap (λ b. if not b then x ∷ others k xs else others k xs) (eq-eqb x k same))
struck k (x ∷ xs) (suc place) rise lt same =
    ap (λ ys. x ∷ ys) (struck k xs place (tail_rises x xs rise) (omega (arith, lt)) same)
    ∙ sym (ap (λ b. if not b then x ∷ others k xs else others k xs)
    (ne_eqb x k (let less : x < get_or xs place 0 = rise 0 (suc place) 0 (omega arith) lt in λ is. omega (arith, less, is, same))))

-- ---- with one among them

-- one that is greater stays behind it
pub among_before : (k y : ℕ) (xs : List ℕ) → k < y → among k (xs ++ y ∷ []) ≡ among k xs ++ y ∷ []
among_before k y [] lt = ap (λ b. if b then y ∷ k ∷ [] else k ∷ y ∷ []) (le-ltb y k (omega (arith, lt)))
among_before k y (x ∷ xs) lt = by (nat_lt x k) (among_before k y xs lt)
  where
    by : (b : Bool) → among k (xs ++ y ∷ []) ≡ among k xs ++ y ∷ [] → (if b then x ∷ among k (xs ++ y ∷ []) else k ∷ x ∷ xs ++ y ∷ []) ≡ (if b then x ∷ among k xs else k ∷ x ∷ xs) ++ y ∷ []
    by true rest = ap (λ ys. x ∷ ys) rest
    by false rest = refl

pub under_more : (k y : ℕ) (xs : List ℕ) → y < k → AreUnder k xs → AreUnder k (xs ++ y ∷ [])
under_more k y [] lt under = (lt, tt)
under_more k y (x ∷ xs) lt under = (under.0, under_more k y xs lt under.1)

-- one that is the greatest stands last
pub among_last : (k : ℕ) (xs : List ℕ) → AreUnder k xs → among k xs ≡ xs ++ k ∷ []
among_last k [] under = refl
among_last k (x ∷ xs) under =
    ap (λ b. if b then x ∷ among k xs else k ∷ x ∷ xs) (lt-ltb x k under.0)
    ∙ ap (λ ys. x ∷ ys) (among_last k xs under.1)

-- it stands behind those that are less
pub inserted : (k : ℕ) (xs : List ℕ) (place : ℕ) → place ≤ length xs → ((i : ℕ) → i < place → get_or xs i 0 < k) → (place < length xs → k ≤ get_or xs place 0) → insert xs place k ≡ among k xs
inserted k [] zero le before behind = refl
inserted k [] (suc place) le before behind = absurd (omega (arith, le))
inserted k (x ∷ xs) zero le before behind = ap (λ b. if b then x ∷ among k xs else k ∷ x ∷ xs) (sym (le-ltb x k (behind (omega arith))))
inserted k (x ∷ xs) (suc place) le before behind =
    ap (λ ys. x ∷ ys) (inserted k xs place (omega (arith, le)) (λ i lt. before (suc i) (omega (arith, lt))) (λ lt. behind (omega (arith, lt))))
    ∙ ap (λ b. if b then x ∷ among k xs else k ∷ x ∷ xs) (sym (lt-ltb x k (before 0 (omega arith))))
