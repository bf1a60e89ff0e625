-- Numbers that rise, each entered among the others.
use Rattle.std.proofs.Common.{◌≡◌, ℕ, ◌<◌, ◌≤◌, ◌==◌, nat_lt, if◌then◌else◌, Bool, true, false, not, List, [], ◌∷◌, length, get_or, refl, sym, ap, ◌∙◌, subst, inl, inr, arith}
use Rattle.std.specs.Prelude.{zero, suc}
use Rattle.std.proofs.lemmas.Bool.{lt-ltb, le-ltb, cases_lt}
use Rattle.std.proofs.lemmas.List.Kept.{AllPairs-cons}
use Rattle.upstream_connections.specs.Connections.{others, among, Rise}
use Rattle.upstream_connections.specs.Keys.{rising}

-- ---- that rise

-- Each is this or greater.
abbrev pub AreFrom : ℕ → List ℕ → Type 0
AreFrom k [] = Unit {0}
AreFrom k (x ∷ xs) = (k ≤ x) × AreFrom k xs

-- Each is less than all that stand behind it.
abbrev pub Climbs : List ℕ → Type 0
Climbs [] = Unit {0}
Climbs (x ∷ xs) = AreFrom (suc x) xs × Climbs xs

-- None is this one.
abbrev pub Lacks : ℕ → List ℕ → Type 0
Lacks k [] = Unit {0}
Lacks k (x ∷ xs) = (x ≡ k → ⊥) × Lacks k xs

-- No two are alike.
abbrev pub AreDistinct : List ℕ → Type 0
AreDistinct [] = Unit {0}
AreDistinct (x ∷ xs) = Lacks x xs × AreDistinct xs

from_weaker : (j k : ℕ) (xs : List ℕ) → j ≤ k → AreFrom k xs → AreFrom j xs
from_weaker j k [] le from = tt
from_weaker j k (x ∷ xs) le from = (let first = from.0 in omega (arith, first, le), from_weaker j k xs le from.1)

each_from : (x : ℕ) (xs : List ℕ) → AreFrom (suc x) xs → (i d : ℕ) → i < length xs → x < get_or xs i d
each_from x [] from i d within = absurd (omega (arith, within))
each_from x (y ∷ ys) from zero d within = let first = from.0 in omega (arith, first)
each_from x (y ∷ ys) from (suc i) d within = each_from x ys from.1 i d (omega (arith, within))

pub climbing_rise : (xs : List ℕ) → Climbs xs → Rise xs
climbing_rise [] climbs = λ i j d lt within. absurd (omega (arith, within))
climbing_rise (x ∷ xs) climbs = AllPairs-cons (λ j k. j < k) x xs (each_from x xs climbs.0) (climbing_rise xs climbs.1)

-- ---- with one among them

-- what stands at the front, by whether another comes before it
abbrev led : Bool → ℕ → ℕ → List ℕ → List ℕ
led less x k xs = if less then x ∷ among k xs else k ∷ x ∷ xs

-- behind a lesser one, and before all others
behind_less : (x k : ℕ) (xs : List ℕ) → x < k → among k (x ∷ xs) ≡ x ∷ among k xs
behind_less x k xs less = ap (λ b. led b x k xs) (lt-ltb x k less)

before_rest : (x k : ℕ) (xs : List ℕ) → k ≤ x → among k (x ∷ xs) ≡ k ∷ x ∷ xs
before_rest x k xs from = ap (λ b. led b x k xs) (le-ltb x k from)

first_among : (k : ℕ) (xs : List ℕ) → AreFrom k xs → among k xs ≡ k ∷ xs
first_among k [] from = refl
first_among k (x ∷ xs) from = before_rest x k xs from.0

from_among : (j k : ℕ) (xs : List ℕ) → j ≤ k → AreFrom j xs → AreFrom j (among k xs)
from_among j k [] le from = (le, tt)
from_among j k (x ∷ xs) le from = by (nat_lt x k) (from_among j k xs le from.1)
  where
    by : (b : Bool) → AreFrom j (among k xs) → AreFrom j (led b x k xs)
    by true rest = (from.0, rest)
    by false rest = (le, from)

lacks_among : (j k : ℕ) (xs : List ℕ) → (k ≡ j → ⊥) → Lacks j xs → Lacks j (among k xs)
lacks_among j k [] apart lacks = (apart, tt)
lacks_among j k (x ∷ xs) apart lacks = by (nat_lt x k) (lacks_among j k xs apart lacks.1)
  where
    by : (b : Bool) → Lacks j (among k xs) → Lacks j (led b x k xs)
    by true rest = (lacks.0, rest)
    by false rest = (apart, lacks)

climbs_among : (k : ℕ) (xs : List ℕ) → Lacks k xs → Climbs xs → Climbs (among k xs)
climbs_among k [] lacks climbs = (tt, tt)
climbs_among k (x ∷ xs) lacks climbs = elim (cases_lt x k) [
  | inl less ↦ subst Climbs (sym (behind_less x k xs less)) (from_among (suc x) k xs (omega (arith, less)) climbs.0, climbs_among k xs lacks.1 climbs.1)
  | inr from ↦ (
      let more : k < x = let apart = lacks.0 in elim (cases_lt k x) [
        | inl less ↦ less
        | inr upto ↦ absurd (apart (omega (arith, from, upto)))
      ] in
      subst Climbs (sym (before_rest x k xs from)) ((omega (arith, more), from_weaker (suc k) (suc x) xs (omega (arith, more)) climbs.0), climbs)
      )
]

longer : (k : ℕ) (xs : List ℕ) → length (among k xs) ≡ suc (length xs)
longer k [] = refl
longer k (x ∷ xs) = by (nat_lt x k) (longer k xs)
  where
    by : (b : Bool) → length (among k xs) ≡ suc (length xs) → length (led b x k xs) ≡ suc (suc (length xs))
    by true rest = ap suc rest
    by false rest = refl

-- ---- one by one

lacks_rising : (k : ℕ) (xs : List ℕ) → Lacks k xs → Lacks k (rising xs)
lacks_rising k [] lacks = tt
lacks_rising k (x ∷ xs) lacks = lacks_among k x (rising xs) lacks.0 (lacks_rising k xs lacks.1)

pub rising_climb : (xs : List ℕ) → AreDistinct xs → Climbs (rising xs)
rising_climb [] distinct = tt
rising_climb (x ∷ xs) distinct = climbs_among x (rising xs) (lacks_rising x xs distinct.0) (rising_climb xs distinct.1)

pub as_many : (xs : List ℕ) → length (rising xs) ≡ length xs
as_many [] = refl
as_many (x ∷ xs) = longer x (rising xs) ∙ ap suc (as_many xs)

-- ---- without one

from_others : (j k : ℕ) (xs : List ℕ) → AreFrom k xs → AreFrom k (others j xs)
from_others j k [] from = tt
from_others j k (x ∷ xs) from = by (not (x == j)) (from_others j k xs from.1)
  where
    by : (b : Bool) → AreFrom k (others j xs) → AreFrom k (if b then x ∷ others j xs else others j xs)
    by true rest = (from.0, rest)
    by false rest = rest

-- one in front that stays, and one that goes
stays : (j x : ℕ) (xs : List ℕ) → (x == j) ≡ false → others j (x ∷ xs) ≡ x ∷ others j xs
stays j x xs other = ap (λ b. if not b then x ∷ others j xs else others j xs) other

goes : (j x : ℕ) (xs : List ℕ) → (x == j) ≡ true → others j (x ∷ xs) ≡ others j xs
goes j x xs own = ap (λ b. if not b then x ∷ others j xs else others j xs) own

-- it goes where it was among them
others_own : (j k : ℕ) (xs : List ℕ) → (k == j) ≡ true → others j (among k xs) ≡ others j xs
others_own j k [] own = goes j k [] own
others_own j k (x ∷ xs) own = by (nat_lt x k) (others_own j k xs own)
  where
    by : (b : Bool) → others j (among k xs) ≡ others j xs → others j (led b x k xs) ≡ others j (x ∷ xs)
    by true rest = ap (λ ys. if not (x == j) then x ∷ ys else ys) rest
    by false rest = goes j k (x ∷ xs) own

-- and another stays among those that are left
others_among : (j k : ℕ) (xs : List ℕ) → (k == j) ≡ false → Climbs xs → others j (among k xs) ≡ among k (others j xs)
others_among j k [] other climbs = stays j k [] other
others_among j k (x ∷ xs) other climbs = elim (cases_lt x k) [
  | inl less ↦ ap (others j) (behind_less x k xs less) ∙ by (x == j) refl less (others_among j k xs other climbs.1)
  | inr from ↦ (
      ap (others j) (before_rest x k xs from)
      ∙ stays j k (x ∷ xs) other
      ∙ sym (first_among k (others j (x ∷ xs)) (from_others j k (x ∷ xs) (from, from_weaker k (suc x) xs (omega (arith, from)) climbs.0)))
      )
]
  where
    by : (b : Bool) → (x == j) ≡ b → x < k → others j (among k xs) ≡ among k (others j xs) → others j (x ∷ among k xs) ≡ among k (others j (x ∷ xs))
    by true own less rest = goes j x (among k xs) own ∙ rest ∙ sym (ap (among k) (goes j x xs own))
    by false apart less rest =
        stays j x (among k xs) apart
        ∙ ap (λ ys. x ∷ ys) rest
        ∙ sym (behind_less x k (others j xs) less)
        ∙ sym (ap (among k) (stays j x xs apart))

pub others_rising : (j : ℕ) (xs : List ℕ) → AreDistinct xs → others j (rising xs) ≡ rising (others j xs)
others_rising j [] distinct = refl
others_rising j (x ∷ xs) distinct = by (x == j) refl (others_rising j xs distinct.1)
  where
    by : (b : Bool) → (x == j) ≡ b → others j (rising xs) ≡ rising (others j xs) → others j (among x (rising xs)) ≡ rising (others j (x ∷ xs))
    by true own rest = others_own j x (rising xs) own ∙ rest ∙ sym (ap rising (goes j x xs own))
    by false other rest =
        others_among j x (rising xs) other (rising_climb xs distinct.1)
        ∙ ap (among x) rest
        ∙ sym (ap rising (stays j x xs other))

-- ---- two among them, in either order

both_first : (j k : ℕ) (xs : List ℕ) → among j xs ≡ j ∷ xs → among k xs ≡ k ∷ xs → among j (k ∷ xs) ≡ among k (j ∷ xs)
both_first j k xs first second = elim (cases_lt k j) [
  | inl less ↦ behind_less k j xs less ∙ ap (λ ys. k ∷ ys) first ∙ sym (before_rest j k xs (omega (arith, less)))
  | inr from ↦ elim (cases_lt j k) [
    | inl less ↦ before_rest k j xs from ∙ sym (ap (λ ys. j ∷ ys) second) ∙ sym (behind_less j k xs less)
    | inr upto ↦ (let same : j ≡ k = omega (arith, from, upto) in subst (λ n. among j (n ∷ xs) ≡ among n (j ∷ xs)) same refl)
  ]
]

one_first : (j k x : ℕ) (xs : List ℕ) → x < j → k ≤ x → among j (among k (x ∷ xs)) ≡ among k (among j (x ∷ xs))
one_first j k x xs less from =
    ap (among j) (before_rest x k xs from)
    ∙ behind_less k j (x ∷ xs) (omega (arith, less, from))
    ∙ ap (λ ys. k ∷ ys) (behind_less x j xs less)
    ∙ sym (before_rest x k (among j xs) from)
    ∙ sym (ap (among k) (behind_less x j xs less))

pub among_two : (j k : ℕ) (xs : List ℕ) → among j (among k xs) ≡ among k (among j xs)
among_two j k [] = both_first j k [] refl refl
among_two j k (x ∷ xs) = elim (cases_lt x j) [
  | inl less ↦ elim (cases_lt x k) [
    | inl low ↦ (
        ap (among j) (behind_less x k xs low)
        ∙ behind_less x j (among k xs) less
        ∙ ap (λ ys. x ∷ ys) (among_two j k xs)
        ∙ sym (behind_less x k (among j xs) low)
        ∙ sym (ap (among k) (behind_less x j xs less))
        )
    | inr from ↦ one_first j k x xs less from
  ]
  | inr from ↦ elim (cases_lt x k) [
    | inl low ↦ sym (one_first k j x xs low from)
    | inr upto ↦ (
        ap (among j) (before_rest x k xs upto)
        ∙ both_first j k (x ∷ xs) (before_rest x j xs from) (before_rest x k xs upto)
        ∙ sym (ap (among k) (before_rest x j xs from))
        )
  ]
]
