-- Which ids a filter of a list leaves, and which are kept.
use Rattle.std.proofs.Common.{◌≡◌, ℕ, zero, suc, ◌<◌, Bool, true, false, List, [], ◌∷◌, length, map, refl, sym, ap, ◌∙◌, inl, inr, arith, if◌then◌else◌}
use Rattle.std.specs.Prelude.{Option, Some, None, ◌⊎◌, filter, SomeIndex, slice_index}
use Rattle.std.proofs.lemmas.Bool.Decides.{eqb_tells}
use Rattle.theory_responses.specs.State.{Kept, find}

-- the id is one of these
abbrev pub IsAmong : ℕ → List ℕ → Type 0
IsAmong id [] = ⊥
IsAmong id (x ∷ xs) = (x ≡ id) ⊎ IsAmong id xs

-- the id stands at some place
abbrev pub StandsAt : List ℕ → ℕ → Type 0
StandsAt xs id = SomeIndex xs (λ k. slice_index xs k ≡ id)

later : (x : ℕ) (xs : List ℕ) (id : ℕ) → StandsAt xs id → StandsAt (x ∷ xs) id
later x xs id i = let within = i.1 in (suc i.0, omega (arith, within), i.2)

pub filter_in : (test : ℕ → Bool) (xs : List ℕ) (id : ℕ) → IsAmong id xs → test id ≡ true → StandsAt (filter test xs) id
filter_in test [] id i e = absurd i
filter_in test (x ∷ xs) id (inl same) e = by (test x) (ap test same ∙ e)
  where
    by : (b : Bool) → b ≡ true → StandsAt (if b then x ∷ filter test xs else filter test xs) id
    by true f = (0, omega arith, same)
    by false f = let clash : false ≡ true = f in cc
filter_in test (x ∷ xs) id (inr rest) e = by (test x) (filter_in test xs id rest e)
  where
    by : (b : Bool) → StandsAt (filter test xs) id → StandsAt (if b then x ∷ filter test xs else filter test xs) id
    by true more = later x (filter test xs) id more
    by false more = more

pub filter_out : (test : ℕ → Bool) (xs : List ℕ) (id : ℕ) → StandsAt (filter test xs) id → test id ≡ true
filter_out test [] id i = let within = i.1 in absurd (omega (arith, within))
filter_out test (x ∷ xs) id i = by (test x) refl i (filter_out test xs id)
  where
    first : (place : ℕ) → place < length (x ∷ filter test xs) → slice_index (x ∷ filter test xs) place ≡ id → (StandsAt (filter test xs) id → test id ≡ true) → test x ≡ true → test id ≡ true
    first zero within e more f = ap test (sym e) ∙ f
    first (suc place) within e more f = more (place, omega (arith, within), e)

    by : (b : Bool) → test x ≡ b → StandsAt (if b then x ∷ filter test xs else filter test xs) id → (StandsAt (filter test xs) id → test id ≡ true) → test id ≡ true
    by true f j more = first j.0 j.1 j.2 more f
    by false f j more = more j

-- two tests that agree leave the same
pub filter_same : (p q : ℕ → Bool) → ((x : ℕ) → p x ≡ q x) → (xs : List ℕ) → filter p xs ≡ filter q xs
filter_same p q same [] = refl
filter_same p q same (x ∷ xs) = ap (λ b. if b then x ∷ filter p xs else filter p xs) (same x) ∙ ap (λ ys. if q x then x ∷ ys else ys) (filter_same p q same xs)

-- a stream that is found is among those that are kept
pub found_among : (stream : ℕ) (ks : List Kept) (k : Kept) → find stream ks ≡ Some k → IsAmong stream (map (λ (x : Kept). x.id) ks)
found_among stream [] k e = let clash : ◌≡◌ {A = Option Kept} None (Some k) = e in cc
found_among stream (r ∷ ks) k e = elim (eqb_tells r.id stream) [
  | inl x ↦ inl x.1
  | inr x ↦ inr (found_among stream ks k (sym (ap (λ b. if b then Some r else find stream ks) x.0) ∙ e))
]
