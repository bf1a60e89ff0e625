-- Sums over streams, of which one changes or goes.
use Rattle.std.proofs.Common.{◌≡◌, ℕ, ◌+◌, Bool, true, false, not, ◌||◌, ◌==◌, List, [], ◌∷◌, refl, sym, ap, ◌∙◌, arith, if◌then◌else◌, inl, inr}
use Rattle.std.specs.Prelude.{sum_by}
use Rattle.theory_receive_windows.specs.State.{others}
use Rattle.std.specs.List.{list_any}
use Rattle.std.proofs.lemmas.List.Sums.{sum_by-cons}
use Rattle.std.proofs.lemmas.Bool.{eq-eqb, eqb-true}
use Rattle.std.proofs.lemmas.Bool.Decides.{eqb_tells}

-- the stream is among these
abbrev pub is_among : ℕ → List ℕ → Bool
is_among id ids = list_any (λ other. other == id) ids

-- No stream stands twice.
abbrev pub AreApart : List ℕ → Type 0
AreApart [] = Unit {0}
AreApart (id ∷ ids) = (is_among id ids ≡ false) × AreApart ids

-- the same for each is the same for all
pub same_sum : (f g : ℕ → ℕ) (ids : List ℕ) → ((id : ℕ) → is_among id ids ≡ true → f id ≡ g id) → sum_by f ids ≡ sum_by g ids
same_sum f g [] same = refl
same_sum f g (x ∷ xs) same =
    let here : f x ≡ g x = same x (ap (λ b. b || is_among x xs) (eq-eqb x x refl)) in
    let more : sum_by f xs ≡ sum_by g xs = same_sum f g xs (λ id among. same id (by (x == id) (is_among id xs) among)) in
    let a = sum_by-cons f x xs in
    let b = sum_by-cons g x xs in
    omega (arith, here, more, a, b)
  where
    by : (b c : Bool) → c ≡ true → (b || c) ≡ true
    by true c e = refl
    by false c e = e

-- the same for all others, and for a stream that isn't among them
pub same_beside : (f g : ℕ → ℕ) (id : ℕ) (ids : List ℕ) → ((other : ℕ) → (other == id) ≡ false → f other ≡ g other) → is_among id ids ≡ false → sum_by f ids ≡ sum_by g ids
same_beside f g id [] same out = refl
same_beside f g id (x ∷ xs) same out =
    let parts = by (x == id) (is_among id xs) out in
    let here : f x ≡ g x = same x parts.0 in
    let more : sum_by f xs ≡ sum_by g xs = same_beside f g id xs same parts.1 in
    let a = sum_by-cons f x xs in
    let b = sum_by-cons g x xs in
    omega (arith, here, more, a, b)
  where
    by : (b c : Bool) → (b || c) ≡ false → (b ≡ false) × (c ≡ false)
    by true c e = absurd (let no : true ≡ false = e in cc)
    by false c e = (refl, e)

-- one stream of these changes
pub one_changes : (f g : ℕ → ℕ) (id : ℕ) (ids : List ℕ) → AreApart ids → ((other : ℕ) → (other == id) ≡ false → f other ≡ g other) → is_among id ids ≡ true → sum_by f ids + g id ≡ sum_by g ids + f id
one_changes f g id [] apart same among = absurd (let no : false ≡ true = among in cc)
one_changes f g id (x ∷ xs) apart same among =
    let a = sum_by-cons f x xs in
    let b = sum_by-cons g x xs in
    elim (eqb_tells x id) [
      | inl is ↦ (
          let out : is_among id xs ≡ false = ap (λ n. is_among n xs) (sym is.1) ∙ apart.0 in
          let more : sum_by f xs ≡ sum_by g xs = same_beside f g id xs same out in
          let fx : f x ≡ f id = ap f is.1 in
          let gx : g x ≡ g id = ap g is.1 in
          omega (arith, a, b, more, fx, gx)
          )
      | inr off ↦ (
          let more = one_changes f g id xs apart.1 same (ap (λ b. b || is_among id xs) (sym off.0) ∙ among) in
          let here : f x ≡ g x = same x off.0 in
          omega (arith, a, b, more, here)
          )
    ]

-- a stream that isn't among them doesn't go
none_goes : (id : ℕ) (ids : List ℕ) → is_among id ids ≡ false → others id ids ≡ ids
none_goes id [] out = refl
none_goes id (x ∷ xs) out = by (x == id) refl out (λ h. none_goes id xs h)
  where
    by : (b : Bool) → (x == id) ≡ b → (b || is_among id xs) ≡ false → (is_among id xs ≡ false → others id xs ≡ xs) → (if not b then x ∷ others id xs else others id xs) ≡ x ∷ xs
    by true e h more = absurd (let no : true ≡ false = h in cc)
    by false e h more = ap (λ ys. x ∷ ys) (more h)

-- one stream of these goes
pub one_goes : (f : ℕ → ℕ) (id : ℕ) (ids : List ℕ) → AreApart ids → is_among id ids ≡ true → sum_by f (others id ids) + f id ≡ sum_by f ids
one_goes f id [] apart among = absurd (let no : false ≡ true = among in cc)
one_goes f id (x ∷ xs) apart among =
    let a = sum_by-cons f x xs in
    by (x == id) refl a (λ h. one_goes f id xs apart.1 h)
  where
    by : (b : Bool) → (x == id) ≡ b → sum_by f (x ∷ xs) ≡ f x + sum_by f xs → (is_among id xs ≡ true → sum_by f (others id xs) + f id ≡ sum_by f xs) → sum_by f (if not b then x ∷ others id xs else others id xs) + f id ≡ sum_by f (x ∷ xs)
    by true e a more =
        let same : x ≡ id = eqb-true x id e in
        let out : is_among id xs ≡ false = ap (λ n. is_among n xs) (sym same) ∙ apart.0 in
        let gone : sum_by f (others id xs) ≡ sum_by f xs = ap (λ ys. sum_by f ys) (none_goes id xs out) in
        let fx : f x ≡ f id = ap f same in
        omega (arith, a, gone, fx)
    by false e a goes =
        let more = goes (ap (λ b. b || is_among id xs) (sym e) ∙ among) in
        let b = sum_by-cons f x (others id xs) in
        omega (arith, a, b, more)

-- a sum of sums
pub two_sums : (f g h : ℕ → ℕ) (ids : List ℕ) → ((id : ℕ) → f id ≡ g id + h id) → sum_by f ids ≡ sum_by g ids + sum_by h ids
two_sums f g h [] same = refl
two_sums f g h (x ∷ xs) same =
    let here = same x in
    let more = two_sums f g h xs same in
    let a = sum_by-cons f x xs in
    let b = sum_by-cons g x xs in
    let c = sum_by-cons h x xs in
    omega (arith, here, more, a, b, c)

-- Where it is 0 for all others the sum is that of one stream.
pub only_among : (f : ℕ → ℕ) (id : ℕ) (ids : List ℕ) → AreApart ids → is_among id ids ≡ true → ((other : ℕ) → is_among other ids ≡ true → (other == id) ≡ false → f other ≡ 0) → sum_by f ids ≡ f id
only_among f id ids apart among none =
    let one : sum_by f ids ≡ sum_by (λ other. if other == id then f id else 0) ids = same_sum f (λ other. if other == id then f id else 0) ids (λ other there. elim (eqb_tells other id) [
      | inl is ↦ ap f is.1 ∙ sym (ap (λ b. if b then f id else 0) is.0)
      | inr off ↦ none other there off.0 ∙ sym (ap (λ b. if b then f id else 0) off.0)
    ]) in
    let e = one_changes (λ other. if other == id then f id else 0) (λ (n : ℕ). 0) id ids apart (λ other off. ap (λ b. if b then f id else 0) off) among in
    let own : (if id == id then f id else 0) ≡ f id = ap (λ b. if b then f id else 0) (eq-eqb id id refl) in
    let z = nothing ids in
    omega (arith, one, e, own, z)
  where
    nothing : (xs : List ℕ) → sum_by (λ (n : ℕ). 0) xs ≡ 0
    nothing [] = refl
    nothing (x ∷ xs) = let a = sum_by-cons (λ (n : ℕ). 0) x xs in let more = nothing xs in omega (arith, a, more)
