-- The codes of symbols, by computation.
use Rattle.std.proofs.Common.{◌≡◌, ℕ, zero, suc, ◌+◌, ◌⊎◌, Bool, true, false, ◌&&◌, ◌||◌, nat_eq, List, [], ◌∷◌, refl, ap, ◌∙◌, subst, inl, inr, arith, eqb-true, slice_get, Some}
use Rattle.std.specs.Prelude.{Contains}
use Rattle.std.specs.List.{list_any}
use Rattle.model.specs.Huffman.{Code}
use Rattle.model.proofs.HuffmanLemmas.{begins, and_left, and_right, begins_both}

-- this symbol has these bits in the code
abbrev pub has_code : List Code → ℕ → List ℕ → Bool
has_code codes symbol text = list_any (λ (c : Code). nat_eq c.symbol symbol && (begins c.bits text && begins text c.bits)) codes

pub any_code : (codes : List Code) (symbol : ℕ) (text : List ℕ) → has_code codes symbol text ≡ true → let code : Code = record { symbol = symbol; bits = text } in Contains codes code
any_code [] symbol text e = cc
any_code (c ∷ codes) symbol text e = elim (or_cases (nat_eq c.symbol symbol && (begins c.bits text && begins text c.bits)) (has_code codes symbol text) e) [
  | inl here ↦ (let same : c.symbol ≡ symbol = eqb-true c.symbol symbol (and_left (nat_eq c.symbol symbol) ((begins c.bits text && begins text c.bits)) here) in
      let is : c.bits ≡ text = equal_is c.bits text (and_right (nat_eq c.symbol symbol) ((begins c.bits text && begins text c.bits)) here) in
      (0, omega arith, code_same c.symbol symbol c.bits text same is))
  | inr later ↦ (let rest = any_code codes symbol text later in (suc rest.0, omega (arith, rest.1), rest.2))
]
  where
    equal_is : (xs ys : List ℕ) → (begins xs ys && begins ys xs) ≡ true → xs ≡ ys
    equal_is xs ys e = begins_both xs ys (and_left (begins xs ys) (begins ys xs) e) (and_right (begins xs ys) (begins ys xs) e)

    or_cases : (a b : Bool) → (a || b) ≡ true → (a ≡ true) ⊎ (b ≡ true)
    or_cases true b e = inl refl
    or_cases false b e = inr e

    code_same : (s t : ℕ) (a b : List ℕ) → s ≡ t → a ≡ b → let first : Code = record { symbol = s; bits = a } in let second : Code = record { symbol = t; bits = b } in first ≡ second
    code_same s t a b e f =
        ap (λ (x : ℕ). let code : Code = record { symbol = x; bits = a } in code) e
        ∙ ap (λ (x : List ℕ). let code : Code = record { symbol = t; bits = x } in code) f

-- each element passes a test with its place, where the first has this one
abbrev pub all_from : {X : Type 0} → (ℕ → X → Bool) → ℕ → List X → Bool
all_from test place [] = true
all_from test place (x ∷ xs) = test place x && all_from test (suc place) xs

pub from_at : {X : Type 0} (test : ℕ → X → Bool) (first : ℕ) (xs : List X) (place : ℕ) (x : X) → all_from test first xs ≡ true → slice_get xs place ≡ Some x → test (place + first) x ≡ true
from_at test first [] place x e g = cc
from_at test first (y ∷ xs) zero x e g =
    let same : y ≡ x = cc in
    let far : 0 + first ≡ first = omega arith in
    rw far (subst (λ z. test first z ≡ true) same (and_left (test first y) (all_from test (suc first) xs) e))
from_at test first (y ∷ xs) (suc place) x e g =
    let far : suc place + first ≡ place + suc first = omega arith in
    rw far (from_at test (suc first) xs place x (and_right (test first y) (all_from test (suc first) xs) e) g)

pub at_place : {X : Type 0} (test : ℕ → X → Bool) (xs : List X) (place : ℕ) (x : X) → all_from test 0 xs ≡ true → slice_get xs place ≡ Some x → test place x ≡ true
at_place test xs place x e g =
    let same : place + 0 ≡ place = omega arith in
    subst (λ p. test p x ≡ true) same (from_at test 0 xs place x e g)
