-- The maxima with which a block begins are determined.
use Rattle.std.proofs.Common.{◌≡◌, ℕ, ◌≤◌, ◌==◌, nat_lt, min, if◌then◌else◌, List, [], ◌∷◌, ◌++◌, length, map, ap, sym, ◌∙◌, arith, length-append}
use Rattle.std.proofs.lemmas.List.Elements.{All-contains}
use Rattle.model.specs.Maxima.{counted, IsLeast, IsLast, Announces, Maxima}

one_least : (numbers : List ℕ) (a b : ℕ) → IsLeast numbers a → IsLeast numbers b → a ≡ b
one_least numbers a b p q =
    let low : a ≤ b = All-contains (λ n. a ≤ n) numbers b p.below q.named in
    let high : b ≤ a = All-contains (λ n. b ≤ n) numbers a q.below p.named in
    omega (arith, low, high)

nothing_ends : (xs : List ℕ) (a : ℕ) → [] ≡ xs ++ a ∷ [] → ⊥
nothing_ends xs a e = let sizes = ap length e in let both = length-append xs (a ∷ []) in omega (arith, sizes, both)

same_end : (xs ys : List ℕ) (a b : ℕ) → xs ++ a ∷ [] ≡ ys ++ b ∷ [] → a ≡ b
same_end [] [] a b e = cc
same_end [] (y ∷ ys) a b e = absurd (nothing_ends ys b (let tails : [] ≡ ys ++ b ∷ [] = cc in tails))
same_end (x ∷ xs) [] a b e = absurd (nothing_ends xs a (let tails : [] ≡ xs ++ a ∷ [] = cc in tails))
same_end (x ∷ xs) (y ∷ ys) a b e = same_end xs ys a b (let tails : xs ++ a ∷ [] ≡ ys ++ b ∷ [] = cc in tails)

one_last : (numbers : List ℕ) (a b : ℕ) → IsLast numbers a → IsLast numbers b → a ≡ b
one_last numbers a b p q = same_end p.before q.before a b (sym p.is ∙ q.is)

one_announcement : (maximum : ℕ) (limits xs ys : List ℕ) → Announces maximum limits xs → Announces maximum limits ys → xs ≡ ys
one_announcement maximum limits xs ys p q =
    let least = one_least limits p.least q.least p.is_least q.is_least in
    let last = one_last limits p.last q.last p.is_last q.is_last in
    p.is ∙ ap (λ l. (if nat_lt l maximum then l ∷ [] else []) ++ (if p.last == min l maximum then [] else p.last ∷ [])) least
    ∙ ap (λ l. (if nat_lt q.least maximum then q.least ∷ [] else []) ++ (if l == min q.least maximum then [] else l ∷ [])) last ∙ sym q.is

pub one_maxima : (maximum : ℕ) (limits xs ys : List ℕ) → Maxima maximum limits xs → Maxima maximum limits ys → xs ≡ ys
one_maxima maximum [] xs ys p q = p ∙ sym q
one_maxima maximum (limit ∷ limits) xs ys p q = one_announcement maximum (map counted (limit ∷ limits)) xs ys p q
