-- Lists that are turned round and mapped.
use Rattle.std.proofs.Common.{◌≡◌, ℕ, ◌+◌, ◌-◌, ◌<◌, Bool, List, [], ◌∷◌, ◌++◌, length, map, get_or, refl, sym, ap, ◌∙◌, arith, cond}
use Rattle.std.specs.Prelude.{reverse, suc}
use Rattle.std.specs.List.{All, count_by}
use Rattle.std.proofs.lemmas.List.{reverse-append, map-append, length-reverse, length-map, get_or-reverse, get_or-map, ext_get_or}
use Rattle.std.proofs.lemmas.List.Elements.{All-from_get_or}
use Rattle.std.proofs.lemmas.List.Sums.{sum_by-cons, sum_by_push}

-- what is mapped and then turned round
pub map-reverse : {A B : Type 0} (f : A → B) (xs : List A) → map f (reverse xs) ≡ reverse (map f xs)
map-reverse f [] = refl
map-reverse f (x ∷ xs) =
    ap (map f) (reverse-append (x ∷ []) xs)
    ∙ map-append f (reverse xs) (x ∷ [])
    ∙ ap (λ ys. ys ++ f x ∷ []) (map-reverse f xs)
    ∙ sym (reverse-append (f x ∷ []) (map f xs))

pub map-map : {A B C : Type 0} (f : A → B) (g : B → C) (xs : List A) → map g (map f xs) ≡ map (λ x. g (f x)) xs
map-map f g [] = refl
map-map f g (x ∷ xs) = ap (λ ys. g (f x) ∷ ys) (map-map f g xs)

-- lists that are mapped to the same, place by place
pub mapped_same : {A B C : Type 0} (f : A → C) (g : B → C) (xs : List A) (ys : List B) (d : A) (e : B) → length xs ≡ length ys
    → ((i : ℕ) → i < length xs → f (get_or xs i d) ≡ g (get_or ys i e)) → map f xs ≡ map g ys
mapped_same f g xs ys d e same at =
    ext_get_or (f d) (map f xs) (map g ys) (length-map xs f ∙ same ∙ sym (length-map ys g)) (λ i lt.
    let l : i < length xs = omega (arith, lt, length-map xs f) in
    let l' : i < length ys = omega (arith, l, same) in
    get_or-map f xs i d (f d) l ∙ at i l ∙ sym (get_or-map g ys i e (f d) l'))

-- what holds of each place holds of each when they are turned round, and the other way
pub all_turned : {A B : Type 0} (P : B → Type 0) (f : A → B) (xs : List A) (d : A) → ((i : ℕ) → i < length xs → P (f (get_or xs i d))) → All P (reverse (map f xs))
all_turned P f xs d each = All-from_get_or P (reverse (map f xs)) (f d) (λ i lt.
    let l : i < length (map f xs) = omega (arith, lt, length-reverse (map f xs)) in
    let m : length (map f xs) - 1 - i < length xs = omega (arith, l, length-map xs f) in
    let is : get_or (reverse (map f xs)) i (f d) ≡ f (get_or xs (length (map f xs) - 1 - i) d) =
    get_or-reverse (map f xs) i (f d) l ∙ get_or-map f xs (length (map f xs) - 1 - i) d (f d) m in
    rw is (each (length (map f xs) - 1 - i) m))

pub all_back : {A B : Type 0} (P : B → Type 0) (f : A → B) (xs : List A) (d : A) → All P (reverse (map f xs)) → (i : ℕ) → i < length xs → P (f (get_or xs i d))
all_back P f xs d all i lt =
    let n : ℕ = length (map f xs) - 1 - i in
    let l : n < length (map f xs) = omega (arith, lt, length-map xs f) in
    let r : n < length (reverse (map f xs)) = omega (arith, l, length-reverse (map f xs)) in
    let back : length (map f xs) - 1 - n ≡ i = omega (arith, lt, length-map xs f) in
    let is : get_or (reverse (map f xs)) n (f d) ≡ f (get_or xs i d) =
    get_or-reverse (map f xs) n (f d) l ∙ ap (λ k. get_or (map f xs) k (f d)) back ∙ get_or-map f xs i d (f d) lt in
    rw (← is) (all n (f d) r)

-- turned round, as many pass a test
pub count-reverse : {A : Type 0} (p : A → Bool) (xs : List A) → count_by p (reverse xs) ≡ count_by p xs
count-reverse p [] = refl
count-reverse p (x ∷ xs) =
    ap (count_by p) (reverse-append (x ∷ []) xs)
    ∙ sum_by_push (λ x. cond (p x) 1 0) (reverse xs) x
    ∙ omega (arith, count-reverse p xs, sum_by-cons (λ x. cond (p x) 1 0) x xs)

-- as many pass a test as pass another of what they are mapped to
pub count_mapped : {A B : Type 0} (p : A → Bool) (q : B → Bool) (f : A → B) (xs : List A) (d : A) → ((i : ℕ) → i < length xs → q (f (get_or xs i d)) ≡ p (get_or xs i d)) → count_by q (map f xs) ≡ count_by p xs
count_mapped p q f [] d same = refl
count_mapped p q f (x ∷ xs) d same =
    sum_by-cons (λ y. cond (q y) 1 0) (f x) (map f xs)
    ∙ ap (λ b. cond b 1 0 + count_by q (map f xs)) (same 0 (omega arith))
    ∙ ap (λ n. cond (p x) 1 0 + n) (count_mapped p q f xs d (λ i lt. same (suc i) (omega arith)))
    ∙ sym (sum_by-cons (λ x. cond (p x) 1 0) x xs)
