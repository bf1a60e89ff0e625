-- The smallest and the last of the limits that settings name stand for all of them.
use Rattle.std.proofs.Common.{◌≡◌, ℕ, ◌≤◌, min, List, [], ◌∷◌, fold, Option, Some, None, refl, sym, ◌∙◌, ap, arith}
use Rattle.std.specs.Prelude.{unwrap_or}
use Rattle.std.specs.List.{reduce, last_or}
use Rattle.model.specs.Limits.{first_maximum}
use Rattle.model.specs.Maxima.{counted}
use Rattle.header_blocks.specs.Encoding.{limits_with}
use Rattle.header_blocks.specs.declared.limits.Limits.{Limits}
use Rattle.theory_header_tables.specs.State.{limits_and}

-- the last of numbers, one of which stands in front
abbrev last_of : ℕ → List ℕ → ℕ
last_of l [] = l
last_of l (y ∷ ys) = last_of y ys

last_is : (l : ℕ) (ys : List ℕ) → last_or (Some l) ys ≡ Some (last_of l ys)
last_is l [] = refl
last_is l (y ∷ ys) = last_is y ys

-- the least isn't above the last
least_below : (m l : ℕ) (ys : List ℕ) → m ≤ l → fold min m ys ≤ last_of l ys
least_below m l [] below = below
least_below m l (y ∷ ys) below = least_below (min m y) y ys (omega (arith))

-- what is kept of limits, where the least goes by this
abbrev Kept : (ℕ → ℕ) → ℕ → ℕ → Limits
Kept f m l = record { least = f (counted m); last = counted l }

counted_min : (m y c : ℕ) → min (min m c) (min y c) ≡ min (min m y) c
counted_min m y c = omega (arith)

min_same : (m l c : ℕ) → m ≤ l → min (min m c) (min l c) ≡ min m c
min_same m l c below = omega (arith, below)

module _ (f : ℕ → ℕ) (through : (a y : ℕ) → min (f a) y ≡ f (min a y)) where
  one : (m l y : ℕ) → limits_with (Some (Kept f m l)) y ≡ Kept f (min m y) y
  one m l y = ap (λ n. let x : Limits = record { least = n; last = counted y } in x) (through (counted m) (counted y) ∙ ap f (counted_min m y first_maximum))

  all : (m l : ℕ) (ys : List ℕ) → limits_and (Some (Kept f m l)) ys ≡ Some (Kept f (fold min m ys) (last_of l ys))
  all m l [] = refl
  all m l (y ∷ ys) = ap (λ (x : Limits). limits_and (Some x) ys) (one m l y) ∙ all (min m y) y ys

  twice : (x : ℕ) (ys : List ℕ) → limits_and (Some (Kept f x x)) ys ≡ Some (limits_with (Some (Kept f (fold min x ys) (fold min x ys))) (last_of x ys))
  twice x ys =
      all x x ys
      ∙ ap (λ n. let k : Limits = record { least = n; last = counted (last_of x ys) } in Some k)
      (sym (through (counted (fold min x ys)) (counted (last_of x ys)) ∙ ap f (min_same (fold min x ys) (last_of x ys) first_maximum (least_below x x ys (omega (arith))))))

pub both_stand : (before : Option Limits) (xs : List ℕ) (smallest last : ℕ) → Some smallest ≡ reduce min xs → Some last ≡ last_or None xs → limits_and before xs ≡ Some (limits_with (Some (limits_with before smallest)) last)
both_stand before [] smallest last a b = absurd (let no : Some smallest ≡ None = a in cc)
both_stand None (x ∷ ys) smallest last a b =
    let least : smallest ≡ fold min x ys = let same : Some smallest ≡ Some (fold min x ys) = a in cc in
    let end : last ≡ last_of x ys = let same : Some last ≡ Some (last_of x ys) = b ∙ last_is x ys in cc in
    twice (λ n. n) (λ a y. refl) x ys
    ∙ ap (λ n. Some (limits_with (Some (Kept (λ n. n) n n)) (last_of x ys))) (sym least)
    ∙ ap (λ n. Some (limits_with (Some (Kept (λ n. n) smallest smallest)) n)) (sym end)
both_stand (Some limits) (x ∷ ys) smallest last a b =
    let least : smallest ≡ fold min x ys = let same : Some smallest ≡ Some (fold min x ys) = a in cc in
    let end : last ≡ last_of x ys = let same : Some last ≡ Some (last_of x ys) = b ∙ last_is x ys in cc in
    twice (λ n. min limits.least n) (λ a y. through limits.least a y) x ys
    ∙ ap (λ n. Some (limits_with (Some (Kept (λ n. min limits.least n) n n)) (last_of x ys))) (sym least)
    ∙ ap (λ n. Some (limits_with (Some (Kept (λ n. min limits.least n) smallest smallest)) n)) (sym end)
  where
    through : (b a y : ℕ) → min (min b a) y ≡ min b (min a y)
    through b a y = omega (arith)

pub none_named : (xs : List ℕ) → None ≡ reduce min xs → xs ≡ []
none_named [] is = refl
none_named (x ∷ xs) is = absurd (let no : None ≡ Some (fold min x xs) = is in cc)

pub both_noted : (before : Option Limits) (xs : List ℕ) (smallest result : ℕ) (last : Option ℕ) → Some smallest ≡ reduce min xs → last ≡ last_or None xs → result ≡ unwrap_or last smallest → limits_and before xs ≡ Some (limits_with (Some (limits_with before smallest)) result)
both_noted before [] smallest result last a b c = absurd (let no : Some smallest ≡ None = a in cc)
both_noted before (x ∷ ys) smallest result last a b c =
    both_stand before (x ∷ ys) smallest result a
    (ap (λ n. Some n) (c ∙ ap (λ (o : Option ℕ). unwrap_or o smallest) (b ∙ last_is x ys)) ∙ sym (last_is x ys))
