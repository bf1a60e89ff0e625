-- What a table keeps is the longest front that fits.
use Rattle.std.proofs.Common.{◌≡◌, ℕ, ◌-◌, ◌<◌, ◌≤◌, nat_le, Bool, true, false, leb-true, le-leb, if◌then◌else◌, List, [], ◌∷◌, ◌++◌, length, refl, ap, sym, ◌∙◌, inl, inr, arith}
use Rattle.std.proofs.lemmas.Bool.{cases_lt}
use Rattle.model.specs.Messages.{Field}
use Rattle.model.specs.Tables.{field_size, total_size, keep}

keep_some : (max : ℕ) (field : Field) (fields : List Field) → field_size field ≤ max → keep max (field ∷ fields) ≡ field ∷ keep (max - field_size field) fields
unfolding keep
keep_some max field fields h = let fits : nat_le (field_size field) max ≡ true = le-leb (field_size field) max h in rw fits refl

if_none : (b : Bool) (xs : List Field) → (b ≡ true → ⊥) → (if b then xs else []) ≡ []
if_none true xs h = absurd (h refl)
if_none false xs h = refl

keep_none : (max : ℕ) (field : Field) (fields : List Field) → max < field_size field → keep max (field ∷ fields) ≡ []
unfolding keep
keep_none max field fields h = if_none (nat_le (field_size field) max) (field ∷ keep (max - field_size field) fields) (λ e. let fits : field_size field ≤ max = leb-true (field_size field) max e in omega arith)

pub keep_fits : (max : ℕ) (fields : List Field) → total_size (keep max fields) ≤ max
unfolding total_size keep
keep_fits max [] = omega arith
keep_fits max (field ∷ fields) = elim (cases_lt max (field_size field)) [
  | inl over ↦ rw (keep_none max field fields over) (omega arith)
  | inr fits ↦ (let rest = keep_fits (max - field_size field) fields in rw (keep_some max field fields fits) (omega (arith, rest)))
]

pub keep_front : (max : ℕ) (fields : List Field) → (rest : List Field) × (fields ≡ keep max fields ++ rest)
unfolding keep
keep_front max [] = ([], refl)
keep_front max (field ∷ fields) = elim (cases_lt max (field_size field)) [
  | inl over ↦ (field ∷ fields, rw (keep_none max field fields over) refl)
  | inr fits ↦ (let rest = keep_front (max - field_size field) fields in (rest.0, ap (λ t. field ∷ t) rest.1 ∙ ap (λ k. k ++ rest.0) (sym (keep_some max field fields fits))))
]

pub keep_longest : (max : ℕ) (fields front rest : List Field) → fields ≡ front ++ rest → total_size front ≤ max → length front ≤ length (keep max fields)
unfolding total_size
keep_longest max fields [] rest e h = omega arith
keep_longest max [] (first ∷ front) rest e h = cc
keep_longest max (field ∷ fields) (first ∷ front) rest e h =
    let same : field ≡ first = cc in
    let tails : fields ≡ front ++ rest = cc in
    let sizes : field_size field ≡ field_size first = ap field_size same in
    let fits : field_size field ≤ max = omega arith in
    let later : length front ≤ length (keep (max - field_size field) fields) = keep_longest (max - field_size field) fields front rest tails (omega arith) in
    rw (keep_some max field fields fits) (omega (arith, later))
