-- What stays in a table when the oldest go.
use Rattle.std.proofs.Common.{◌≡◌, ℕ, ◌+◌, ◌-◌, ◌*◌, ◌<◌, ◌≤◌, nat_le, Bool, true, false, leb-true, le-leb, if◌then◌else◌, List, [], ◌∷◌, ◌++◌, length, take, refl, ap, sym, ◌∙◌, arith}
use Rattle.model.specs.Messages.{Field}
use Rattle.model.specs.Tables.{field_size, total_size, keep}

-- two choices agree where their first cases do
if-agree : (b : Bool) (xs ys : List Field) → (b ≡ true → xs ≡ ys) → (if b then xs else []) ≡ (if b then ys else [])
if-agree true xs ys h = h refl
if-agree false xs ys h = refl

if-none : (b : Bool) (xs : List Field) → (b ≡ true → ⊥) → (if b then xs else []) ≡ []
if-none true xs h = absurd (h refl)
if-none false xs h = refl

-- all stay where all fit
pub keep_all : (max : ℕ) (fields : List Field) → total_size fields ≤ max → keep max fields ≡ fields
unfolding keep total_size
keep_all max [] h = refl
keep_all max (field ∷ fields) h =
    let fits : nat_le (field_size field) max ≡ true = le-leb (field_size field) max (omega arith) in
    rw fits (ap (λ rest. field ∷ rest) (keep_all (max - field_size field) fields (omega arith)))

-- where they don't, the oldest doesn't stay
pub keep_front : (max : ℕ) (fields : List Field) (oldest : Field) → max < total_size (fields ++ oldest ∷ []) → keep max (fields ++ oldest ∷ []) ≡ keep max fields
unfolding keep total_size
keep_front max [] oldest h = if-none (nat_le (field_size oldest) max) (oldest ∷ []) (λ e. let fits : field_size oldest ≤ max = leb-true (field_size oldest) max e in omega arith)
keep_front max (field ∷ fields) oldest h =
    if-agree (nat_le (field_size field) max) _ _ (λ e. let fits : field_size field ≤ max = leb-true (field_size field) max e in
    ap (λ rest. field ∷ rest) (keep_front (max - field_size field) fields oldest (omega arith)))

-- a field larger than the maximum leaves nothing
pub keep_none : (max : ℕ) (field : Field) (fields : List Field) → (field_size field ≤ max → ⊥) → keep max (field ∷ fields) ≡ []
unfolding keep
keep_none max field fields h = if-none (nat_le (field_size field) max) (field ∷ keep (max - field_size field) fields) (λ e. h (leb-true (field_size field) max e))

-- what stays is a front
if-front : (b : Bool) (field : Field) (kept fields : List Field) → kept ≡ take (length kept) fields → (if b then field ∷ kept else []) ≡ take (length (if b then field ∷ kept else [])) (field ∷ fields)
if-front true field kept fields front = ap (λ rest. field ∷ rest) front
if-front false field kept fields front = refl

pub keep_is_front : (max : ℕ) (fields : List Field) → keep max fields ≡ take (length (keep max fields)) fields
unfolding keep
keep_is_front max [] = refl
keep_is_front max (field ∷ fields) = if-front (nat_le (field_size field) max) field (keep (max - field_size field) fields) fields (keep_is_front (max - field_size field) fields)

pub total_none : total_size [] ≡ 0
unfolding total_size
total_none = refl

pub total_first : (field : Field) (fields : List Field) → total_size (field ∷ fields) ≡ field_size field + total_size fields
unfolding total_size
total_first field fields = refl

pub total_last : (fields : List Field) (field : Field) → total_size (fields ++ field ∷ []) ≡ total_size fields + field_size field
unfolding total_size
total_last [] field = omega arith
total_last (first ∷ fields) field = let rest = total_last fields field in omega (arith, rest)

-- a field's size is at least 32
pub total_at_least : (fields : List Field) → 32 * length fields ≤ total_size fields
unfolding total_size
total_at_least [] = omega arith
total_at_least (field ∷ fields) = let rest = total_at_least fields in omega (arith, rest)

-- what fields that are too large in sum have: an oldest one
pub no_oldest : (fields : List Field) (size max : ℕ) → fields ≡ [] → size ≡ total_size fields → max < size → ⊥
no_oldest fields size max none total over =
    let zero_size : size ≡ 0 = total ∙ ap total_size none ∙ total_none in
    omega arith

pub oldest_fits : (fields new : List Field) (oldest : Field) (size : ℕ) → fields ≡ new ++ oldest ∷ [] → size ≡ total_size fields → (field_size oldest ≤ size → ⊥) → ⊥
oldest_fits fields new oldest size is total never =
    let last = total_last new oldest in
    let all : size ≡ total_size (new ++ oldest ∷ []) = total ∙ ap total_size is in
    never (omega (arith, last, all))

pub evicted : (fields new first : List Field) (oldest : Field) (size max : ℕ) → fields ≡ new ++ oldest ∷ [] → size ≡ total_size fields → max < size → keep max fields ≡ keep max first → keep max new ≡ keep max first
evicted fields new first oldest size max is total over same =
    let all : size ≡ total_size (new ++ oldest ∷ []) = total ∙ ap total_size is in
    sym (keep_front max new oldest (omega (arith, all))) ∙ ap (keep max) (sym is) ∙ same

pub rest_size : (fields new : List Field) (oldest : Field) (size rest : ℕ) → fields ≡ new ++ oldest ∷ [] → size ≡ total_size fields → rest ≡ size - field_size oldest → rest ≡ total_size new
rest_size fields new oldest size rest is total e =
    let last = total_last new oldest in
    let all : size ≡ total_size (new ++ oldest ∷ []) = total ∙ ap total_size is in
    omega (arith, last, all, e)

pub kept_all : (fields first : List Field) (size max : ℕ) → size ≡ total_size fields → size ≤ max → keep max fields ≡ keep max first → fields ≡ keep max first
kept_all fields first size max total fits same = sym (keep_all max fields (omega (arith, total))) ∙ same

-- the size with a field more
pub added_size : (fields : List Field) (field : Field) (size max room : ℕ) → size ≡ total_size fields → field_size field ≤ max → room ≡ max - field_size field → size + (max - room) ≡ total_size (field ∷ fields)
added_size fields field size max room total fits e = let first = total_first field fields in omega (arith, first, total, e)
