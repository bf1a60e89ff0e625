-- Streams whose ids rise: how they stand in a list, and that changes keep it so.
use Rattle.std.proofs.Common.{◌≡◌, ℕ, zero, suc, ◌<◌, ◌==◌, ◌&&◌, if◌then◌else◌, Bool, true, false, nat_lt, List, [], ◌∷◌, ◌++◌, length, set, refl, sym, ap, ◌∙◌, subst, inl, inr, arith}
use Rattle.std.specs.Prelude.{Option, Some, None, remove}
use Rattle.std.proofs.lemmas.Bool.{and_parts, eq-eqb, ne_eqb, ltb-true}
use Rattle.std.proofs.lemmas.Bool.Decides.{eqb_tells}
use Rattle.theory_responses.specs.State.{Kept, blank, find, change, without}
use Rattle.send_queue.specs.Places.{at, is_below_all, AreRising, IsAt}
use Rattle.send_queue.specs.Asked.{is_above_all}

-- ---- by places

-- an id below all is below each
below_at : (id : ℕ) (ks : List Kept) (i : ℕ) → is_below_all id ks ≡ true → i < length ks → id < (at ks i).id
below_at id [] i below within = absurd (omega (arith, within))
below_at id (k ∷ ks) zero below within = ltb-true id k.id (and_parts (nat_lt id k.id) (is_below_all id ks) below).0
below_at id (k ∷ ks) (suc i) below within = below_at id ks i (and_parts (nat_lt id k.id) (is_below_all id ks) below).1 (omega (arith, within))

-- ids rise from place to place
pub rises : (ks : List Kept) (i j : ℕ) → AreRising ks → i < j → j < length ks → (at ks i).id < (at ks j).id
rises [] i j rising less within = absurd (omega (arith, within))
rises (k ∷ ks) i zero rising less within = absurd (omega (arith, less))
rises (k ∷ ks) zero (suc j) rising less within = below_at k.id ks j rising.0 (omega (arith, within))
rises (k ∷ ks) (suc i) (suc j) rising less within = rises ks i j rising.1 (omega (arith, less)) (omega (arith, within))

-- ---- what stands at a place

-- it is found
pub find_at : (id : ℕ) (ks : List Kept) (place : ℕ) → AreRising ks → IsAt ks id place → find id ks ≡ Some (at ks place)
find_at id [] place rising is = absurd (omega (arith, is.within))
find_at id (k ∷ ks) zero rising is = ap (λ b. if b then Some k else find id ks) (eq-eqb k.id id is.has_id)
find_at id (k ∷ ks) (suc place) rising is =
    let within : place < length ks = omega (arith, is.within) in
    let less : k.id < (at ks place).id = below_at k.id ks place rising.0 within in
    ap (λ b. if b then Some k else find id ks) (ne_eqb k.id id (λ same. omega (arith, same, less, is.has_id)))
    ∙ find_at id ks place rising.1 (record { within = within; has_id = is.has_id })

-- it is what changes
pub change_at : (id : ℕ) (f : Kept → Kept) (ks : List Kept) (place : ℕ) → AreRising ks → IsAt ks id place → change id f ks ≡ set ks place (f (at ks place))
change_at id f [] place rising is = absurd (omega (arith, is.within))
change_at id f (k ∷ ks) zero rising is = ap (λ b. if b then f k ∷ ks else k ∷ change id f ks) (eq-eqb k.id id is.has_id)
change_at id f (k ∷ ks) (suc place) rising is =
    let within : place < length ks = omega (arith, is.within) in
    let less : k.id < (at ks place).id = below_at k.id ks place rising.0 within in
    ap (λ b. if b then f k ∷ ks else k ∷ change id f ks) (ne_eqb k.id id (λ same. omega (arith, same, less, is.has_id)))
    ∙ ap (λ xs. k ∷ xs) (change_at id f ks place rising.1 (record { within = within; has_id = is.has_id }))

-- an id below all is below one that is found
pub below_found : (n id : ℕ) (ks : List Kept) (k : Kept) → is_below_all n ks ≡ true → find id ks ≡ Some k → n < id
below_found n id [] k below found = absurd (let no : ◌≡◌ {A = Option Kept} None (Some k) = found in cc)
below_found n id (x ∷ ks) k below found =
    let parts = and_parts (nat_lt n x.id) (is_below_all n ks) below in
    elim (eqb_tells x.id id) [
      | inl same ↦ subst (λ i. n < i) same.1 (ltb-true n x.id parts.0)
      | inr apart ↦ below_found n id ks k parts.1 (sym (ap (λ b. if b then Some x else find id ks) apart.0) ∙ found)
    ]

-- none has an id that is below all
none_below : (id : ℕ) (ks : List Kept) → is_below_all id ks ≡ true → without id ks ≡ ks
none_below id [] below = refl
none_below id (k ∷ ks) below =
    let parts = and_parts (nat_lt id k.id) (is_below_all id ks) below in
    let less : id < k.id = ltb-true id k.id parts.0 in
    ap (λ b. if b then without id ks else k ∷ without id ks) (ne_eqb k.id id (λ same. omega (arith, same, less))) ∙ ap (λ xs. k ∷ xs) (none_below id ks parts.1)

-- it is what goes
pub without_at : (id : ℕ) (ks : List Kept) (place : ℕ) → AreRising ks → IsAt ks id place → without id ks ≡ remove ks place
without_at id [] place rising is = absurd (omega (arith, is.within))
without_at id (k ∷ ks) zero rising is =
    ap (λ b. if b then without id ks else k ∷ without id ks) (eq-eqb k.id id is.has_id)
    ∙ none_below id ks (ap (λ n. is_below_all n ks) (sym is.has_id) ∙ rising.0)
without_at id (k ∷ ks) (suc place) rising is =
    let within : place < length ks = omega (arith, is.within) in
    let less : k.id < (at ks place).id = below_at k.id ks place rising.0 within in
    ap (λ b. if b then without id ks else k ∷ without id ks) (ne_eqb k.id id (λ same. omega (arith, same, less, is.has_id)))
    ∙ ap (λ xs. k ∷ xs) (without_at id ks place rising.1 (record { within = within; has_id = is.has_id }))

-- ---- where none has the id

-- none is found where each has another id
pub find_none : (id : ℕ) (ks : List Kept) → ((i : ℕ) → i < length ks → (at ks i).id ≡ id → ⊥) → find id ks ≡ None
find_none id [] other = refl
find_none id (k ∷ ks) other =
    ap (λ b. if b then Some k else find id ks) (ne_eqb k.id id (other zero (omega arith)))
    ∙ find_none id ks (λ i within. other (suc i) (omega (arith, within)))

none_found : (id : ℕ) (k : Kept) (ks : List Kept) → find id (k ∷ ks) ≡ None → ((k.id == id) ≡ false) × (find id ks ≡ None)
none_found id k ks none = by (k.id == id) none
  where
    by : (b : Bool) → (if b then Some k else find id ks) ≡ None → (b ≡ false) × (find id ks ≡ None)
    by true e = absurd (let no : ◌≡◌ {A = Option Kept} (Some k) None = e in cc)
    by false e = (refl, e)

-- then nothing changes
pub change_none : (id : ℕ) (f : Kept → Kept) (ks : List Kept) → find id ks ≡ None → change id f ks ≡ ks
change_none id f [] none = refl
change_none id f (k ∷ ks) none =
    let parts = none_found id k ks none in
    ap (λ b. if b then f k ∷ ks else k ∷ change id f ks) parts.0 ∙ ap (λ xs. k ∷ xs) (change_none id f ks parts.1)

-- and none goes
pub without_none : (id : ℕ) (ks : List Kept) → find id ks ≡ None → without id ks ≡ ks
without_none id [] none = refl
without_none id (k ∷ ks) none =
    let parts = none_found id k ks none in
    ap (λ b. if b then without id ks else k ∷ without id ks) parts.0 ∙ ap (λ xs. k ∷ xs) (without_none id ks parts.1)

-- ---- changes keep the ids in order

below_changed : (n id : ℕ) (f : Kept → Kept) (ks : List Kept) → ((k : Kept) → (f k).id ≡ k.id) → is_below_all n (change id f ks) ≡ is_below_all n ks
below_changed n id f [] same = refl
below_changed n id f (k ∷ ks) same = by (k.id == id) (below_changed n id f ks same)
  where
    by : (b : Bool) → is_below_all n (change id f ks) ≡ is_below_all n ks → is_below_all n (if b then f k ∷ ks else k ∷ change id f ks) ≡ (nat_lt n k.id && is_below_all n ks)
    by true rest = ap (λ i. nat_lt n i && is_below_all n ks) (same k)
    by false rest = ap (λ b. nat_lt n k.id && b) rest

pub rising_changed : (id : ℕ) (f : Kept → Kept) (ks : List Kept) → ((k : Kept) → (f k).id ≡ k.id) → AreRising ks → AreRising (change id f ks)
rising_changed id f [] same rising = tt
rising_changed id f (k ∷ ks) same rising = by (k.id == id) (rising_changed id f ks same rising.1)
  where
    by : (b : Bool) → AreRising (change id f ks) → AreRising (if b then f k ∷ ks else k ∷ change id f ks)
    by true rest = (ap (λ n. is_below_all n ks) (same k) ∙ rising.0, rising.1)
    by false rest = (below_changed k.id id f ks same ∙ rising.0, rest)

below_without : (n id : ℕ) (ks : List Kept) → is_below_all n ks ≡ true → is_below_all n (without id ks) ≡ true
below_without n id [] below = refl
below_without n id (k ∷ ks) below =
    let parts = and_parts (nat_lt n k.id) (is_below_all n ks) below in
    by (k.id == id) parts.0 (below_without n id ks parts.1)
  where
    by : (b : Bool) → nat_lt n k.id ≡ true → is_below_all n (without id ks) ≡ true → is_below_all n (if b then without id ks else k ∷ without id ks) ≡ true
    by true first rest = rest
    by false first rest = ap (λ b. b && is_below_all n (without id ks)) first ∙ rest

pub rising_without : (id : ℕ) (ks : List Kept) → AreRising ks → AreRising (without id ks)
rising_without id [] rising = tt
rising_without id (k ∷ ks) rising = by (k.id == id) (rising_without id ks rising.1)
  where
    by : (b : Bool) → AreRising (without id ks) → AreRising (if b then without id ks else k ∷ without id ks)
    by true rest = rest
    by false rest = (below_without k.id id ks rising.0, rest)

below_more : (n id : ℕ) (ks : List Kept) → is_below_all n ks ≡ true → nat_lt n id ≡ true → is_below_all n (ks ++ blank id ∷ []) ≡ true
below_more n id [] below less = ap (λ b. b && true) less
below_more n id (k ∷ ks) below less =
    let parts = and_parts (nat_lt n k.id) (is_below_all n ks) below in
    ap (λ b. b && is_below_all n (ks ++ blank id ∷ [])) parts.0 ∙ below_more n id ks parts.1 less

pub rising_more : (id : ℕ) (ks : List Kept) → is_above_all id ks ≡ true → AreRising ks → AreRising (ks ++ blank id ∷ [])
rising_more id [] above rising = (refl, tt)
rising_more id (k ∷ ks) above rising =
    let parts = and_parts (nat_lt k.id id) (is_above_all id ks) above in
    (below_more k.id id ks rising.0 parts.0, rising_more id ks parts.1 rising.1)
