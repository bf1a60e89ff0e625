-- Streams whose ids rise: how they stand in a list, and that changes keep it so.
use Rattle.std.proofs.Common.{◌≡◌, ℕ, zero, suc, ◌<◌, ◌==◌, ◌&&◌, if◌then◌else◌, Bool, true, false, nat_lt, List, [], ◌∷◌, ◌++◌, length, set, refl, sym, ap, ◌∙◌, arith}
use Rattle.std.specs.Prelude.{Option, Some, None, map, remove}
use Rattle.std.proofs.lemmas.Bool.{and_parts, eq-eqb, ne_eqb, ltb-true}
use Rattle.window_credit.specs.Sides.{Side, find, change, without, is_above_all}
use Rattle.window_credit.specs.Places.{at, is_below_all, AreRising, IsAt}

-- ---- by places

-- an id below all is below each
below_at : (id : ℕ) (sides : List Side) (i : ℕ) → is_below_all id sides ≡ true → i < length sides → id < (at sides i).id
below_at id [] i below within = absurd (omega (arith, within))
below_at id (side ∷ sides) zero below within = ltb-true id side.id (and_parts (nat_lt id side.id) (is_below_all id sides) below).0
below_at id (side ∷ sides) (suc i) below within = below_at id sides i (and_parts (nat_lt id side.id) (is_below_all id sides) below).1 (omega (arith, within))

-- ids rise from place to place
pub rises : (sides : List Side) (i j : ℕ) → AreRising sides → i < j → j < length sides → (at sides i).id < (at sides j).id
rises [] i j rising less within = absurd (omega (arith, within))
rises (side ∷ sides) i zero rising less within = absurd (omega (arith, less))
rises (side ∷ sides) zero (suc j) rising less within = below_at side.id sides j rising.0 (omega (arith, within))
rises (side ∷ sides) (suc i) (suc j) rising less within = rises sides i j rising.1 (omega (arith, less)) (omega (arith, within))

-- ---- what stands at a place

-- it is found
pub find_at : (id : ℕ) (sides : List Side) (place : ℕ) → AreRising sides → IsAt sides id place → find id sides ≡ Some (at sides place)
find_at id [] place rising is = absurd (omega (arith, is.within))
find_at id (side ∷ sides) zero rising is = ap (λ b. if b then Some side else find id sides) (eq-eqb side.id id is.has_id)
find_at id (side ∷ sides) (suc place) rising is =
    let within : place < length sides = omega (arith, is.within) in
    let less : side.id < (at sides place).id = below_at side.id sides place rising.0 within in
    ap (λ b. if b then Some side else find id sides) (ne_eqb side.id id (λ same. omega (arith, same, less, is.has_id)))
    ∙ find_at id sides place rising.1 (record { within = within; has_id = is.has_id })

-- it is what changes
pub change_at : (id : ℕ) (f : Side → Side) (sides : List Side) (place : ℕ) → AreRising sides → IsAt sides id place → change id f sides ≡ set sides place (f (at sides place))
change_at id f [] place rising is = absurd (omega (arith, is.within))
change_at id f (side ∷ sides) zero rising is = ap (λ b. if b then f side ∷ sides else side ∷ change id f sides) (eq-eqb side.id id is.has_id)
change_at id f (side ∷ sides) (suc place) rising is =
    let within : place < length sides = omega (arith, is.within) in
    let less : side.id < (at sides place).id = below_at side.id sides place rising.0 within in
    ap (λ b. if b then f side ∷ sides else side ∷ change id f sides) (ne_eqb side.id id (λ same. omega (arith, same, less, is.has_id)))
    ∙ ap (λ xs. side ∷ xs) (change_at id f sides place rising.1 (record { within = within; has_id = is.has_id }))

-- none has an id that is below all
none_below : (id : ℕ) (sides : List Side) → is_below_all id sides ≡ true → without id sides ≡ sides
none_below id [] below = refl
none_below id (side ∷ sides) below =
    let parts = and_parts (nat_lt id side.id) (is_below_all id sides) below in
    let less : id < side.id = ltb-true id side.id parts.0 in
    ap (λ b. if b then without id sides else side ∷ without id sides) (ne_eqb side.id id (λ same. omega (arith, same, less))) ∙ ap (λ xs. side ∷ xs) (none_below id sides parts.1)

-- it is what goes
pub without_at : (id : ℕ) (sides : List Side) (place : ℕ) → AreRising sides → IsAt sides id place → without id sides ≡ remove sides place
without_at id [] place rising is = absurd (omega (arith, is.within))
without_at id (side ∷ sides) zero rising is =
    ap (λ b. if b then without id sides else side ∷ without id sides) (eq-eqb side.id id is.has_id)
    ∙ none_below id sides (ap (λ n. is_below_all n sides) (sym is.has_id) ∙ rising.0)
without_at id (side ∷ sides) (suc place) rising is =
    let within : place < length sides = omega (arith, is.within) in
    let less : side.id < (at sides place).id = below_at side.id sides place rising.0 within in
    ap (λ b. if b then without id sides else side ∷ without id sides) (ne_eqb side.id id (λ same. omega (arith, same, less, is.has_id)))
    ∙ ap (λ xs. side ∷ xs) (without_at id sides place rising.1 (record { within = within; has_id = is.has_id }))

-- ---- where none has the id

-- none is found where each has another id
pub find_none : (id : ℕ) (sides : List Side) → ((i : ℕ) → i < length sides → (at sides i).id ≡ id → ⊥) → find id sides ≡ None
find_none id [] other = refl
find_none id (side ∷ sides) other =
    ap (λ b. if b then Some side else find id sides) (ne_eqb side.id id (other zero (omega arith)))
    ∙ find_none id sides (λ i within. other (suc i) (omega (arith, within)))

none_found : (id : ℕ) (side : Side) (sides : List Side) → find id (side ∷ sides) ≡ None → ((side.id == id) ≡ false) × (find id sides ≡ None)
none_found id side sides none = by (side.id == id) none
  where
    by : (b : Bool) → (if b then Some side else find id sides) ≡ None → (b ≡ false) × (find id sides ≡ None)
    by true e = absurd (let no : ◌≡◌ {A = Option Side} (Some side) None = e in cc)
    by false e = (refl, e)

-- then nothing changes
pub change_none : (id : ℕ) (f : Side → Side) (sides : List Side) → find id sides ≡ None → change id f sides ≡ sides
change_none id f [] none = refl
change_none id f (side ∷ sides) none =
    let parts = none_found id side sides none in
    ap (λ b. if b then f side ∷ sides else side ∷ change id f sides) parts.0 ∙ ap (λ xs. side ∷ xs) (change_none id f sides parts.1)

-- and none goes
pub without_none : (id : ℕ) (sides : List Side) → find id sides ≡ None → without id sides ≡ sides
without_none id [] none = refl
without_none id (side ∷ sides) none =
    let parts = none_found id side sides none in
    ap (λ b. if b then without id sides else side ∷ without id sides) parts.0 ∙ ap (λ xs. side ∷ xs) (without_none id sides parts.1)

-- ---- changes keep the ids in order

below_changed : (n id : ℕ) (f : Side → Side) (sides : List Side) → ((side : Side) → (f side).id ≡ side.id) → is_below_all n (change id f sides) ≡ is_below_all n sides
below_changed n id f [] same = refl
below_changed n id f (side ∷ sides) same = by (side.id == id) (below_changed n id f sides same)
  where
    by : (b : Bool) → is_below_all n (change id f sides) ≡ is_below_all n sides → is_below_all n (if b then f side ∷ sides else side ∷ change id f sides) ≡ (nat_lt n side.id && is_below_all n sides)
    by true rest = ap (λ i. nat_lt n i && is_below_all n sides) (same side)
    by false rest = ap (λ b. nat_lt n side.id && b) rest

pub rising_changed : (id : ℕ) (f : Side → Side) (sides : List Side) → ((side : Side) → (f side).id ≡ side.id) → AreRising sides → AreRising (change id f sides)
rising_changed id f [] same rising = tt
rising_changed id f (side ∷ sides) same rising = by (side.id == id) (rising_changed id f sides same rising.1)
  where
    by : (b : Bool) → AreRising (change id f sides) → AreRising (if b then f side ∷ sides else side ∷ change id f sides)
    by true rest = (ap (λ n. is_below_all n sides) (same side) ∙ rising.0, rising.1)
    by false rest = (below_changed side.id id f sides same ∙ rising.0, rest)

below_without : (n id : ℕ) (sides : List Side) → is_below_all n sides ≡ true → is_below_all n (without id sides) ≡ true
below_without n id [] below = refl
below_without n id (side ∷ sides) below =
    let parts = and_parts (nat_lt n side.id) (is_below_all n sides) below in
    by (side.id == id) parts.0 (below_without n id sides parts.1)
  where
    by : (b : Bool) → nat_lt n side.id ≡ true → is_below_all n (without id sides) ≡ true → is_below_all n (if b then without id sides else side ∷ without id sides) ≡ true
    by true first rest = rest
    by false first rest = ap (λ b. b && is_below_all n (without id sides)) first ∙ rest

pub rising_without : (id : ℕ) (sides : List Side) → AreRising sides → AreRising (without id sides)
rising_without id [] rising = tt
rising_without id (side ∷ sides) rising = by (side.id == id) (rising_without id sides rising.1)
  where
    by : (b : Bool) → AreRising (without id sides) → AreRising (if b then without id sides else side ∷ without id sides)
    by true rest = rest
    by false rest = (below_without side.id id sides rising.0, rest)

below_more : (n : ℕ) (last : Side) (sides : List Side) → is_below_all n sides ≡ true → nat_lt n last.id ≡ true → is_below_all n (sides ++ last ∷ []) ≡ true
below_more n last [] below less = ap (λ b. b && true) less
below_more n last (side ∷ sides) below less =
    let parts = and_parts (nat_lt n side.id) (is_below_all n sides) below in
    ap (λ b. b && is_below_all n (sides ++ last ∷ [])) parts.0 ∙ below_more n last sides parts.1 less

pub rising_more : (last : Side) (sides : List Side) → is_above_all last.id sides ≡ true → AreRising sides → AreRising (sides ++ last ∷ [])
rising_more last [] above rising = (refl, tt)
rising_more last (side ∷ sides) above rising =
    let parts = and_parts (nat_lt side.id last.id) (is_above_all last.id sides) above in
    (below_more side.id last sides rising.0 parts.0, rising_more last sides parts.1 rising.1)

below_mapped : (n : ℕ) (f : Side → Side) (sides : List Side) → ((side : Side) → (f side).id ≡ side.id) → is_below_all n (map f sides) ≡ is_below_all n sides
below_mapped n f [] same = refl
below_mapped n f (side ∷ sides) same = ap (λ i. nat_lt n i && is_below_all n (map f sides)) (same side) ∙ ap (λ b. nat_lt n side.id && b) (below_mapped n f sides same)

pub rising_mapped : (f : Side → Side) (sides : List Side) → ((side : Side) → (f side).id ≡ side.id) → AreRising sides → AreRising (map f sides)
rising_mapped f [] same rising = tt
rising_mapped f (side ∷ sides) same rising = (ap (λ n. is_below_all n (map f sides)) (same side) ∙ below_mapped side.id f sides same ∙ rising.0, rising_mapped f sides same rising.1)
