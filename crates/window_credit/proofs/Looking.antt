-- What is found where one stream changes, goes or joins.
use Rattle.std.proofs.Common.{◌≡◌, ◌≢◌, ℕ, ◌<◌, ◌==◌, ◌&&◌, ◌||◌, not, if◌then◌else◌, Bool, true, false, List, [], ◌∷◌, ◌++◌, refl, sym, ap, ◌∙◌, subst, inl, inr}
use Rattle.std.specs.Prelude.{Option, Some, None, map, option_map}
use Rattle.std.specs.List.{list_any}
use Rattle.std.proofs.lemmas.Bool.{eq-eqb, ne_eqb, lt-ltb}
use Rattle.std.proofs.lemmas.Bool.Decides.{eqb_tells}
use Rattle.theory_receive_windows.specs.State.{others}
use Rattle.window_credit.specs.Sides.{Side, find, change, without, is_above_all}

some_same : {x y : Side} → Some x ≡ Some y → x ≡ y
some_same same = cc

-- it is the first or one of the rest
here : (id : ℕ) (x : Side) (sides : List Side) (b : Bool) → (x.id == id) ≡ b → find id (x ∷ sides) ≡ (if b then Some x else find id sides)
here id x sides b is = ap (λ c. if c then Some x else find id sides) is

-- ---- one changes

module _ (id : ℕ) (f : Side → Side) (keeps_id : (x : Side) → (f x).id ≡ x.id) where
  pub changed_own : (sides : List Side) (side : Side) → find id sides ≡ Some side → find id (change id f sides) ≡ Some (f side)
  changed_own [] side found = absurd (let no : ◌≡◌ {A = Option Side} None (Some side) = found in cc)
  changed_own (x ∷ sides) side found = elim (eqb_tells x.id id) [
    | inl own ↦
        ap (λ b. find id (if b then f x ∷ sides else x ∷ change id f sides)) own.0
        ∙ ap (λ b. if b then Some (f x) else find id sides) (eq-eqb (f x).id id (keeps_id x ∙ own.1))
        ∙ ap (λ y. Some (f y)) (some_same (sym (here id x sides true own.0) ∙ found))
    | inr off ↦
        ap (λ b. find id (if b then f x ∷ sides else x ∷ change id f sides)) off.0
        ∙ here id x (change id f sides) false off.0
        ∙ changed_own sides side (sym (here id x sides false off.0) ∙ found)
  ]

  pub changed_other : (other : ℕ) (sides : List Side) → other ≢ id → find other (change id f sides) ≡ find other sides
  changed_other other [] apart = refl
  changed_other other (x ∷ sides) apart = elim (eqb_tells x.id id) [
    | inl own ↦
        ap (λ b. find other (if b then f x ∷ sides else x ∷ change id f sides)) own.0
        ∙ ap (λ b. if b then Some (f x) else find other sides) (ne_eqb (f x).id other (λ same. apart (sym same ∙ keeps_id x ∙ own.1)))
        ∙ sym (here other x sides false (ne_eqb x.id other (λ same. apart (sym same ∙ own.1))))
    | inr off ↦
        ap (λ b. find other (if b then f x ∷ sides else x ∷ change id f sides)) off.0
        ∙ ap (λ rest. if x.id == other then Some x else rest) (changed_other other sides apart)
  ]

-- one of which nothing is kept stays so
pub changed_none : (id : ℕ) (f : Side → Side) → ((x : Side) → (f x).id ≡ x.id) → (other : ℕ) (sides : List Side) → find other sides ≡ None → find other (change id f sides) ≡ None
changed_none id f keeps_id other [] none = refl
changed_none id f keeps_id other (x ∷ sides) none = elim (eqb_tells x.id other) [
  | inl own ↦ absurd (let no : ◌≡◌ {A = Option Side} (Some x) None = sym (here other x sides true own.0) ∙ none in cc)
  | inr off ↦ by (x.id == id) (changed_none id f keeps_id other sides (sym (here other x sides false off.0) ∙ none)) (sym (here other x sides false off.0) ∙ none) off.0
]
  where
    by : (b : Bool) → find other (change id f sides) ≡ None → find other sides ≡ None → (x.id == other) ≡ false → find other (if b then f x ∷ sides else x ∷ change id f sides) ≡ None
    by true more rest off = ap (λ c. if c then Some (f x) else find other sides) (ap (λ n. n == other) (keeps_id x) ∙ off) ∙ rest
    by false more rest off = here other x (change id f sides) false off ∙ more

-- ---- all change

pub mapped_found : (f : Side → Side) → ((x : Side) → (f x).id ≡ x.id) → (id : ℕ) (sides : List Side) → find id (map f sides) ≡ option_map f (find id sides)
mapped_found f keeps_id id [] = refl
mapped_found f keeps_id id (x ∷ sides) =
    ap (λ n. if n == id then Some (f x) else find id (map f sides)) (keeps_id x)
    ∙ by (x.id == id) (mapped_found f keeps_id id sides)
  where
    by : (b : Bool) → find id (map f sides) ≡ option_map f (find id sides) → (if b then Some (f x) else find id (map f sides)) ≡ option_map f (if b then Some x else find id sides)
    by true more = refl
    by false more = more

-- ---- one goes

pub gone_own : (id : ℕ) (sides : List Side) → find id (without id sides) ≡ None
gone_own id [] = refl
gone_own id (x ∷ sides) = elim (eqb_tells x.id id) [
  | inl own ↦ ap (λ b. find id (if b then without id sides else x ∷ without id sides)) own.0 ∙ gone_own id sides
  | inr off ↦ ap (λ b. find id (if b then without id sides else x ∷ without id sides)) off.0 ∙ here id x (without id sides) false off.0 ∙ gone_own id sides
]

pub gone_other : (id other : ℕ) (sides : List Side) → other ≢ id → find other (without id sides) ≡ find other sides
gone_other id other [] apart = refl
gone_other id other (x ∷ sides) apart = elim (eqb_tells x.id id) [
  | inl own ↦
      ap (λ b. find other (if b then without id sides else x ∷ without id sides)) own.0
      ∙ gone_other id other sides apart
      ∙ sym (here other x sides false (ne_eqb x.id other (λ same. apart (sym same ∙ own.1))))
  | inr off ↦
      ap (λ b. find other (if b then without id sides else x ∷ without id sides)) off.0
      ∙ ap (λ rest. if x.id == other then Some x else rest) (gone_other id other sides apart)
]

-- ---- one joins

pub joined_own : (last : Side) (sides : List Side) → find last.id sides ≡ None → find last.id (sides ++ last ∷ []) ≡ Some last
joined_own last [] none = ap (λ b. if b then Some last else None) (eq-eqb last.id last.id refl)
joined_own last (x ∷ sides) none = elim (eqb_tells x.id last.id) [
  | inl own ↦ absurd (let no : ◌≡◌ {A = Option Side} (Some x) None = sym (here last.id x sides true own.0) ∙ none in cc)
  | inr off ↦ here last.id x (sides ++ last ∷ []) false off.0 ∙ joined_own last sides (sym (here last.id x sides false off.0) ∙ none)
]

pub joined_other : (last : Side) (other : ℕ) (sides : List Side) → other ≢ last.id → find other (sides ++ last ∷ []) ≡ find other sides
joined_other last other [] apart = ap (λ b. if b then Some last else None) (ne_eqb last.id other (λ same. apart (sym same)))
joined_other last other (x ∷ sides) apart = ap (λ rest. if x.id == other then Some x else rest) (joined_other last other sides apart)

-- ---- active streams

-- the one that goes isn't among them
pub goes_own : (id : ℕ) (ids : List ℕ) → list_any (λ other. other == id) (others id ids) ≡ false
goes_own id [] = refl
goes_own id (x ∷ ids) = by (x == id) refl (goes_own id ids)
  where
    by : (b : Bool) → (x == id) ≡ b → list_any (λ other. other == id) (others id ids) ≡ false → list_any (λ other. other == id) (if not b then x ∷ others id ids else others id ids) ≡ false
    by true is rest = rest
    by false is rest = ap (λ b. b || list_any (λ other. other == id) (others id ids)) is ∙ rest

-- the others are as they were
pub goes_other : (id other : ℕ) (ids : List ℕ) → other ≢ id → list_any (λ x. x == other) (others id ids) ≡ list_any (λ x. x == other) ids
goes_other id other [] apart = refl
goes_other id other (x ∷ ids) apart = by (x == id) refl (goes_other id other ids apart)
  where
    by : (b : Bool) → (x == id) ≡ b → list_any (λ y. y == other) (others id ids) ≡ list_any (λ y. y == other) ids → list_any (λ y. y == other) (if not b then x ∷ others id ids else others id ids) ≡ ((x == other) || list_any (λ y. y == other) ids)
    by false is rest = ap (λ b. (x == other) || b) rest
    by true is rest = elim (eqb_tells x id) [
      | inl own ↦ rest ∙ sym (ap (λ b. b || list_any (λ y. y == other) ids) (ne_eqb x other (λ same. apart (sym same ∙ own.1))))
      | inr off ↦ absurd (let no : true ≡ false = sym is ∙ off.0 in cc)
    ]

-- ---- all that are kept are found

-- an id is above all where it is above each that is found
pub above_all : (id : ℕ) (sides : List Side) → ((other : ℕ) (side : Side) → find other sides ≡ Some side → other < id) → is_above_all id sides ≡ true
above_all id [] below = refl
above_all id (x ∷ sides) below =
    let first : x.id < id = below x.id x (here x.id x sides true (eq-eqb x.id x.id refl)) in
    ap (λ b. b && is_above_all id sides) (lt-ltb x.id id first)
    ∙ above_all id sides (λ other side found. elim (eqb_tells x.id other) [
      | inl own ↦ subst (λ n. n < id) own.1 first
      | inr off ↦ below other side (here other x sides false off.0 ∙ found)
    ])
