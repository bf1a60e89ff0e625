-- No stream is kept twice, behind each change; so a sum over streams of what is kept of each is one over what is kept.
use Rattle.std.proofs.Common.{◌≡◌, ℕ, ◌==◌, ◌||◌, if◌then◌else◌, Bool, true, false, List, [], ◌∷◌, ◌++◌, refl, sym, ap, ◌∙◌, inl, inr, arith}
use Rattle.std.specs.Prelude.{Option, Some, None, map, sum_by}
use Rattle.std.proofs.lemmas.Bool.{eq-eqb, ne_eqb}
use Rattle.std.proofs.lemmas.Bool.Decides.{eqb_tells}
use Rattle.std.proofs.lemmas.List.Sums.{sum_by-cons}
use Rattle.theory_receive_windows.proofs.Sums.{AreApart as StandApart, is_among, one_changes}
use Rattle.window_credit.specs.Sides.{Side, find, change, without}
use Rattle.window_credit.specs.Standing.{AreApart, ids_of}

-- ---- changes keep the ids

pub changed_ids : (id : ℕ) (f : Side → Side) → ((x : Side) → (f x).id ≡ x.id) → (sides : List Side) → ids_of (change id f sides) ≡ ids_of sides
changed_ids id f keeps_id [] = refl
changed_ids id f keeps_id (x ∷ sides) = by (x.id == id) (changed_ids id f keeps_id sides)
  where
    by : (b : Bool) → ids_of (change id f sides) ≡ ids_of sides → ids_of (if b then f x ∷ sides else x ∷ change id f sides) ≡ x.id ∷ ids_of sides
    by true more = ap (λ n. n ∷ ids_of sides) (keeps_id x)
    by false more = ap (λ ns. x.id ∷ ns) more

pub mapped_ids : (f : Side → Side) → ((x : Side) → (f x).id ≡ x.id) → (sides : List Side) → ids_of (map f sides) ≡ ids_of sides
mapped_ids f keeps_id [] = refl
mapped_ids f keeps_id (x ∷ sides) = ap (λ n. n ∷ ids_of (map f sides)) (keeps_id x) ∙ ap (λ ns. x.id ∷ ns) (mapped_ids f keeps_id sides)

-- ---- fewer and more

parts : (b c : Bool) → (b || c) ≡ false → (b ≡ false) × (c ≡ false)
parts true c e = absurd (let no : true ≡ false = e in cc)
parts false c e = (refl, e)

out_without : (n id : ℕ) (sides : List Side) → is_among n (ids_of sides) ≡ false → is_among n (ids_of (without id sides)) ≡ false
out_without n id [] out = refl
out_without n id (x ∷ sides) out =
    let two = parts (x.id == n) (is_among n (ids_of sides)) out in
    by (x.id == id) two.0 (out_without n id sides two.1)
  where
    by : (b : Bool) → (x.id == n) ≡ false → is_among n (ids_of (without id sides)) ≡ false → is_among n (ids_of (if b then without id sides else x ∷ without id sides)) ≡ false
    by true off more = more
    by false off more = ap (λ b. b || is_among n (ids_of (without id sides))) off ∙ more

pub apart_without : (id : ℕ) (sides : List Side) → AreApart (ids_of sides) → AreApart (ids_of (without id sides))
apart_without id [] apart = tt
apart_without id (x ∷ sides) apart = by (x.id == id) (apart_without id sides apart.1)
  where
    by : (b : Bool) → AreApart (ids_of (without id sides)) → AreApart (ids_of (if b then without id sides else x ∷ without id sides))
    by true more = more
    by false more = (out_without x.id id sides apart.0, more)

-- none with another's id is found
pub none_among : (id : ℕ) (sides : List Side) → is_among id (ids_of sides) ≡ false → find id sides ≡ None
none_among id [] out = refl
none_among id (x ∷ sides) out =
    let two = parts (x.id == id) (is_among id (ids_of sides)) out in
    ap (λ b. if b then Some x else find id sides) two.0 ∙ none_among id sides two.1

rest_of : (id : ℕ) (x : Side) (sides : List Side) → find id (x ∷ sides) ≡ None → ((x.id == id) ≡ false) × (find id sides ≡ None)
rest_of id x sides none = by (x.id == id) none
  where
    by : (b : Bool) → (if b then Some x else find id sides) ≡ None → (b ≡ false) × (find id sides ≡ None)
    by true e = absurd (let no : ◌≡◌ {A = Option Side} (Some x) None = e in cc)
    by false e = (refl, e)

out_joined : (n : ℕ) (last : Side) (sides : List Side) → is_among n (ids_of sides) ≡ false → (last.id == n) ≡ false → is_among n (ids_of (sides ++ last ∷ [])) ≡ false
out_joined n last [] out off = ap (λ b. b || false) off
out_joined n last (x ∷ sides) out off =
    let two = parts (x.id == n) (is_among n (ids_of sides)) out in
    ap (λ b. b || is_among n (ids_of (sides ++ last ∷ []))) two.0 ∙ out_joined n last sides two.1 off

turned : (a b : ℕ) → (a == b) ≡ false → (b == a) ≡ false
turned a b off = ne_eqb b a (λ same. absurd (let no : true ≡ false = sym (eq-eqb a b (sym same)) ∙ off in cc))

pub apart_joined : (last : Side) (sides : List Side) → find last.id sides ≡ None → AreApart (ids_of sides) → AreApart (ids_of (sides ++ last ∷ []))
apart_joined last [] none apart = (refl, tt)
apart_joined last (x ∷ sides) none apart =
    let two = rest_of last.id x sides none in
    (out_joined x.id last sides apart.0 (turned x.id last.id two.0), apart_joined last sides two.1 apart.1)

-- ---- sums

zeros : (g : Option Side → ℕ) → g None ≡ 0 → (ids : List ℕ) → sum_by (λ (n : ℕ). g None) ids ≡ 0
zeros g zero [] = refl
zeros g zero (x ∷ ids) = let a = sum_by-cons (λ (n : ℕ). g None) x ids in let more = zeros g zero ids in omega (arith, a, zero, more)

-- what is summed of all that are kept is what is summed of all streams, of which nothing else is kept
pub over_sides : (g : Option Side → ℕ) → g None ≡ 0 → (sides : List Side) (ids : List ℕ) → StandApart ids → AreApart (ids_of sides)
    → ((id : ℕ) (side : Side) → find id sides ≡ Some side → is_among id ids ≡ true)
    → sum_by (λ x. g (find x sides)) ids ≡ sum_by (λ side. g (Some side)) sides
over_sides g zero [] ids alone apart among = zeros g zero ids
over_sides g zero (y ∷ sides) ids alone apart among =
    let f : ℕ → ℕ = λ x. g (find x (y ∷ sides)) in
    let rest : ℕ → ℕ = λ x. g (find x sides) in
    let found : find y.id (y ∷ sides) ≡ Some y = ap (λ b. if b then Some y else find y.id sides) (eq-eqb y.id y.id refl) in
    let own : f y.id ≡ g (Some y) = ap g found in
    let none : rest y.id ≡ 0 = ap g (none_among y.id sides apart.0) ∙ zero in
    let change = one_changes f rest y.id ids alone (λ other off. ap (λ b. g (if b then Some y else find other sides)) (turned other y.id off)) (among y.id y found) in
    let more : sum_by rest ids ≡ sum_by (λ side. g (Some side)) sides = over_sides g zero sides ids alone apart.1 (λ id side is. elim (eqb_tells y.id id) [
      | inl same ↦ among id y (ap (λ b. if b then Some y else find id sides) same.0)
      | inr off ↦ among id side (ap (λ b. if b then Some y else find id sides) off.0 ∙ is)
    ]) in
    let all = sum_by-cons (λ side. g (Some side)) y sides in
    omega (arith, own, none, change, more, all)
