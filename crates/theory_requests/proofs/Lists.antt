-- Looking things up by their number.
use Rattle.std.proofs.Common.{◌≡◌, ℕ, Bool, true, false, ◌==◌, List, [], ◌∷◌, map, refl, sym, ap, ◌∙◌, inl, inr, if◌then◌else◌}
use Rattle.std.specs.Prelude.{Option, Some, None, option_map}
use Rattle.std.specs.List.{list_any}
use Rattle.std.proofs.lemmas.Bool.{eq-eqb, ne_eqb, or_parts}
use Rattle.std.proofs.lemmas.Bool.Decides.{eqb_tells}
use Rattle.theory_requests.specs.Lines.{find, without}
use Rattle.theory_requests.specs.State.{Way, Held, id_of, held_of, with_way, held_at, held_with}

module _ {A : Type 0} (key : A → ℕ) where
  -- what is found has the number
  pub found_key : (n : ℕ) (xs : List A) (x : A) → find key n xs ≡ Some x → key x ≡ n
  found_key n [] x e = cc
  found_key n (y ∷ ys) x e = elim (eqb_tells (key y) n) [
    | inl same ↦ (let found : Some y ≡ Some x = sym (ap (λ b. if b then Some y else find key n ys) same.0) ∙ e in let is : y ≡ x = cc in ap key (sym is) ∙ same.1)
    | inr apart ↦ found_key n ys x (sym (ap (λ b. if b then Some y else find key n ys) apart.0) ∙ e)
  ]

  -- a thing before the others
  pub find_first : (n : ℕ) (x : A) (xs : List A) → key x ≡ n → find key n (x ∷ xs) ≡ Some x
  find_first n x xs e = ap (λ b. if b then Some x else find key n xs) (eq-eqb (key x) n e)

  pub find_past : (n : ℕ) (x : A) (xs : List A) → (key x ≡ n → ⊥) → find key n (x ∷ xs) ≡ find key n xs
  find_past n x xs apart = ap (λ b. if b then Some x else find key n xs) (ne_eqb (key x) n apart)

  -- each thing changes, and keeps its number
  pub find_map : (f : A → A) → ((x : A) → key (f x) ≡ key x) → (n : ℕ) (xs : List A) → find key n (map f xs) ≡ option_map f (find key n xs)
  find_map f keeps n [] = refl
  find_map f keeps n (x ∷ xs) = ap (λ m. if m == n then Some (f x) else find key n (map f xs)) (keeps x) ∙ by (key x == n) (find_map f keeps n xs)
    where
      by : (b : Bool) → find key n (map f xs) ≡ option_map f (find key n xs) → (if b then Some (f x) else find key n (map f xs)) ≡ option_map f (if b then Some x else find key n xs)
      by true more = refl
      by false more = more

  -- so what is found then was found before, and the other way round
  pub mapped_found : (f : A → A) → ((x : A) → key (f x) ≡ key x) → (n : ℕ) (xs : List A) (y : A) → find key n (map f xs) ≡ Some y → (x : A) × (find key n xs ≡ Some x) × (y ≡ f x)
  mapped_found f keeps n xs y e = by (find key n xs) refl (sym (find_map f keeps n xs) ∙ e)
    where
      by : (o : Option A) → find key n xs ≡ o → option_map f o ≡ Some y → (x : A) × (find key n xs ≡ Some x) × (y ≡ f x)
      by None none e = absurd (cc)
      by (Some x) found e = let same : f x ≡ y = cc in (x, found, sym same)

  pub mapped_finds : (f : A → A) → ((x : A) → key (f x) ≡ key x) → (n : ℕ) (xs : List A) (x : A) → find key n xs ≡ Some x → find key n (map f xs) ≡ Some (f x)
  mapped_finds f keeps n xs x found = find_map f keeps n xs ∙ ap (option_map f) found

  -- where none passes a test, one that is found doesn't
  pub none_passes : (test : A → Bool) → (n : ℕ) (xs : List A) (x : A) → list_any test xs ≡ false → find key n xs ≡ Some x → test x ≡ false
  none_passes test n [] x none e = cc
  none_passes test n (y ∷ ys) x none e =
      let parts = or_parts (test y) (list_any test ys) none in
      elim (eqb_tells (key y) n) [
        | inl same ↦ (let found : Some y ≡ Some x = sym (ap (λ b. if b then Some y else find key n ys) same.0) ∙ e in let is : y ≡ x = cc in ap test (sym is) ∙ parts.0)
        | inr apart ↦ none_passes test n ys x parts.1 (sym (ap (λ b. if b then Some y else find key n ys) apart.0) ∙ e)
      ]

  -- things go
  pub find_gone : (n : ℕ) (xs : List A) → find key n (without key n xs) ≡ None
  find_gone n [] = refl
  find_gone n (x ∷ xs) = by (key x == n) refl (find_gone n xs)
    where
      by : (b : Bool) → (key x == n) ≡ b → find key n (without key n xs) ≡ None → find key n (if b then without key n xs else x ∷ without key n xs) ≡ None
      by true e more = more
      by false e more = ap (λ b. if b then Some x else find key n (without key n xs)) e ∙ more

  pub find_other : (n m : ℕ) (xs : List A) → (n ≡ m → ⊥) → find key m (without key n xs) ≡ find key m xs
  find_other n m [] apart = refl
  find_other n m (x ∷ xs) apart = elim (eqb_tells (key x) n) [
    | inl s ↦ ap (λ b. find key m (if b then without key n xs else x ∷ without key n xs)) s.0 ∙ find_other n m xs apart ∙ sym (ap (λ b. if b then Some x else find key m xs) (ne_eqb (key x) m (λ e. apart (sym s.1 ∙ e))))
    | inr s ↦ ap (λ b. find key m (if b then without key n xs else x ∷ without key n xs)) s.0 ∙ ap (λ r. if key x == m then Some x else r) (find_other n m xs apart)
  ]

-- what is found where one is gone was found before, and what isn't found isn't then
module _ {A : Type 0} (key : A → ℕ) where
  pub found_without : (n m : ℕ) (xs : List A) (x : A) → find key m (without key n xs) ≡ Some x → (m ≡ n → ⊥) × (find key m xs ≡ Some x)
  found_without n m xs x e = elim (eqb_tells n m) [
    | inl same ↦ absurd (let clash : ◌≡◌ {A = Option A} None (Some x) = sym (find_gone key n xs) ∙ ap (λ i. find key i (without key n xs)) same.1 ∙ e in cc)
    | inr apart ↦ (λ s. apart.1 (sym s), sym (find_other key n m xs apart.1) ∙ e)
  ]

  pub missing_without : (n m : ℕ) (xs : List A) → find key m xs ≡ None → find key m (without key n xs) ≡ None
  missing_without n m xs none = elim (eqb_tells n m) [
    | inl same ↦ ap (λ i. find key i (without key n xs)) (sym same.1) ∙ find_gone key n xs
    | inr apart ↦ find_other key n m xs apart.1 ∙ none
  ]

-- a stream's way is changed, and another's isn't
pub way_of_own : (id : ℕ) (way : Way) (h : Held) → h.id ≡ id → with_way id way h ≡ record { id = h.id; way = way }
way_of_own id way h same = ap (λ b. let n : Held = record { id = h.id; way = if b then way else h.way } in n) (eq-eqb h.id id same)

pub way_of_other : (id : ℕ) (way : Way) (h : Held) → (h.id ≡ id → ⊥) → with_way id way h ≡ h
way_of_other id way h apart = ap (λ b. let n : Held = record { id = h.id; way = if b then way else h.way } in n) (ne_eqb h.id id apart)

-- what is held of a stream now
pub held_now : (id : ℕ) (way : Option Way) (hs : List Held) (x : Held) → held_of id (held_with id way hs) ≡ Some x → way ≡ Some x.way
held_now id None hs x e = let clash : ◌≡◌ {A = Option Held} None (Some x) = sym (find_gone id_of id hs) ∙ e in cc
held_now id (Some way) hs x e = by (held_of id hs) refl e
  where
    by : (o : Option Held) → held_of id hs ≡ o → held_of id (held_at id way o hs) ≡ Some x → Some way ≡ Some x.way
    by None none found =
        let new : Held = record { id = id; way = way } in
        let both : Some new ≡ Some x = sym (find_first id_of id new hs refl) ∙ found in
        let same : new ≡ x = cc in ap (λ (h : Held). Some h.way) same
    by (Some h) was found =
        let new : Held = record { id = h.id; way = way } in
        let both : Some new ≡ Some x = sym (ap Some (way_of_own id way h (found_key id_of id hs h was))) ∙ sym (ap (option_map (with_way id way)) was) ∙ sym (find_map id_of (with_way id way) (λ y. refl) id hs) ∙ found in
        let same : new ≡ x = cc in ap (λ (y : Held). Some y.way) same

-- what is held of the others
pub held_beside : (id stream : ℕ) (way : Option Way) (hs : List Held) → (id ≡ stream → ⊥) → held_of stream (held_with id way hs) ≡ held_of stream hs
held_beside id stream None hs apart = find_other id_of id stream hs apart
held_beside id stream (Some way) hs apart = by (held_of id hs)
  where
    same : (o : Option Held) → held_of stream hs ≡ o → option_map (with_way id way) o ≡ o
    same None none = refl
    same (Some h) found = ap Some (way_of_other id way h (λ e. apart (sym e ∙ found_key id_of stream hs h found)))

    by : (o : Option Held) → held_of stream (held_at id way o hs) ≡ held_of stream hs
    by None = find_past id_of stream (record { id = id; way = way }) hs apart
    by (Some h) = find_map id_of (with_way id way) (λ y. refl) stream hs ∙ same (held_of stream hs) refl
