-- Things found by a number, in lists with the oldest first, and in those with the newest first.
use Rattle.std.proofs.Common.{◌≡◌, ℕ, ◌+◌, ◌-◌, ◌<◌, if◌then◌else◌, List, [], ◌∷◌, ◌++◌, length, map, take, drop, set, get_or, Some, None, refl, sym, ap, ◌∙◌, inl, inr, arith}
use Rattle.std.specs.Prelude.{Option, zero, suc, reverse}
use Rattle.std.specs.List.{remove}
use Rattle.std.proofs.lemmas.Bool.{eq-eqb, ne_eqb}
use Rattle.std.proofs.lemmas.Bool.Decides.{eqb_tells}
use Rattle.std.proofs.lemmas.List.{append_assoc, reverse-append, map-append, length-reverse, length-take-le, length-drop, get_or-reverse, get_or-take, get_or-drop, set_split, set-get_or}
use Rattle.theory_requests.specs.Lines.{find, without}
use Rattle.upstream_connections.specs.Places.{IsAt, IsNowhere}

module _ {A : Type 0} (key : A → ℕ) (d : A) where
  -- ---- where none has the number

  less : (n : ℕ) (x : A) (xs : List A) → IsNowhere key d (x ∷ xs) n → IsNowhere key d xs n
  less n x xs none = λ i lt same. none (suc i) (omega arith) same

  pub find_none : (n : ℕ) (xs : List A) → IsNowhere key d xs n → find key n xs ≡ None
  find_none n [] none = refl
  find_none n (x ∷ xs) none = ap (λ b. if b then Some x else find key n xs) (ne_eqb (key x) n (none 0 (omega arith))) ∙ find_none n xs (less n x xs none)

  pub without_none : (n : ℕ) (xs : List A) → IsNowhere key d xs n → without key n xs ≡ xs
  without_none n [] none = refl
  without_none n (x ∷ xs) none =
      ap (λ b. if b then without key n xs else x ∷ without key n xs) (ne_eqb (key x) n (none 0 (omega arith)))
      ∙ ap (λ ys. x ∷ ys) (without_none n xs (less n x xs none))

  pub map_none : (f : A → A) (n : ℕ) (xs : List A) → ((x : A) → (key x ≡ n → ⊥) → f x ≡ x) → IsNowhere key d xs n → map f xs ≡ xs
  map_none f n [] same none = refl
  map_none f n (x ∷ xs) same none =
      ap (λ y. y ∷ map f xs) (same x (none 0 (omega arith)))
      ∙ ap (λ ys. x ∷ ys) (map_none f n xs same (less n x xs none))

  -- nor has one when they are turned round
  pub turned_none : (n : ℕ) (xs : List A) → IsNowhere key d xs n → IsNowhere key d (reverse xs) n
  turned_none n xs none = λ i lt same.
      let l : i < length xs = omega (arith, lt, length-reverse xs) in
      none (length xs - 1 - i) (omega (arith, l)) (sym (ap key (get_or-reverse xs i d l)) ∙ same)

  -- where nothing is found none has it
  pub nowhere : (n : ℕ) (xs : List A) → find key n xs ≡ None → IsNowhere key d xs n
  nowhere n [] none i lt same = omega (arith, lt)
  nowhere n (x ∷ xs) none zero lt same = let clash : ◌≡◌ {A = Option A} (Some x) None = sym (ap (λ b. if b then Some x else find key n xs) (eq-eqb (key x) n same)) ∙ none in cc
  nowhere n (x ∷ xs) none (suc i) lt same = elim (eqb_tells (key x) n) [
    | inl own ↦ (let clash : ◌≡◌ {A = Option A} (Some x) None = sym (ap (λ b. if b then Some x else find key n xs) own.0) ∙ none in cc)
    | inr other ↦ nowhere n xs (sym (ap (λ b. if b then Some x else find key n xs) other.0) ∙ none) i (omega arith) same
  ]

  -- one that stands once when they are turned round stands once
  pub turned_alone : (xs : List A) → ((i j : ℕ) → i < length (reverse xs) → j < length (reverse xs) → key (get_or (reverse xs) i d) ≡ key (get_or (reverse xs) j d) → i ≡ j)
      → (n place : ℕ) → IsAt key d xs n place → (i : ℕ) → i < length xs → key (get_or xs i d) ≡ n → i ≡ place
  turned_alone xs once n place is i lt same =
      let size = length-reverse xs in
      let within = is.within in
      let last : ℕ = length xs - 1 in
      let at : (k : ℕ) → k < length xs → get_or (reverse xs) (last - k) d ≡ get_or xs k d =
      λ k low. get_or-reverse xs (last - k) d (omega (arith, low)) ∙ ap (λ m. get_or xs m d) (let back : length xs - 1 - (last - k) ≡ k = omega (arith, low) in back) in
      let equal : last - i ≡ last - place =
      once (last - i) (last - place) (omega (arith, size, lt)) (omega (arith, size, within)) (ap key (at i lt) ∙ same ∙ sym is.has_key ∙ sym (ap key (at place within))) in
      omega (arith, equal, lt, within)

  -- ---- before and behind the one that has it

  module _ (n : ℕ) (x : A) (own : key x ≡ n) where
    pub find_among : (before behind : List A) → IsNowhere key d before n → find key n (before ++ x ∷ behind) ≡ Some x
    find_among [] behind none = ap (λ b. if b then Some x else find key n behind) (eq-eqb (key x) n own)
    find_among (y ∷ before) behind none =
        ap (λ b. if b then Some y else find key n (before ++ x ∷ behind)) (ne_eqb (key y) n (none 0 (omega arith)))
        ∙ find_among before behind (less n y before none)

    pub without_among : (before behind : List A) → IsNowhere key d before n → IsNowhere key d behind n → without key n (before ++ x ∷ behind) ≡ before ++ behind
    without_among [] behind none rest = ap (λ b. if b then without key n behind else x ∷ without key n behind) (eq-eqb (key x) n own) ∙ without_none n behind rest
    without_among (y ∷ before) behind none rest =
        ap (λ b. if b then without key n (before ++ x ∷ behind) else y ∷ without key n (before ++ x ∷ behind)) (ne_eqb (key y) n (none 0 (omega arith)))
        ∙ ap (λ ys. y ∷ ys) (without_among before behind (less n y before none) rest)

    pub map_among : (f : A → A) (before behind : List A) → ((y : A) → (key y ≡ n → ⊥) → f y ≡ y) → IsNowhere key d before n → IsNowhere key d behind n → map f (before ++ x ∷ behind) ≡ before ++ f x ∷ behind
    map_among f before behind same none rest =
        map-append f before (x ∷ behind)
        ∙ ap (λ ys. ys ++ f x ∷ map f behind) (map_none f n before same none)
        ∙ ap (λ ys. before ++ f x ∷ ys) (map_none f n behind same rest)

  -- ---- the one at a place, which alone has its number

  -- All others have another number.
  pub record IsOnly (xs : List A) (n place : ℕ) : Type 0 where
    pub is : IsAt key d xs n place
    pub alone : (i : ℕ) → i < length xs → key (get_or xs i d) ≡ n → i ≡ place

  module _ (xs : List A) (n place : ℕ) (only : IsOnly xs n place) where
    abbrev it : A
    it = get_or xs place d

    none_before : IsNowhere key d (take place xs) n
    none_before = λ i lt same.
        let size : length (take place xs) ≡ place = length-take-le place xs (omega (arith, only.is.within)) in
        let low : i < place = omega (arith, lt, size) in
        let at : i ≡ place = only.alone i (omega (arith, low, only.is.within)) (sym (ap key (get_or-take place xs i d low)) ∙ same) in
        omega (arith, low, at)

    none_behind : IsNowhere key d (drop (suc place) xs) n
    none_behind = λ i lt same.
        let size : length (drop (suc place) xs) ≡ length xs - suc place = length-drop (suc place) xs in
        let low : suc place + i < length xs = omega (arith, lt, size) in
        let at : suc place + i ≡ place = only.alone (suc place + i) low (sym (ap key (get_or-drop (suc place) xs i d)) ∙ same) in
        omega (arith, at)

    parts : xs ≡ take place xs ++ it ∷ drop (suc place) xs
    parts = sym (set-get_or xs place d) ∙ set_split xs place it only.is.within

    turned : (x : A) → reverse (take place xs ++ x ∷ drop (suc place) xs) ≡ reverse (drop (suc place) xs) ++ x ∷ reverse (take place xs)
    turned x =
        reverse-append (take place xs) (x ∷ drop (suc place) xs)
        ∙ ap (λ ys. ys ++ reverse (take place xs)) (reverse-append (x ∷ []) (drop (suc place) xs))
        ∙ append_assoc (reverse (drop (suc place) xs)) (x ∷ []) (reverse (take place xs))

    pub find_only : find key n (reverse xs) ≡ Some it
    find_only = ap (λ ys. find key n (reverse ys)) parts ∙ ap (find key n) (turned it) ∙ find_among n it only.is.has_key (reverse (drop (suc place) xs)) (reverse (take place xs)) (turned_none n (drop (suc place) xs) none_behind)

    pub without_only : without key n (reverse xs) ≡ reverse (remove xs place)
    without_only =
        ap (λ ys. without key n (reverse ys)) parts
        ∙ ap (without key n) (turned it)
        ∙ without_among n it only.is.has_key (reverse (drop (suc place) xs)) (reverse (take place xs)) (turned_none n (drop (suc place) xs) none_behind) (turned_none n (take place xs) none_before)
        ∙ sym (reverse-append (take place xs) (drop (suc place) xs))

    pub map_only : (f : A → A) → ((y : A) → (key y ≡ n → ⊥) → f y ≡ y) → map f (reverse xs) ≡ reverse (set xs place (f it))
    map_only f same =
        ap (λ ys. map f (reverse ys)) parts
        ∙ ap (map f) (turned it)
        ∙ map_among n it only.is.has_key f (reverse (drop (suc place) xs)) (reverse (take place xs)) same (turned_none n (drop (suc place) xs) none_behind) (turned_none n (take place xs) none_before)
        ∙ sym (turned (f it))
        ∙ ap reverse (sym (set_split xs place (f it) only.is.within))
