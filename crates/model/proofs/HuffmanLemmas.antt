-- Laws of the Huffman code: no code begins another, and none is padding; so text has one string.
use Rattle.std.proofs.Common.{◌≡◌, ℕ, zero, suc, ◌+◌, ◌-◌, ◌<◌, ◌⊎◌, Bool, true, false, ◌&&◌, ◌||◌, not, nat_eq, List, [], ◌∷◌, ◌++◌, length, get_or, refl, ap, sym, ◌∙◌, subst, inl, inr, arith, append_assoc, eqb-true, eq-eqb}
use Rattle.std.specs.Prelude.{Contains, replicate}
use Rattle.std.specs.List.{list_all}
use Rattle.std.proofs.lemmas.List.{append_cancel_left, replicate-append-replicate}
use Rattle.model.specs.Huffman.{huffman_code, bits, rows, row_codes, codes_from, Code, IsCode, AreCodes, Huff}

-- one list of bits begins another
abbrev pub begins : List ℕ → List ℕ → Bool
begins [] ys = true
begins (x ∷ xs) [] = false
begins (x ∷ xs) (y ∷ ys) = nat_eq x y && begins xs ys

-- where one code begins another, they are one
abbrev pub same_or_apart : Code → Code → Bool
same_or_apart a b = not (begins a.bits b.bits) || (nat_eq a.symbol b.symbol && begins b.bits a.bits)

abbrev pub all_apart : List Code → Bool
all_apart codes = list_all (λ a. list_all (λ b. same_or_apart a b) codes) codes

pub are_apart : all_apart huffman_code ≡ true
unfolding huffman_code codes_from row_codes rows bits
are_apart = refl

-- no code is short and all ones
pub none_is_padding : list_all (λ a. not (begins a.bits (replicate 7 1))) huffman_code ≡ true
unfolding huffman_code codes_from row_codes rows bits
none_is_padding = refl

pub and_left : (a b : Bool) → (a && b) ≡ true → a ≡ true
and_left true b e = refl
and_left false b e = e

pub and_right : (a b : Bool) → (a && b) ≡ true → b ≡ true
and_right true b e = e
and_right false b e = cc

pub or_right : (a b : Bool) → a ≡ true → (not a || b) ≡ true → b ≡ true
or_right true b h e = e
or_right false b h e = cc

pub not_true : (a : Bool) → a ≡ true → not a ≡ true → ⊥
not_true true h e = cc
not_true false h e = cc

pub all_at : {X : Type 0} (test : X → Bool) (xs : List X) (k : ℕ) (d : X) → list_all test xs ≡ true → k < length xs → test (get_or xs k d) ≡ true
all_at test [] k d e h = absurd (omega arith)
all_at test (x ∷ xs) zero d e h = and_left (test x) (list_all test xs) e
all_at test (x ∷ xs) (suc k) d e h = all_at test xs k d (and_right (test x) (list_all test xs) e) (omega arith)

pub all_of : {X : Type 0} (test : X → Bool) (xs : List X) (x : X) → list_all test xs ≡ true → Contains xs x → test x ≡ true
all_of test xs x e c = subst (λ y. test y ≡ true) c.2 (all_at test xs c.0 x e c.1)

pub begins_append : (a x b y : List ℕ) → a ++ x ≡ b ++ y → (begins a b ≡ true) ⊎ (begins b a ≡ true)
begins_append [] x b y e = inl refl
begins_append (i ∷ a) x [] y e = inr refl
begins_append (i ∷ a) x (j ∷ b) y e =
    let same : i ≡ j = cc in
    let tails : a ++ x ≡ b ++ y = cc in
    let eq : nat_eq i j ≡ true = eq-eqb i j same in
    let qe : nat_eq j i ≡ true = eq-eqb j i (sym same) in
    elim (begins_append a x b y tails) [
      | inl f ↦ inl (rw (eq, f) refl)
      | inr f ↦ inr (rw (qe, f) refl)
    ]

pub begins_front : (a x : List ℕ) → begins a (a ++ x) ≡ true
begins_front [] x = refl
begins_front (i ∷ a) x = let eq : nat_eq i i ≡ true = eq-eqb i i refl in rw (eq, begins_front a x) refl

pub begins_both : (a b : List ℕ) → begins a b ≡ true → begins b a ≡ true → a ≡ b
begins_both [] [] e f = refl
begins_both [] (j ∷ b) e f = cc
begins_both (i ∷ a) [] e f = cc
begins_both (i ∷ a) (j ∷ b) e f =
    let same : i ≡ j = eqb-true i j (and_left (nat_eq i j) (begins a b) e) in
    let tails : a ≡ b = begins_both a b (and_right (nat_eq i j) (begins a b) e) (and_right (nat_eq j i) (begins b a) f) in
    cc

-- no code begins another
pub one_code_begins : (s t : ℕ) (a b : List ℕ) → IsCode s a → IsCode t b → begins a b ≡ true → (s ≡ t) × (a ≡ b)
one_code_begins s t a b p q e =
    let first : Code = record { symbol = s; bits = a } in
    let second : Code = record { symbol = t; bits = b } in
    let row = all_of (λ (c : Code). list_all (λ d. same_or_apart c d) huffman_code) huffman_code first are_apart p in
    let cell = all_of (λ (d : Code). same_or_apart first d) huffman_code second row q in
    let both : (nat_eq s t && begins b a) ≡ true = or_right (begins a b) (nat_eq s t && begins b a) e cell in
    (eqb-true s t (and_left (nat_eq s t) (begins b a) both), begins_both a b e (and_right (nat_eq s t) (begins b a) both))

pub one_code : (s t : ℕ) (a b x y : List ℕ) → IsCode s a → IsCode t b → a ++ x ≡ b ++ y → (s ≡ t) × (a ≡ b)
one_code s t a b x y p q e = elim (begins_append a x b y e) [
  | inl f ↦ one_code_begins s t a b p q f
  | inr f ↦ (let same = one_code_begins t s b a q p f in (sym same.0, sym same.1))
]

-- no code begins padding
pub not_padding : (s : ℕ) (a x : List ℕ) (padding : ℕ) → IsCode s a → padding < 8 → a ++ x ≡ replicate padding 1 → ⊥
not_padding s a x padding p short e =
    let seven : padding + (7 - padding) ≡ 7 = omega arith in
    let whole : a ++ (x ++ replicate (7 - padding) 1) ≡ replicate 7 1 =
    sym (append_assoc a x (replicate (7 - padding) 1)) ∙ ap (λ l. l ++ replicate (7 - padding) 1) e ∙ replicate-append-replicate padding (7 - padding) 1 ∙ ap (λ n. replicate n 1) seven in
    let front : begins a (replicate 7 1) ≡ true = subst (λ l. begins a l ≡ true) whole (begins_front a (x ++ replicate (7 - padding) 1)) in
    let code : Code = record { symbol = s; bits = a } in
    not_true (begins a (replicate 7 1)) front (all_of (λ (c : Code). not (begins c.bits (replicate 7 1))) huffman_code code none_is_padding p)

-- text has one string
pub one_coded : (c d : List ℕ) (s t : List ℕ) (k j : ℕ) → AreCodes c s → AreCodes d t → k < 8 → j < 8 → c ++ replicate k 1 ≡ d ++ replicate j 1 → s ≡ t
one_coded c d [] [] k j p q hk hj e = refl
one_coded c d [] (o ∷ t) k j p q hk hj e =
    let ones : replicate k 1 ≡ d ++ replicate j 1 = sym (ap (λ l. l ++ replicate k 1) p) ∙ e in
    absurd (not_padding o q.0 (q.1 ++ replicate j 1) k q.3 hk (sym (append_assoc q.0 q.1 (replicate j 1)) ∙ sym (ap (λ l. l ++ replicate j 1) q.4) ∙ sym ones))
one_coded c d (o ∷ s) [] k j p q hk hj e =
    let ones : c ++ replicate k 1 ≡ replicate j 1 = e ∙ ap (λ l. l ++ replicate j 1) q in
    absurd (not_padding o p.0 (p.1 ++ replicate k 1) j p.3 hj (sym (append_assoc p.0 p.1 (replicate k 1)) ∙ sym (ap (λ l. l ++ replicate k 1) p.4) ∙ ones))
one_coded c d (o ∷ s) (u ∷ t) k j p q hk hj e =
    let left : c ++ replicate k 1 ≡ p.0 ++ (p.1 ++ replicate k 1) = ap (λ l. l ++ replicate k 1) p.4 ∙ append_assoc p.0 p.1 (replicate k 1) in
    let right : d ++ replicate j 1 ≡ q.0 ++ (q.1 ++ replicate j 1) = ap (λ l. l ++ replicate j 1) q.4 ∙ append_assoc q.0 q.1 (replicate j 1) in
    let whole : p.0 ++ (p.1 ++ replicate k 1) ≡ q.0 ++ (q.1 ++ replicate j 1) = sym left ∙ e ∙ right in
    let same = one_code o u p.0 q.0 (p.1 ++ replicate k 1) (q.1 ++ replicate j 1) p.3 q.3 whole in
    let more : p.1 ++ replicate k 1 ≡ q.1 ++ replicate j 1 = append_cancel_left q.0 (p.1 ++ replicate k 1) (q.1 ++ replicate j 1) (ap (λ l. l ++ (p.1 ++ replicate k 1)) (sym same.1) ∙ whole) in
    let rest : s ≡ t = one_coded p.1 q.1 s t k j p.5 q.5 hk hj more in
    ap (λ h. h ∷ s) same.0 ∙ ap (λ l. u ∷ l) rest

pub one_string : (octets s t : List ℕ) → Huff octets s → Huff octets t → s ≡ t
one_string octets s t p q = one_coded p.coded q.coded s t p.padding q.padding p.are_codes q.are_codes p.is_short q.is_short (sym p.is ∙ q.is)

-- each symbol has one code
abbrev one_of_symbol : Code → Code → Bool
one_of_symbol a b = not (nat_eq a.symbol b.symbol) || (begins a.bits b.bits && begins b.bits a.bits)

are_single : list_all (λ a. list_all (λ b. one_of_symbol a b) huffman_code) huffman_code ≡ true
unfolding huffman_code codes_from row_codes rows bits
are_single = refl

pub single_code : (s : ℕ) (a b : List ℕ) → IsCode s a → IsCode s b → a ≡ b
single_code s a b p q =
    let first : Code = record { symbol = s; bits = a } in
    let second : Code = record { symbol = s; bits = b } in
    let row = all_of (λ (c : Code). list_all (λ d. one_of_symbol c d) huffman_code) huffman_code first are_single p in
    let cell = all_of (λ (d : Code). one_of_symbol first d) huffman_code second row q in
    let both : (begins a b && begins b a) ≡ true = or_right (nat_eq s s) (begins a b && begins b a) (eq-eqb s s refl) cell in
    begins_both a b (and_left (begins a b) (begins b a) both) (and_right (begins a b) (begins b a) both)
