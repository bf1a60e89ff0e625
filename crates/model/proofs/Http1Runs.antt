-- Where a text can be cut: runs of octets that pass a test, and lists of texts of which none begins another.
use Rattle.std.proofs.Common.{◌≡◌, ℕ, Bool, true, false, List, [], ◌∷◌, ◌++◌, length, take, refl, sym, ap, ◌∙◌, append_assoc}
use Rattle.std.specs.List.{list_all}
use Rattle.std.proofs.lemmas.Bool.{false≢true, and_parts, and_from}
use Rattle.std.proofs.lemmas.List.{append_cancel_left}
use Rattle.std.proofs.Math.Seq.{take-append_seam}
use Rattle.model.specs.Octets.{some_of, Joined}

-- two fronts of one length of a text are one
pub same_front : (a b x y : List ℕ) → length a ≡ length b → a ++ x ≡ b ++ y → a ≡ b
same_front a b x y l e = sym (take-append_seam a x) ∙ ap (take (length a)) e ∙ ap (λ n. take n (b ++ y)) l ∙ take-append_seam b y

-- the rest behind one front is one
pub same_rest : (a b x y : List ℕ) → a ≡ b → a ++ x ≡ b ++ y → x ≡ y
same_rest a b x y s e = append_cancel_left b x y (ap (λ (t : List ℕ). t ++ x) (sym s) ∙ e)

pub run_of_some : (test : ℕ → Bool) (text : List ℕ) → some_of test text ≡ true → list_all test text ≡ true
run_of_some test [] p = absurd (false≢true p)
run_of_some test (octet ∷ octets) p = p

pub run-append : (test : ℕ → Bool) (a b : List ℕ) → list_all test a ≡ true → list_all test b ≡ true → list_all test (a ++ b) ≡ true
run-append test [] b p q = q
run-append test (octet ∷ a) b p q =
    let parts = and_parts (test octet) (list_all test a) p in
    and_from (test octet) (list_all test (a ++ b)) parts.0 (run-append test a b parts.1 q)

pub run_weaker : (test wider : ℕ → Bool) (weaker : (octet : ℕ) → test octet ≡ true → wider octet ≡ true) (text : List ℕ)
    → list_all test text ≡ true → list_all wider text ≡ true
run_weaker test wider weaker [] p = refl
run_weaker test wider weaker (octet ∷ octets) p =
    let parts = and_parts (test octet) (list_all test octets) p in
    and_from (wider octet) (list_all wider octets) (weaker octet parts.0) (run_weaker test wider weaker octets parts.1)

-- an octet that doesn't pass can't be one that does
pub not_in_run : (test : ℕ → Bool) (stop octet : ℕ) (octets : List ℕ) → list_all test (octet ∷ octets) ≡ true → test stop ≡ false → stop ≡ octet → ⊥
not_in_run test stop octet octets p fails e =
    false≢true (sym fails ∙ ap test e ∙ (and_parts (test octet) (list_all test octets) p).0)

-- a run ends where the first octet stands that doesn't pass
pub one_run : (test : ℕ → Bool) (u v : List ℕ) (c d : ℕ) (x y : List ℕ)
    → list_all test u ≡ true → list_all test v ≡ true → test c ≡ false → test d ≡ false
    → u ++ c ∷ x ≡ v ++ d ∷ y → (u ≡ v) × (c ∷ x ≡ d ∷ y)
one_run test [] [] c d x y p q fails stops e = (refl, e)
one_run test [] (b ∷ v) c d x y p q fails stops e = absurd (not_in_run test c b v q fails (cc))
one_run test (a ∷ u) [] c d x y p q fails stops e = absurd (not_in_run test d a u p stops (cc))
one_run test (a ∷ u) (b ∷ v) c d x y p q fails stops e =
    let first : a ≡ b = cc in
    let rest : u ++ c ∷ x ≡ v ++ d ∷ y = cc in
    let more = one_run test u v c d x y (and_parts (test a) (list_all test u) p).1 (and_parts (test b) (list_all test v) q).1 fails stops rest in
    (cc, more.1)

-- no text of a thing begins a text of another
abbrev pub IsPrefixFree : {A : Type 0} → (List ℕ → A → Type 0) → Type 0
IsPrefixFree {A} Reads = (a b x y : List ℕ) (f g : A) → Reads a f → Reads b g → a ++ x ≡ b ++ y → (a ≡ b) × (f ≡ g)

-- no beginning of the text is a thing's
abbrev pub BeginsNone : {A : Type 0} → (List ℕ → A → Type 0) → List ℕ → Type 0
BeginsNone {A} Reads text = (front more : List ℕ) (item : A) → Reads front item → text ≡ front ++ more → ⊥

module _ {A : Type 0} (Reads : List ℕ → A → Type 0) (free : IsPrefixFree Reads) where
  -- things joined end where a text stands that begins with none
  pub one_joined : (s t x y : List ℕ) (fs gs : List A) → Joined Reads s fs → Joined Reads t gs
      → BeginsNone Reads x → BeginsNone Reads y → s ++ x ≡ t ++ y → (s ≡ t) × (fs ≡ gs)
  one_joined s t x y [] [] p q nx ny e = (p ∙ sym q, refl)
  one_joined s t x y [] (g ∷ gs) p q nx ny e =
      absurd (nx q.0 (q.1 ++ y) g q.2 (ap (λ (o : List ℕ). o ++ x) (sym p) ∙ e ∙ ap (λ (o : List ℕ). o ++ y) q.3 ∙ append_assoc q.0 q.1 y))
  one_joined s t x y (f ∷ fs) [] p q nx ny e =
      absurd (ny p.0 (p.1 ++ x) f p.2 (ap (λ (o : List ℕ). o ++ y) (sym q) ∙ sym e ∙ ap (λ (o : List ℕ). o ++ x) p.3 ∙ append_assoc p.0 p.1 x))
  one_joined s t x y (f ∷ fs) (g ∷ gs) p q nx ny e =
      let whole : p.0 ++ (p.1 ++ x) ≡ q.0 ++ (q.1 ++ y) =
      sym (append_assoc p.0 p.1 x) ∙ ap (λ (o : List ℕ). o ++ x) (sym p.3) ∙ e ∙ ap (λ (o : List ℕ). o ++ y) q.3 ∙ append_assoc q.0 q.1 y in
      let first = free p.0 q.0 (p.1 ++ x) (q.1 ++ y) f g p.2 q.2 whole in
      let more = one_joined p.1 q.1 x y fs gs p.4 q.4 nx ny (same_rest p.0 q.0 (p.1 ++ x) (q.1 ++ y) first.0 whole) in
      (p.3 ∙ ap (λ (o : List ℕ). o ++ p.1) first.0 ∙ ap (λ (o : List ℕ). q.0 ++ o) more.0 ∙ sym q.3, ap (λ h. h ∷ fs) first.1 ∙ ap (λ hs. g ∷ hs) more.1)
