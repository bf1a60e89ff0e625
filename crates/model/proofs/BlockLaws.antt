-- A table and a block determine fields and next table.
use Rattle.std.proofs.Common.{◌≡◌, ℕ, ◌/◌, ◌<◌, ◌⊎◌, List, [], ◌∷◌, ◌++◌, length, get_or, Option, Some, refl, ap, sym, ◌∙◌, subst, inl, inr, arith, append_assoc}
use Rattle.model.specs.Messages.{Field}
use Rattle.model.specs.Tables.{Table, look_up, added, resized}
use Rattle.model.specs.Blocks.{Represents, AreFields, IsNewMaximum, AreMaxima, Block}
use Rattle.model.proofs.IntegerLemmas.{one_int}
use Rattle.model.proofs.BlockLemmas.{head_mark, marked_some, cancel, one_literal, literal_head, literal_some}

-- what the first octet of a representation is
abbrev pub HasHead : ℕ → Type 0
HasHead head = (head / 128 ≡ 1) ⊎ ((head / 64 ≡ 1) ⊎ (head / 32 ≡ 0))

pub field_head : (table next : Table) (a x : List ℕ) (f : Field) → Represents table a f next → HasHead (get_or (a ++ x) 0 0)
field_head table next a x f (inl p) = inl (head_mark 7 1 a x p.index p.marked)
field_head table next a x f (inr (inl p)) = inr (inl (literal_head 6 1 table a x f p.literal))
field_head table next a x f (inr (inr (inl p))) = let head = literal_head 4 0 table a x f p.literal in inr (inr (omega (arith, head)))
field_head table next a x f (inr (inr (inr p))) = let head = literal_head 4 1 table a x f p.literal in inr (inr (omega (arith, head)))

pub field_some : (table next : Table) (a : List ℕ) (f : Field) → Represents table a f next → 0 < length a
field_some table next a f (inl p) = marked_some 7 1 a p.index p.marked
field_some table next a f (inr (inl p)) = literal_some 6 1 table a f p.literal
field_some table next a f (inr (inr (inl p))) = literal_some 4 0 table a f p.literal
field_some table next a f (inr (inr (inr p))) = literal_some 4 1 table a f p.literal

-- no representation begins another, and each has one field and one next table
pub record Same (table n m : Table) (a b : List ℕ) (f g : Field) : Type 0 where
  pub octets : a ≡ b
  pub field : f ≡ g
  pub table_same : n ≡ m

some_same : (f g : Field) → ◌≡◌ {A = Option Field} (Some f) (Some g) → f ≡ g
some_same f g e = cc

heads : (a b x y : List ℕ) → a ++ x ≡ b ++ y → get_or (a ++ x) 0 0 ≡ get_or (b ++ y) 0 0
heads a b x y e = ap (λ (o : List ℕ). get_or o 0 0) e

pub one_field : (table n m : Table) (a b x y : List ℕ) (f g : Field) → Represents table a f n → Represents table b g m → a ++ x ≡ b ++ y → Same table n m a b f g
one_field table n m a b x y f g (inl p) (inl q) e =
    let same = one_int 7 a b x y p.index q.index p.marked.int q.marked.int e in
    record { octets = same.0; field = some_same f g (sym p.found ∙ ap (look_up table) same.1 ∙ q.found); table_same = p.same ∙ sym q.same }
one_field table n m a b x y f g (inl p) (inr (inl q)) e =
    let i = head_mark 7 1 a x p.index p.marked in let j = literal_head 6 1 table b y g q.literal in let h = heads a b x y e in absurd (omega (arith, i, j, h))
one_field table n m a b x y f g (inl p) (inr (inr (inl q))) e =
    let i = head_mark 7 1 a x p.index p.marked in let j = literal_head 4 0 table b y g q.literal in let h = heads a b x y e in absurd (omega (arith, i, j, h))
one_field table n m a b x y f g (inl p) (inr (inr (inr q))) e =
    let i = head_mark 7 1 a x p.index p.marked in let j = literal_head 4 1 table b y g q.literal in let h = heads a b x y e in absurd (omega (arith, i, j, h))
one_field table n m a b x y f g (inr (inl p)) (inl q) e =
    let i = literal_head 6 1 table a x f p.literal in let j = head_mark 7 1 b y q.index q.marked in let h = heads a b x y e in absurd (omega (arith, i, j, h))
one_field table n m a b x y f g (inr (inl p)) (inr (inl q)) e =
    let same = one_literal 6 1 table a b x y f g p.literal q.literal e in
    record { octets = same.0; field = same.1; table_same = p.inserted ∙ ap (λ v. added v table) same.1 ∙ sym q.inserted }
one_field table n m a b x y f g (inr (inl p)) (inr (inr (inl q))) e =
    let i = literal_head 6 1 table a x f p.literal in let j = literal_head 4 0 table b y g q.literal in let h = heads a b x y e in absurd (omega (arith, i, j, h))
one_field table n m a b x y f g (inr (inl p)) (inr (inr (inr q))) e =
    let i = literal_head 6 1 table a x f p.literal in let j = literal_head 4 1 table b y g q.literal in let h = heads a b x y e in absurd (omega (arith, i, j, h))
one_field table n m a b x y f g (inr (inr (inl p))) (inl q) e =
    let i = literal_head 4 0 table a x f p.literal in let j = head_mark 7 1 b y q.index q.marked in let h = heads a b x y e in absurd (omega (arith, i, j, h))
one_field table n m a b x y f g (inr (inr (inl p))) (inr (inl q)) e =
    let i = literal_head 4 0 table a x f p.literal in let j = literal_head 6 1 table b y g q.literal in let h = heads a b x y e in absurd (omega (arith, i, j, h))
one_field table n m a b x y f g (inr (inr (inl p))) (inr (inr (inl q))) e =
    let same = one_literal 4 0 table a b x y f g p.literal q.literal e in
    record { octets = same.0; field = same.1; table_same = p.same ∙ sym q.same }
one_field table n m a b x y f g (inr (inr (inl p))) (inr (inr (inr q))) e =
    let i = literal_head 4 0 table a x f p.literal in let j = literal_head 4 1 table b y g q.literal in let h = heads a b x y e in absurd (omega (arith, i, j, h))
one_field table n m a b x y f g (inr (inr (inr p))) (inl q) e =
    let i = literal_head 4 1 table a x f p.literal in let j = head_mark 7 1 b y q.index q.marked in let h = heads a b x y e in absurd (omega (arith, i, j, h))
one_field table n m a b x y f g (inr (inr (inr p))) (inr (inl q)) e =
    let i = literal_head 4 1 table a x f p.literal in let j = literal_head 6 1 table b y g q.literal in let h = heads a b x y e in absurd (omega (arith, i, j, h))
one_field table n m a b x y f g (inr (inr (inr p))) (inr (inr (inl q))) e =
    let i = literal_head 4 1 table a x f p.literal in let j = literal_head 4 0 table b y g q.literal in let h = heads a b x y e in absurd (omega (arith, i, j, h))
one_field table n m a b x y f g (inr (inr (inr p))) (inr (inr (inr q))) e =
    let same = one_literal 4 1 table a b x y f g p.literal q.literal e in
    record { octets = same.0; field = same.1; table_same = p.same ∙ sym q.same }

-- nothing begins with something
pub none_longer : (a x : List ℕ) → 0 < length a → [] ≡ a ++ x → ⊥
none_longer [] x h e = omega arith
none_longer (o ∷ a) x h e = cc

-- octets have one list of fields
pub one_list : (table n m : Table) (o : List ℕ) (fs gs : List Field) → AreFields table o fs n → AreFields table o gs m → (fs ≡ gs) × (n ≡ m)
one_list table n m o [] [] p q = (refl, p.1 ∙ sym q.1)
one_list table n m o [] (g ∷ gs) p q = absurd (none_longer q.0 q.1 (field_some table q.2 q.0 g q.4) (sym p.0 ∙ q.3))
one_list table n m o (f ∷ fs) [] p q = absurd (none_longer p.0 p.1 (field_some table p.2 p.0 f p.4) (sym q.0 ∙ p.3))
one_list table n m o (f ∷ fs) (g ∷ gs) p q =
    let whole : p.0 ++ p.1 ≡ q.0 ++ q.1 = sym p.3 ∙ q.3 in
    let same = one_field table p.2 q.2 p.0 q.0 p.1 q.1 f g p.4 q.4 whole in
    let rest : p.1 ≡ q.1 = cancel p.0 q.0 p.1 q.1 same.octets whole in
    let later : AreFields p.2 p.1 gs m = subst (λ t. AreFields t p.1 gs m) (sym same.table_same) (subst (λ r. AreFields q.2 r gs m) (sym rest) q.5) in
    let all = one_list p.2 n m p.1 fs gs p.5 later in
    (ap (λ h. h ∷ fs) same.field ∙ ap (λ t. g ∷ t) all.0, all.1)

-- a maximum is no field
pub maximum_apart : (table next : Table) (a x b y : List ℕ) (maximum : ℕ) (f : Field) → IsNewMaximum a maximum → Represents table b f next → a ++ x ≡ b ++ y → ⊥
maximum_apart table next a x b y maximum f p q e =
    let i = head_mark 5 1 a x maximum p.marked in
    let h = heads a b x y e in
    elim (field_head table next b y f q) [
      | inl j ↦ omega (arith, i, j, h)
      | inr (inl j) ↦ omega (arith, i, j, h)
      | inr (inr j) ↦ omega (arith, i, j, h)
    ]

pub fields_apart : (table next : Table) (a x o : List ℕ) (maximum : ℕ) (fs : List Field) → IsNewMaximum a maximum → AreFields table o fs next → a ++ x ≡ o → ⊥
fields_apart table next a x o maximum [] p q e = none_longer a x (marked_some 5 1 a maximum p.marked) (sym (e ∙ q.0))
fields_apart table next a x o maximum (f ∷ fs) p q e = maximum_apart table q.2 a x q.0 q.1 maximum f p q.4 (e ∙ q.3)

-- what a block says
pub record SameBlock (n m : Table) (is js : List ℕ) (fs gs : List Field) : Type 0 where
  pub maxima : is ≡ js
  pub fields : fs ≡ gs
  pub table_same : n ≡ m

pub one_chain : (table s t n m : Table) (a b x y is js : List ℕ) (fs gs : List Field) → AreMaxima table a is s → AreFields s x fs n → AreMaxima table b js t → AreFields t y gs m
    → a ++ x ≡ b ++ y → SameBlock n m is js fs gs
one_chain table s t n m a b x y [] [] fs gs p u q v e =
    let whole : x ≡ y = sym (ap (λ o. o ++ x) p.0) ∙ e ∙ ap (λ o. o ++ y) q.0 in
    let tables : s ≡ t = p.1 ∙ sym q.1 in
    let all = one_list s n m x fs gs u (subst (λ o. AreFields s o gs m) (sym whole) (subst (λ w. AreFields w y gs m) (sym tables) v)) in
    record { maxima = refl; fields = all.0; table_same = all.1 }
one_chain table s t n m a b x y [] (j ∷ js) fs gs p u q v e =
    let whole : q.0 ++ (q.1 ++ y) ≡ x = sym (append_assoc q.0 q.1 y) ∙ sym (ap (λ o. o ++ y) q.2) ∙ sym e ∙ ap (λ o. o ++ x) p.0 in
    absurd (fields_apart s n q.0 (q.1 ++ y) x j fs q.3 u whole)
one_chain table s t n m a b x y (i ∷ is) [] fs gs p u q v e =
    let whole : p.0 ++ (p.1 ++ x) ≡ y = sym (append_assoc p.0 p.1 x) ∙ sym (ap (λ o. o ++ x) p.2) ∙ e ∙ ap (λ o. o ++ y) q.0 in
    absurd (fields_apart t m p.0 (p.1 ++ x) y i gs p.3 v whole)
one_chain table s t n m a b x y (i ∷ is) (j ∷ js) fs gs p u q v e =
    let whole : p.0 ++ (p.1 ++ x) ≡ q.0 ++ (q.1 ++ y) = sym (append_assoc p.0 p.1 x) ∙ sym (ap (λ o. o ++ x) p.2) ∙ e ∙ ap (λ o. o ++ y) q.2 ∙ append_assoc q.0 q.1 y in
    let same = one_int 5 p.0 q.0 (p.1 ++ x) (q.1 ++ y) i j p.3.marked.int q.3.marked.int whole in
    let rest = cancel p.0 q.0 (p.1 ++ x) (q.1 ++ y) same.0 whole in
    let later : AreMaxima (resized i table) q.1 js t = subst (λ k. AreMaxima (resized k table) q.1 js t) (sym same.1) q.4 in
    let all = one_chain (resized i table) s t n m p.1 q.1 x y is js fs gs p.4 u later v rest in
    record { maxima = ap (λ h. h ∷ is) same.1 ∙ ap (λ l. j ∷ l) all.maxima; fields = all.fields; table_same = all.table_same }

pub one_block : (table n m : Table) (octets : List ℕ) (fs gs : List Field) → Block table octets fs n → Block table octets gs m → (fs ≡ gs) × (n ≡ m)
one_block table n m octets fs gs p q =
    let a = p.is_block in
    let b = q.is_block in
    let same = one_chain table a.between b.between n m a.front b.front a.rest b.rest p.maxima q.maxima fs gs a.are_maxima a.are_fields b.are_maxima b.are_fields (sym a.is ∙ b.is) in
    (same.fields, same.table_same)
