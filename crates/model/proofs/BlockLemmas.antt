-- Laws of blocks: a table and a block determine fields and next table.
use Rattle.std.proofs.Common.{◌≡◌, ℕ, zero, suc, ◌/◌, ◌^◌, ◌<◌, ◌⊎◌, List, [], ◌∷◌, ◌++◌, length, take, get_or, Option, Some, refl, ap, sym, ◌∙◌, subst, inl, inr, arith, append_assoc, length-append}
use Rattle.std.proofs.lemmas.List.{append_cancel_left}
use Rattle.std.proofs.Math.Seq.{take-append_seam}
use Rattle.model.specs.Messages.{Field}
use Rattle.model.specs.Integers.{IsInt, IsMarkedInt}
use Rattle.model.specs.Huffman.{Huff}
use Rattle.model.specs.Tables.{Table, look_up, field_of}
use Rattle.model.specs.Blocks.{IsString, IsNewName, IsNameOfEntry, IsLiteral}
use Rattle.model.proofs.IntegerLemmas.{one_int}
use Rattle.model.proofs.HuffmanLemmas.{one_string}

-- a text of an integer has a first octet
pub int_some : (prefix : ℕ) (octets : List ℕ) (value : ℕ) → IsInt prefix octets value → 0 < length octets
int_some prefix octets value (inl s) = omega (arith, ap length s.is)
int_some prefix octets value (inr s) = omega (arith, ap length s.is)

head_front : (xs ys : List ℕ) → 0 < length xs → get_or (xs ++ ys) 0 0 ≡ get_or xs 0 0
head_front [] ys h = absurd (omega arith)
head_front (x ∷ xs) ys h = refl

-- the mark of what begins with it
pub head_mark : (prefix mark : ℕ) (octets more : List ℕ) (value : ℕ) → IsMarkedInt prefix mark octets value → get_or (octets ++ more) 0 0 / 2 ^ prefix ≡ mark
head_mark prefix mark octets more value p = ap (λ o. o / 2 ^ prefix) (head_front octets more (int_some prefix octets value p.int)) ∙ p.marked

pub marked_some : (prefix mark : ℕ) (octets : List ℕ) (value : ℕ) → IsMarkedInt prefix mark octets value → 0 < length octets
marked_some prefix mark octets value p = int_some prefix octets value p.int

-- two fronts of one length of a list are one
same_front : (a b x y : List ℕ) → length a ≡ length b → a ++ x ≡ b ++ y → a ≡ b
same_front a b x y l e = sym (take-append_seam a x) ∙ ap (take (length a)) e ∙ ap (λ n. take n (b ++ y)) l ∙ take-append_seam b y

pub cancel : (a b x y : List ℕ) → a ≡ b → a ++ x ≡ b ++ y → x ≡ y
cancel a b x y same e = append_cancel_left b x y (ap (λ o. o ++ x) (sym same) ∙ e)

-- no string literal begins another, and each has one string
pub one_literal_string : (a b x y s t : List ℕ) → IsString a s → IsString b t → a ++ x ≡ b ++ y → (a ≡ b) × (s ≡ t)
one_literal_string a b x y s t (inl p) (inl q) e =
    let whole : p.header ++ (s ++ x) ≡ q.header ++ (t ++ y) = sym (append_assoc p.header s x) ∙ sym (ap (λ o. o ++ x) p.is) ∙ e ∙ ap (λ o. o ++ y) q.is ∙ append_assoc q.header t y in
    let headers = one_int 7 p.header q.header (s ++ x) (t ++ y) (length s) (length t) p.number.int q.number.int whole in
    let same : s ≡ t = same_front s t x y headers.1 (cancel p.header q.header (s ++ x) (t ++ y) headers.0 whole) in
    (p.is ∙ ap (λ h. h ++ s) headers.0 ∙ ap (λ o. q.header ++ o) same ∙ sym q.is, same)
one_literal_string a b x y s t (inl p) (inr q) e =
    let left = head_mark 7 0 p.header (s ++ x) (length s) p.number in
    let right = head_mark 7 1 q.header (q.text ++ y) (length q.text) q.number in
    let whole : p.header ++ (s ++ x) ≡ q.header ++ (q.text ++ y) = sym (append_assoc p.header s x) ∙ sym (ap (λ o. o ++ x) p.is) ∙ e ∙ ap (λ o. o ++ y) q.is ∙ append_assoc q.header q.text y in
    let heads = ap (λ (o : List ℕ). get_or o 0 0) whole in
    absurd (omega (arith, left, right, heads))
one_literal_string a b x y s t (inr p) (inl q) e =
    let left = head_mark 7 1 p.header (p.text ++ x) (length p.text) p.number in
    let right = head_mark 7 0 q.header (t ++ y) (length t) q.number in
    let whole : p.header ++ (p.text ++ x) ≡ q.header ++ (t ++ y) = sym (append_assoc p.header p.text x) ∙ sym (ap (λ o. o ++ x) p.is) ∙ e ∙ ap (λ o. o ++ y) q.is ∙ append_assoc q.header t y in
    let heads = ap (λ (o : List ℕ). get_or o 0 0) whole in
    absurd (omega (arith, left, right, heads))
one_literal_string a b x y s t (inr p) (inr q) e =
    let whole : p.header ++ (p.text ++ x) ≡ q.header ++ (q.text ++ y) = sym (append_assoc p.header p.text x) ∙ sym (ap (λ o. o ++ x) p.is) ∙ e ∙ ap (λ o. o ++ y) q.is ∙ append_assoc q.header q.text y in
    let headers = one_int 7 p.header q.header (p.text ++ x) (q.text ++ y) (length p.text) (length q.text) p.number.int q.number.int whole in
    let same : p.text ≡ q.text = same_front p.text q.text x y headers.1 (cancel p.header q.header (p.text ++ x) (q.text ++ y) headers.0 whole) in
    (p.is ∙ ap (λ h. h ++ p.text) headers.0 ∙ ap (λ o. q.header ++ o) same ∙ sym q.is, one_string q.text s t (subst (λ o. Huff o s) same p.huffman) q.huffman)

some_same : (f g : Field) → ◌≡◌ {A = Option Field} (Some f) (Some g) → f ≡ g
some_same f g e = cc

none_found : (table : Table) (index : ℕ) (entry : Field) → index ≡ 0 → look_up table index ≡ Some entry → ⊥
none_found table zero entry e f = cc
none_found table (suc place) entry e f = omega (arith, e)

-- a name index and what follows it have one name
pub one_name : (table : Table) (i j : ℕ) (a b x y s t : List ℕ) → i ≡ j → IsNewName i a s ⊎ IsNameOfEntry table i a s → IsNewName j b t ⊎ IsNameOfEntry table j b t → a ++ x ≡ b ++ y → (a ≡ b) × (s ≡ t)
one_name table i j a b x y s t same (inl p) (inl q) e = one_literal_string a b x y s t p.string q.string e
one_name table i j a b x y s t same (inl p) (inr q) e = absurd (none_found table j q.entry (sym same ∙ p.is_zero) q.found)
one_name table i j a b x y s t same (inr p) (inl q) e = absurd (none_found table i p.entry (same ∙ q.is_zero) p.found)
one_name table i j a b x y s t same (inr p) (inr q) e =
    let entries : p.entry ≡ q.entry = some_same p.entry q.entry (sym p.found ∙ ap (look_up table) same ∙ q.found) in
    (p.is_empty ∙ sym q.is_empty, sym p.same ∙ ap (λ (f : Field). f.name) entries ∙ q.same)

field_same : (f g : Field) → f.name ≡ g.name → f.value ≡ g.value → f ≡ g
field_same f g n v = ap (λ x. field_of x f.value) n ∙ ap (λ x. field_of g.name x) v

-- no literal begins another, and each has one field
pub one_literal : (prefix mark : ℕ) (table : Table) (a b x y : List ℕ) (f g : Field) → IsLiteral prefix mark table a f → IsLiteral prefix mark table b g → a ++ x ≡ b ++ y → (a ≡ b) × (f ≡ g)
one_literal prefix mark table a b x y f g p q e =
    let left : a ++ x ≡ p.index_octets ++ (p.name_octets ++ (p.value_octets ++ x)) =
    ap (λ o. o ++ x) p.is ∙ append_assoc (p.index_octets ++ p.name_octets) p.value_octets x ∙ append_assoc p.index_octets p.name_octets (p.value_octets ++ x) in
    let right : b ++ y ≡ q.index_octets ++ (q.name_octets ++ (q.value_octets ++ y)) =
    ap (λ o. o ++ y) q.is ∙ append_assoc (q.index_octets ++ q.name_octets) q.value_octets y ∙ append_assoc q.index_octets q.name_octets (q.value_octets ++ y) in
    let whole = sym left ∙ e ∙ right in
    let indices = one_int prefix p.index_octets q.index_octets (p.name_octets ++ (p.value_octets ++ x)) (q.name_octets ++ (q.value_octets ++ y)) p.index q.index p.marked.int q.marked.int whole in
    let behind = cancel p.index_octets q.index_octets (p.name_octets ++ (p.value_octets ++ x)) (q.name_octets ++ (q.value_octets ++ y)) indices.0 whole in
    let names = one_name table p.index q.index p.name_octets q.name_octets (p.value_octets ++ x) (q.value_octets ++ y) f.name g.name indices.1 p.name q.name behind in
    let last = cancel p.name_octets q.name_octets (p.value_octets ++ x) (q.value_octets ++ y) names.0 behind in
    let values = one_literal_string p.value_octets q.value_octets x y f.value g.value p.string q.string last in (
      p.is ∙ ap (λ o. o ++ p.name_octets ++ p.value_octets) indices.0 ∙ ap (λ o. q.index_octets ++ o ++ p.value_octets) names.0 ∙ ap (λ o. q.index_octets ++ q.name_octets ++ o) values.0 ∙ sym q.is,
      field_same f g names.1 values.1,
    )

-- a literal's first octet has its mark
pub literal_head : (prefix mark : ℕ) (table : Table) (a x : List ℕ) (f : Field) → IsLiteral prefix mark table a f → get_or (a ++ x) 0 0 / 2 ^ prefix ≡ mark
literal_head prefix mark table a x f p =
    let left : a ++ x ≡ p.index_octets ++ (p.name_octets ++ (p.value_octets ++ x)) =
    ap (λ o. o ++ x) p.is ∙ append_assoc (p.index_octets ++ p.name_octets) p.value_octets x ∙ append_assoc p.index_octets p.name_octets (p.value_octets ++ x) in
    ap (λ (o : List ℕ). get_or o 0 0 / 2 ^ prefix) left ∙ head_mark prefix mark p.index_octets (p.name_octets ++ (p.value_octets ++ x)) p.index p.marked

pub literal_some : (prefix mark : ℕ) (table : Table) (a : List ℕ) (f : Field) → IsLiteral prefix mark table a f → 0 < length a
literal_some prefix mark table a f p =
    let some = marked_some prefix mark p.index_octets p.index p.marked in
    let whole = ap length p.is ∙ length-append (p.index_octets ++ p.name_octets) p.value_octets in
    let front = length-append p.index_octets p.name_octets in
    omega (arith, some, whole, front)
