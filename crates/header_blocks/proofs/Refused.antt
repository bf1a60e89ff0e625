-- What can't be read begins with nothing that can.
use Rattle.std.proofs.Common.{◌≡◌, ℕ, zero, suc, ◌+◌, ◌-◌, ◌<◌, ◌≤◌, ◌⊎◌, List, [], ◌∷◌, ◌++◌, length, take, drop, get_or, Result, Ok, Err, IfErr, Option, Some, None, refl, ap, sym, ◌∙◌, subst, inl, inr, arith, append_assoc, length-append, length-drop}
use Rattle.std.proofs.lemmas.List.{append-nil, take_rest, take-append-drop}
use Rattle.std.proofs.Math.Seq.{take-append_seam}
use Rattle.model.specs.Messages.{Field}
use Rattle.model.specs.Integers.{IsInt, BeginsNoInt}
use Rattle.model.specs.Huffman.{Huff}
use Rattle.model.specs.Tables.{Table, look_up}
use Rattle.model.specs.Blocks.{IsNewName, IsNameOfEntry, IsLiteral}
use Rattle.model.proofs.IntegerLemmas.{one_int}
use Rattle.model.proofs.BlockLemmas.{head_mark, cancel, literal_head, one_name}
use Rattle.hpack_int.specs.Reading.{ReadsValue, IsBad}
use Rattle.header_blocks.specs.Directions.{table_behind}
use Rattle.header_blocks.specs.Represented.{UnlessMemory, BeginsNoString, BeginsNoName, BeginsNoLiteral, BeginsNoField, TakesName}
use Rattle.header_blocks.specs.declared.fault.DecodeFault.{DecodeFault}
use Rattle.header_blocks.specs.declared.fault.DecodeFault.TheVariants.{Integer, Text, Index, Maximum, Late, Cut, Memory}

pub unless : (fault : DecodeFault) (P : Type 0) → P → UnlessMemory fault P
unless Integer P p = p
unless Text P p = p
unless Index P p = p
unless Maximum P p = p
unless Late P p = p
unless Cut P p = p
unless Memory P p = tt

pub unless_weaker : (fault : DecodeFault) (P Q : Type 0) → (P → Q) → UnlessMemory fault P → UnlessMemory fault Q
unless_weaker Integer P Q f p = f p
unless_weaker Text P Q f p = f p
unless_weaker Index P Q f p = f p
unless_weaker Maximum P Q f p = f p
unless_weaker Late P Q f p = f p
unless_weaker Cut P Q f p = f p
unless_weaker Memory P Q f p = tt

pub if_err : {U : Type 0} (r : Result U DecodeFault) (P : Type 0) → P → IfErr r (λ fault. UnlessMemory fault P)
if_err (Ok value) P p = tt
if_err (Err fault) P p = unless fault P p

pub bad : (prefix : ℕ) (octets : List ℕ) → IsBad prefix octets → BeginsNoInt prefix octets
bad prefix octets b = λ front rest value e int. b [] front rest value (append-nil octets ∙ e) int

-- a string begins with an integer
pub no_number : (octets : List ℕ) → BeginsNoInt 7 octets → BeginsNoString octets
no_number octets none = λ front rest string e s. elim s [
  | inl p ↦ none p.header (string ++ rest) (length string) (e ∙ ap (λ o. o ++ rest) p.is ∙ append_assoc p.header string rest) p.number.int
  | inr p ↦ none p.header (p.text ++ rest) (length p.text) (e ∙ ap (λ o. o ++ rest) p.is ∙ append_assoc p.header p.text rest) p.number.int
]

-- the parts behind a number that was read
module _ (prefix : ℕ) (octets : List ℕ) (value used : ℕ) (p : ReadsValue prefix octets value used) (header body : List ℕ) (other : ℕ) (int : IsInt prefix header other) (e : octets ≡ header ++ body) where
  same_int : (take used octets ≡ header) × (value ≡ other)
  same_int = one_int prefix (take used octets) header (drop used octets) body value other p.text int (take-append-drop used octets ∙ e)

  pub same_value : value ≡ other
  same_value = same_int.1

  pub behind : drop used octets ≡ body
  behind = cancel (take used octets) header (drop used octets) body same_int.0 (take-append-drop used octets ∙ e)

pub cut_string : (octets : List ℕ) (number start : ℕ) → ReadsValue 7 octets number start → length octets - start < number → BeginsNoString octets
cut_string octets number start p short = λ front rest string e s. elim s [
  | inl q ↦ (let whole : octets ≡ q.header ++ (string ++ rest) = e ∙ ap (λ o. o ++ rest) q.is ∙ append_assoc q.header string rest in
      let same = same_value 7 octets number start p q.header (string ++ rest) (length string) q.number.int whole in
      let tail = ap length (behind 7 octets number start p q.header (string ++ rest) (length string) q.number.int whole) in
      let sizes = length-append string rest in
      let left = length-drop start octets in
      omega (arith, same, tail, sizes, left))
  | inr q ↦ (let whole : octets ≡ q.header ++ (q.text ++ rest) = e ∙ ap (λ o. o ++ rest) q.is ∙ append_assoc q.header q.text rest in
      let same = same_value 7 octets number start p q.header (q.text ++ rest) (length q.text) q.number.int whole in
      let tail = ap length (behind 7 octets number start p q.header (q.text ++ rest) (length q.text) q.number.int whole) in
      let sizes = length-append q.text rest in
      let left = length-drop start octets in
      omega (arith, same, tail, sizes, left))
]

pub bad_string : (octets : List ℕ) (number start : ℕ) → ReadsValue 7 octets number start → 128 ≤ get_or octets 0 0
    → ((string : List ℕ) → Huff (take number (take (length octets - start) (drop start octets))) string → ⊥) → BeginsNoString octets
bad_string octets number start p high none = λ front rest string e s. elim s [
  | inl q ↦ (let whole : octets ≡ q.header ++ (string ++ rest) = e ∙ ap (λ o. o ++ rest) q.is ∙ append_assoc q.header string rest in
      let mark = head_mark 7 0 q.header (string ++ rest) (length string) q.number in
      let heads = ap (λ (o : List ℕ). get_or o 0 0) whole in
      omega (arith, mark, heads, high))
  | inr q ↦ (let whole : octets ≡ q.header ++ (q.text ++ rest) = e ∙ ap (λ o. o ++ rest) q.is ∙ append_assoc q.header q.text rest in
      let same : number ≡ length q.text = same_value 7 octets number start p q.header (q.text ++ rest) (length q.text) q.number.int whole in
      let tail : drop start octets ≡ q.text ++ rest = behind 7 octets number start p q.header (q.text ++ rest) (length q.text) q.number.int whole in
      let text : take number (take (length octets - start) (drop start octets)) ≡ q.text =
      ap (take number) (take_rest octets start ∙ tail) ∙ ap (λ n. take n (q.text ++ rest)) same ∙ take-append_seam q.text rest in
      none string (subst (λ t. Huff t string) (sym text) q.huffman))
]

pub if_err_weaker : {U : Type 0} (r : Result U DecodeFault) (P Q : Type 0) → (P → Q) → IfErr r (λ fault. UnlessMemory fault P) → IfErr r (λ fault. UnlessMemory fault Q)
if_err_weaker (Ok value) P Q f p = tt
if_err_weaker (Err fault) P Q f p = unless_weaker fault P Q f p

none_at_zero : (table : Table) (index : ℕ) (entry : Field) → index ≡ 0 → look_up table index ≡ Some entry → ⊥
none_at_zero table zero entry e f = cc
none_at_zero table (suc place) entry e f = omega (arith, e)

pub no_new_name : (table : Table) (index : ℕ) (octets : List ℕ) → index ≡ 0 → BeginsNoString octets → BeginsNoName table index octets
no_new_name table index octets is_zero none = λ front rest name e n. elim n [
  | inl p ↦ none front rest name e p.string
  | inr p ↦ none_at_zero table index p.entry is_zero p.found
]

none_and_some : (o : Option Field) (entry : Field) → o ≡ None → o ≡ Some entry → ⊥
none_and_some o entry e f = let clash : ◌≡◌ {A = Option Field} None (Some entry) = sym e ∙ f in cc

pub no_entry_name : (table : Table) (index : ℕ) (octets : List ℕ) → (index ≡ 0 → ⊥) → look_up table index ≡ None → BeginsNoName table index octets
no_entry_name table index octets some nothing = λ front rest name e n. elim n [
  | inl p ↦ some p.is_zero
  | inr p ↦ none_and_some (look_up table index) p.entry nothing p.found
]

-- a literal in parts
literal_whole : (table : Table) (prefix mark : ℕ) (octets front rest : List ℕ) (field : Field) → octets ≡ front ++ rest → (l : IsLiteral prefix mark table front field) → octets ≡ l.index_octets ++ (l.name_octets ++ (l.value_octets ++ rest))
literal_whole table prefix mark octets front rest field e l =
    e ∙ ap (λ o. o ++ rest) l.is ∙ append_assoc (l.index_octets ++ l.name_octets) l.value_octets rest ∙ append_assoc l.index_octets l.name_octets (l.value_octets ++ rest)

pub no_index : (table : Table) (prefix : ℕ) (octets : List ℕ) → BeginsNoInt prefix octets → BeginsNoLiteral table prefix octets
no_index table prefix octets none = λ mark front rest field e l.
    none l.index_octets (l.name_octets ++ (l.value_octets ++ rest)) l.index (literal_whole table prefix mark octets front rest field e l) l.marked.int

pub no_literal_name : (table : Table) (prefix : ℕ) (octets : List ℕ) (index start : ℕ) → ReadsValue prefix octets index start → BeginsNoName table index (take (length octets - start) (drop start octets)) → BeginsNoLiteral table prefix octets
no_literal_name table prefix octets index start p none = λ mark front rest field e l.
    let whole = literal_whole table prefix mark octets front rest field e l in
    let same : index ≡ l.index = same_value prefix octets index start p l.index_octets (l.name_octets ++ (l.value_octets ++ rest)) l.index l.marked.int whole in
    let tail : drop start octets ≡ l.name_octets ++ (l.value_octets ++ rest) = behind prefix octets index start p l.index_octets (l.name_octets ++ (l.value_octets ++ rest)) l.index l.marked.int whole in
    none l.name_octets (l.value_octets ++ rest) field.name (take_rest octets start ∙ tail) (subst (λ i. IsNewName i l.name_octets field.name ⊎ IsNameOfEntry table i l.name_octets field.name) (sym same) l.name)

drop_nil : (k : ℕ) → drop {A = ℕ} k [] ≡ []
drop_nil zero = refl
drop_nil (suc k) = refl

pub drop_add : (m n : ℕ) (xs : List ℕ) → drop (m + n) xs ≡ drop n (drop m xs)
drop_add zero n xs = let same : zero + n ≡ n = omega arith in rw same refl
drop_add (suc m) n [] = drop_nil (suc m + n) ∙ sym (drop_nil n)
drop_add (suc m) n (x ∷ xs) = let far : suc m + n ≡ suc (m + n) = omega arith in rw far (drop_add m n xs)

pub no_literal_value : (table : Table) (prefix : ℕ) (octets : List ℕ) (index start : ℕ) (name : List ℕ) (name_length : ℕ) → ReadsValue prefix octets index start
    → TakesName table index (take (length octets - start) (drop start octets)) name name_length → BeginsNoString (take (length octets - (start + name_length)) (drop (start + name_length) octets)) → BeginsNoLiteral table prefix octets
no_literal_value table prefix octets index start name name_length p n none = λ mark front rest field e l.
    let whole = literal_whole table prefix mark octets front rest field e l in
    let same : index ≡ l.index = same_value prefix octets index start p l.index_octets (l.name_octets ++ (l.value_octets ++ rest)) l.index l.marked.int whole in
    let tail : drop start octets ≡ l.name_octets ++ (l.value_octets ++ rest) = behind prefix octets index start p l.index_octets (l.name_octets ++ (l.value_octets ++ rest)) l.index l.marked.int whole in
    let n2 : TakesName table index (drop start octets) name name_length = subst (λ t. TakesName table index t name name_length) (take_rest octets start) n in
    let names = one_name table index l.index (take name_length (drop start octets)) l.name_octets (drop name_length (drop start octets)) (l.value_octets ++ rest) name field.name same n2.is_name l.name
    (take-append-drop name_length (drop start octets) ∙ tail) in
    let last : drop name_length (drop start octets) ≡ l.value_octets ++ rest = cancel (take name_length (drop start octets)) l.name_octets (drop name_length (drop start octets)) (l.value_octets ++ rest) names.0 (take-append-drop name_length (drop start octets) ∙ tail) in
    let dropped : drop (start + name_length) octets ≡ drop name_length (drop start octets) = drop_add start name_length octets in
    none l.value_octets rest field.value (take_rest octets (start + name_length) ∙ dropped ∙ last) l.string

-- a field whose first octet is an index's
pub no_indexed : (table : Table) (octets : List ℕ) → 128 ≤ get_or octets 0 0 → get_or octets 0 0 < 256 → ((front rest : List ℕ) (index : ℕ) (field : Field) → octets ≡ front ++ rest → IsInt 7 front index → look_up table index ≡ Some field → ⊥) → BeginsNoField table octets
no_indexed table octets high small none = λ front rest field next e r.
    let head = ap (λ (o : List ℕ). get_or o 0 0) e in
    elim r [
      | inl p ↦ none front rest p.index field e p.marked.int p.found
      | inr (inl p) ↦ (let mark = literal_head 6 1 table front rest field p.literal in omega (arith, mark, head))
      | inr (inr (inl p)) ↦ (let mark = literal_head 4 0 table front rest field p.literal in omega (arith, mark, head))
      | inr (inr (inr p)) ↦ (let mark = literal_head 4 1 table front rest field p.literal in omega (arith, mark, head))
    ]

pub no_indexed_int : (table : Table) (octets : List ℕ) → 128 ≤ get_or octets 0 0 → get_or octets 0 0 < 256 → BeginsNoInt 7 octets → BeginsNoField table octets
no_indexed_int table octets high small none = no_indexed table octets high small (λ front rest index field e int found. none front rest index e int)

pub no_indexed_entry : (table : Table) (octets : List ℕ) (index used : ℕ) → 128 ≤ get_or octets 0 0 → get_or octets 0 0 < 256 → ReadsValue 7 octets index used → look_up table index ≡ None → BeginsNoField table octets
no_indexed_entry table octets index used high small p nothing = no_indexed table octets high small (λ front rest other field e int found.
    let same = same_value 7 octets index used p front rest other int e in
    none_and_some (look_up table index) field nothing (ap (look_up table) same ∙ found))

-- a field whose first octet is a literal's
pub no_inserted : (table : Table) (octets : List ℕ) → 64 ≤ get_or octets 0 0 → get_or octets 0 0 < 128 → BeginsNoLiteral table 6 octets → BeginsNoField table octets
no_inserted table octets low high none = λ front rest field next e r.
    let head = ap (λ (o : List ℕ). get_or o 0 0) e in
    elim r [
      | inl p ↦ (let mark = head_mark 7 1 front rest p.index p.marked in omega (arith, mark, head))
      | inr (inl p) ↦ none 1 front rest field e p.literal
      | inr (inr (inl p)) ↦ (let mark = literal_head 4 0 table front rest field p.literal in omega (arith, mark, head))
      | inr (inr (inr p)) ↦ (let mark = literal_head 4 1 table front rest field p.literal in omega (arith, mark, head))
    ]

pub no_other : (table : Table) (octets : List ℕ) → get_or octets 0 0 < 32 → BeginsNoLiteral table 4 octets → BeginsNoField table octets
no_other table octets low none = λ front rest field next e r.
    let head = ap (λ (o : List ℕ). get_or o 0 0) e in
    elim r [
      | inl p ↦ (let mark = head_mark 7 1 front rest p.index p.marked in omega (arith, mark, head))
      | inr (inl p) ↦ (let mark = literal_head 6 1 table front rest field p.literal in omega (arith, mark, head))
      | inr (inr (inl p)) ↦ none 0 front rest field e p.literal
      | inr (inr (inr p)) ↦ none 1 front rest field e p.literal
    ]

-- what is said by the table that lies there, said by the one that is seen
pub by_seen : {U : Type 0} (r : Result U DecodeFault) (P : Table → DecodeFault → Type 0) (before : Option DecodeFault) (last table : Table) → IfErr r (P table) → IfErr r (λ fault. before ≡ None → P (table_behind before last table) fault)
by_seen (Ok value) P before last table p = tt
by_seen (Err fault) P before last table p = λ none. subst (λ b. P (table_behind b last table) fault) (sym none) p
