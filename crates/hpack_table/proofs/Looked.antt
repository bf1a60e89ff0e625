-- Looking up an index.
use Rattle.std.proofs.Common.{◌≡◌, ℕ, zero, suc, ◌+◌, ◌-◌, ◌<◌, ◌≤◌, List, [], ◌∷◌, ◌++◌, length, get_or, slice_get, Option, Some, None, MatchOption, Bor, refl, ap, sym, ◌∙◌, subst, arith, length-append}
use Rattle.std.proofs.lemmas.Option.{slice_get-get_or, slice_get_past, slice_get_within}
use Rattle.model.specs.Messages.{Field}
use Rattle.model.specs.Tables.{Table, static_table, look_up, field_of, total_size}
use Rattle.hpack_table.proofs.Kept.{total_at_least}

pub some_at : {X : Type 0} (xs : List X) (i : ℕ) (x : X) → i < length xs → ((d : X) → x ≡ get_or xs i d) → slice_get xs i ≡ Some x
some_at xs i x h p = slice_get-get_or xs i x h ∙ ap (λ y. Some y) (sym (p x))

pub get_front : (xs ys : List Field) (i : ℕ) → i < length xs → slice_get (xs ++ ys) i ≡ slice_get xs i
get_front [] ys i h = absurd (omega arith)
get_front (x ∷ xs) ys zero h = refl
get_front (x ∷ xs) ys (suc i) h = get_front xs ys i (omega arith)

get_behind : (xs ys : List Field) (i : ℕ) → length xs ≤ i → slice_get (xs ++ ys) i ≡ slice_get ys (i - length xs)
get_behind [] ys i h = let same : i - 0 ≡ i = omega arith in rw same refl
get_behind (x ∷ xs) ys zero h = absurd (omega arith)
get_behind (x ∷ xs) ys (suc i) h = let same : suc i - suc (length xs) ≡ i - length xs = omega arith in rw same (get_behind xs ys i (omega arith))

pub entries : length static_table ≡ 61
unfolding static_table
entries = refl

-- an index above 0 is a place in both tables
pub look_place : (table : Table) (index : ℕ) → 0 < index → look_up table index ≡ slice_get (static_table ++ table.fields) (index - 1)
look_place table zero h = absurd (omega arith)
look_place table (suc place) h = let same : suc place - 1 ≡ place = omega arith in rw same refl

pub look_static : (table : Table) (index : ℕ) (r : Option (Bor (List ℕ) × Bor (List ℕ))) → 0 < index → index - 1 < 61
    → MatchOption r (slice_get static_table (index - 1) ≡ None) (λ p. slice_get static_table (index - 1) ≡ Some (field_of p.0.now p.1.now))
    → MatchOption r (look_up table index ≡ None) (λ p. look_up table index ≡ Some (field_of p.0.now p.1.now))
look_static table index r some within p =
    let front : slice_get (static_table ++ table.fields) (index - 1) ≡ slice_get static_table (index - 1) = get_front static_table table.fields (index - 1) (omega (arith, entries)) in
    let same : slice_get static_table (index - 1) ≡ look_up table index = sym front ∙ sym (look_place table index some) in
    let P : Option Field → Type 0 = λ o. MatchOption r (o ≡ None) (λ q. o ≡ Some (field_of q.0.now q.1.now)) in
    subst P same p

pub look_dynamic : (table : Table) (index : ℕ) → 0 < index → 61 ≤ index - 1 → look_up table index ≡ slice_get table.fields (index - 1 - 61)
look_dynamic table index some past =
    look_place table index some ∙ get_behind static_table table.fields (index - 1) (omega (arith, entries)) ∙ ap (λ n. slice_get table.fields (index - 1 - n)) entries

-- an entry's index is at most the number of entries
pub look_within : (table : Table) (index : ℕ) (entry : Field) → look_up table index ≡ Some entry → index < 62 + length table.fields
look_within table zero entry e = cc
look_within table (suc place) entry e =
    let within : place < length (static_table ++ table.fields) = slice_get_within (static_table ++ table.fields) place entry e in
    omega (arith, within, length-append static_table table.fields, entries)

-- behind an index without an entry there is none
pub look_past : (table : Table) (index later : ℕ) → 0 < index → look_up table index ≡ None → index ≤ later → look_up table later ≡ None
look_past table index later some e h =
    let past : length (static_table ++ table.fields) ≤ index - 1 = none_past (static_table ++ table.fields) (index - 1) (sym (look_place table index some) ∙ e) in
    look_place table later (omega arith) ∙ slice_get_past (static_table ++ table.fields) (later - 1) (omega (arith, past))
  where
    none_past : (xs : List Field) (i : ℕ) → slice_get xs i ≡ None → length xs ≤ i
    none_past [] i e = omega arith
    none_past (x ∷ xs) zero e = cc
    none_past (x ∷ xs) (suc i) e = omega (arith, none_past xs i e)

-- a table of 32-bit sizes has few entries
pub few_entries : (fields : List Field) (size maximum : ℕ) → size ≡ total_size fields → size ≤ maximum → maximum < 4294967296 → length fields < 134217728
few_entries fields size maximum is fits small = let least = total_at_least fields in omega (arith, least)

pub field_same : (field : Field) (name value : List ℕ) → name ≡ field.name → value ≡ field.value → field ≡ field_of name value
field_same field name value e f = ap (λ n. field_of n field.value) (sym e) ∙ ap (λ v. field_of name v) (sym f)
