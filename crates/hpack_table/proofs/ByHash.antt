-- Fields that are found by their hashes.
use Rattle.std.proofs.Common.{◌≡◌, ◌↔◌, Bool, true, false, ℕ, ◌+◌, ◌-◌, ◌<◌, ◌≤◌, List, ◌∷◌, length, take, slice_get, Option, Some, Result, Ok, Err, refl, ap, sym, ◌∙◌, subst, inl, inr, arith}
use Rattle.std.specs.Prelude.{option_map, IsTrue, OnOk}
use Rattle.std.specs.Option.{ForSome}
use Rattle.std.specs.Result.{is_err}
use Rattle.std.proofs.lemmas.Bool.{cases_lt}
use Rattle.std.proofs.lemmas.Option.{slice_get-map, slice_get_within}
use Rattle.std.proofs.lemmas.List.{take-map}
use Rattle.model.specs.Messages.{Field}
use Rattle.model.specs.Tables.{field_of, look_up, keep}
use Rattle.hpack_table.specs.Finding.{FindsBoth, Finds, HasNone}
use Rattle.hpack_table.specs.Searching.{Seeks, table_of}
use Rattle.hpack_table.specs.Chaining.{IsNextOfHash}
use Rattle.hpack_table.specs.Indexing.{HasNoName, HasNoText, IsIndexOf, IsNewestName, IsNewestText, name_hash, name_hashes, text_hash, text_hashes}
use Rattle.hpack_table.specs.declared.index.Index.{Index}
use Rattle.hpack_table.specs.declared.found.Found.{Found}
use Rattle.hpack_table.specs.declared.found.Found.TheVariants.{Both, Name, Absent}
use Rattle.hpack_table.proofs.Kept.{keep_is_front}
use Rattle.hpack_table.proofs.Looked.{look_dynamic}

-- Before a place no field has the name and the value.
abbrev pub PassesText : List Field → List ℕ → List ℕ → ℕ → Type 0
PassesText fields name value place = (other : ℕ) → other < place → slice_get fields other ≡ Some (field_of name value) → ⊥

-- Before a place no field has the name.
abbrev pub PassesName : List Field → List ℕ → ℕ → Type 0
PassesName fields name place = (other : ℕ) (entry : Field) → other < place → slice_get fields other ≡ Some entry → entry.name ≡ name → ⊥

text_hash_at : (fields : List Field) (name value : List ℕ) (place : ℕ) → slice_get fields place ≡ Some (field_of name value) → slice_get (text_hashes fields) place ≡ Some (text_hash name value)
text_hash_at fields name value place e = slice_get-map (λ (field : Field). text_hash field.name field.value) fields place ∙ ap (option_map (λ (field : Field). text_hash field.name field.value)) e

name_hash_at : (fields : List Field) (name : List ℕ) (place : ℕ) (entry : Field) → slice_get fields place ≡ Some entry → entry.name ≡ name → slice_get (name_hashes fields) place ≡ Some (name_hash name)
name_hash_at fields name place entry e same =
    slice_get-map (λ (field : Field). name_hash field.name) fields place ∙ ap (option_map (λ (field : Field). name_hash field.name)) e ∙ ap (λ n. Some (name_hash n)) same

pub text_first : (fields : List Field) (name value hashes : List ℕ) (hash place : ℕ) → hash ≡ text_hash name value → hashes ≡ text_hashes fields → IsNextOfHash hashes hash 0 place → PassesText fields name value place
text_first fields name value hashes hash place is are n other less e =
    n.none other (omega arith) less (ap (λ h. slice_get h other) are ∙ text_hash_at fields name value other e ∙ ap (λ h. Some h) (sym is))

pub text_next : (fields : List Field) (name value hashes : List ℕ) (hash place next : ℕ) → hash ≡ text_hash name value → hashes ≡ text_hashes fields → PassesText fields name value place
    → (slice_get fields place ≡ Some (field_of name value) → ⊥) → IsNextOfHash hashes hash (place + 1) next → PassesText fields name value next
text_next fields name value hashes hash place next is are before here n other less e = elim (cases_lt other place) [
  | inl under ↦ before other under e
  | inr past ↦ elim (cases_lt place other) [
    | inl over ↦ n.none other (omega (arith, over)) less (ap (λ h. slice_get h other) are ∙ text_hash_at fields name value other e ∙ ap (λ h. Some h) (sym is))
    | inr at ↦ (let same : other ≡ place = omega (arith, past, at) in here (subst (λ p. slice_get fields p ≡ Some (field_of name value)) same e))
  ]
]

pub name_first : (fields : List Field) (name hashes : List ℕ) (hash place : ℕ) → hash ≡ name_hash name → hashes ≡ name_hashes fields → IsNextOfHash hashes hash 0 place → PassesName fields name place
name_first fields name hashes hash place is are n other entry less e same =
    n.none other (omega arith) less (ap (λ h. slice_get h other) are ∙ name_hash_at fields name other entry e same ∙ ap (λ h. Some h) (sym is))

pub name_next : (fields : List Field) (name hashes : List ℕ) (hash place next : ℕ) (here : Field) → hash ≡ name_hash name → hashes ≡ name_hashes fields → PassesName fields name place
    → slice_get fields place ≡ Some here → (here.name ≡ name → ⊥) → IsNextOfHash hashes hash (place + 1) next → PassesName fields name next
name_next fields name hashes hash place next here is are before there differs n other entry less e same = elim (cases_lt other place) [
  | inl under ↦ before other entry under e same
  | inr past ↦ elim (cases_lt place other) [
    | inl over ↦ n.none other (omega (arith, over)) less (ap (λ h. slice_get h other) are ∙ name_hash_at fields name other entry e same ∙ ap (λ h. Some h) (sym is))
    | inr at ↦ (let same_place : other ≡ place = omega (arith, past, at) in
        let both : ◌≡◌ {A = Option Field} (Some here) (Some entry) = sym there ∙ ap (slice_get fields) (sym same_place) ∙ e in
        let field : here ≡ entry = cc in
        differs (ap (λ (f : Field). f.name) field ∙ same))
  ]
]

pub text_none : (fields : List Field) (name value : List ℕ) (place : ℕ) → PassesText fields name value place → length fields ≤ place → HasNoText fields name value
text_none fields name value place p past other e = let within = slice_get_within fields other (field_of name value) e in p other (omega (arith, within, past)) e

pub name_none : (fields : List Field) (name : List ℕ) (place : ℕ) → PassesName fields name place → length fields ≤ place → HasNoName fields name
name_none fields name place p past other entry e same = let within = slice_get_within fields other entry e in p other entry (omega (arith, within, past)) e same

pub is_no_field : (fields : List Field) (name value : List ℕ) (place : ℕ) (field : Field) (is : Bool) → slice_get fields place ≡ Some field → IsTrue is ↔ (field ≡ field_of name value) → is ≡ false → slice_get fields place ≡ Some (field_of name value) → ⊥
is_no_field fields name value place field is here told false_is e =
    let both : ◌≡◌ {A = Option Field} (Some field) (Some (field_of name value)) = sym here ∙ e in
    let same : field ≡ field_of name value = cc in
    let true_is : is ≡ true = told.1 same in
    cc

pub is_not_named : (field : Field) (name : List ℕ) (is : Bool) → IsTrue is ↔ (field.name ≡ name) → is ≡ false → field.name ≡ name → ⊥
is_not_named field name is told false_is same =
    let true_is : is ≡ true = told.1 same in
    cc

-- an index in the dynamic table by its place
record StandsAt (fields : List Field) (index : ℕ) (entry : Field) : Type 0 where
  pub place : ℕ
  pub is : index ≡ 62 + place
  pub here : slice_get fields place ≡ Some entry

stands : (fields : List Field) (index : ℕ) (entry : Field) → 62 ≤ index → look_up (table_of fields) index ≡ Some entry → StandsAt fields index entry
stands fields index entry past e = record {
  place = index - 62;
  is = omega (arith, past);
  here = let far : index - 1 - 61 ≡ index - 62 = omega arith in ap (slice_get fields) (sym far) ∙ sym (look_dynamic (table_of fields) index (omega (arith, past)) (omega (arith, past))) ∙ e;
}

look_at : (fields : List Field) (place : ℕ) (entry : Field) → slice_get fields place ≡ Some entry → look_up (table_of fields) (62 + place) ≡ Some entry
look_at fields place entry e =
    let far : 62 + place - 1 - 61 ≡ place = omega arith in
    look_dynamic (table_of fields) (62 + place) (omega arith) (omega arith) ∙ ap (slice_get fields) far ∙ e

-- what is known below the dynamic table, whatever was found there
no_both : (fields : List Field) (name value : List ℕ) (found : Found) → Seeks (table_of fields) name value 62 found → (lower : ℕ) → lower < 62 → look_up (table_of fields) lower ≡ Some (field_of name value) → ⊥
no_both fields name value (Both i) s = absurd s
no_both fields name value (Name i) s = s.no_both
no_both fields name value Absent s = s.no_both

-- no name was found there
pub unnamed : (fields : List Field) (name value : List ℕ) (found : Found) → Seeks (table_of fields) name value 62 found → ((i : ℕ) → found ≡ Name i → ⊥) → Seeks (table_of fields) name value 62 Absent
unnamed fields name value (Both i) s never = absurd s
unnamed fields name value (Name i) s never = absurd (never i refl)
unnamed fields name value Absent s never = s

pub finds_text : (fields : List Field) (name value : List ℕ) (place : ℕ) (found : Found) → Seeks (table_of fields) name value 62 found → IsNewestText fields name value place → FindsBoth (table_of fields) name value (62 + place)
finds_text fields name value place found s n = record {
  here = look_at fields place (field_of name value) n.here;
  least = λ lower less e. elim (cases_lt lower 62) [
    | inl under ↦ no_both fields name value found s lower under e
    | inr past ↦ (let at = stands fields lower (field_of name value) past e in let is = at.is in n.newest at.place (omega (arith, less, is)) at.here)
  ];
}

has_none : (fields : List Field) (name value : List ℕ) (found : Found) → Seeks (table_of fields) name value 62 found → HasNoText fields name value → HasNone (table_of fields) name value
has_none fields name value found s none index e = elim (cases_lt index 62) [
  | inl under ↦ no_both fields name value found s index under e
  | inr past ↦ (let at = stands fields index (field_of name value) past e in none at.place at.here)
]

pub finds_static_name : (fields : List Field) (name value : List ℕ) (i : ℕ) → Seeks (table_of fields) name value 62 (Name i) → HasNoText fields name value → Finds (table_of fields) name value (Name i)
finds_static_name fields name value i s none = (s.is_named, has_none fields name value (Name i) s none)

pub finds_name : (fields : List Field) (name value : List ℕ) (place : ℕ) → Seeks (table_of fields) name value 62 Absent → HasNoText fields name value → IsNewestName fields name place → Finds (table_of fields) name value (Name (62 + place))
finds_name fields name value place s none n = (
  record {
    entry = n.entry;
    here = look_at fields place n.entry n.here;
    named = n.named;
    least = λ lower other less e same. elim (cases_lt lower 62) [
      | inl under ↦ s.is_named lower under other e same
      | inr past ↦ (let at = stands fields lower other past e in let is = at.is in n.newest at.place other (omega (arith, less, is)) at.here same)
    ];
  },
  has_none fields name value Absent s none,
)

pub finds_nothing : (fields : List Field) (name value : List ℕ) → Seeks (table_of fields) name value 62 Absent → HasNoName fields name → Finds (table_of fields) name value Absent
finds_nothing fields name value s none index entry e same = elim (cases_lt index 62) [
  | inl under ↦ s.is_named index under entry e same
  | inr past ↦ (let at = stands fields index entry past e in none at.place entry at.here same)
]

-- a field more, and fewer
pub index_more : (before after : Index) (fields : List Field) (field : Field) (name_is text_is : ℕ) → IsIndexOf before fields → name_is ≡ name_hash field.name → text_is ≡ text_hash field.name field.value → after.names ≡ name_is ∷ before.names → after.texts ≡ text_is ∷ before.texts
    → IsIndexOf after (field ∷ fields)
index_more before after fields field name_is text_is i a b names texts = record {
  names = names ∙ ap (λ h. h ∷ before.names) a ∙ ap (λ hs. name_hash field.name ∷ hs) i.names;
  texts = texts ∙ ap (λ h. h ∷ before.texts) b ∙ ap (λ hs. text_hash field.name field.value ∷ hs) i.texts;
}

pub index_front : (before after : Index) (fields : List Field) (count : ℕ) → IsIndexOf before fields → after.names ≡ take count before.names → after.texts ≡ take count before.texts → IsIndexOf after (take count fields)
index_front before after fields count i names texts = record {
  names = names ∙ ap (take count) i.names ∙ take-map (λ (field : Field). name_hash field.name) count fields;
  texts = texts ∙ ap (take count) i.texts ∙ take-map (λ (field : Field). text_hash field.name field.value) count fields;
}

-- as many fields stay in the index as in the table
pub index_kept : (before after : Option Index) (fields kept : List Field) (max count : ℕ) → ForSome before (λ i. IsIndexOf i fields) → ((all : List Field) → ForSome before (λ i. IsIndexOf i all) → ForSome after (λ i. IsIndexOf i (take count all))) → kept ≡ keep max fields
    → count ≡ length kept → ForSome after (λ i. IsIndexOf i kept)
index_kept before after fields kept max count b shortened is count_is x e =
    let front : take count fields ≡ kept = ap (λ n. take n fields) (count_is ∙ ap length is) ∙ sym (keep_is_front max fields) ∙ sym is in
    subst (IsIndexOf x) front (shortened fields b x e)

pub same_index : (a b : Index) → ◌≡◌ {A = Option Index} (Some a) (Some b) → a ≡ b
same_index a b e = cc

-- a push that wasn't refused
pub pushed : {U E : Type 0} (r : Result U E) (refused : Bool) (new more : List Field) → OnOk r (new ≡ more) → refused ≡ is_err r → refused ≡ false → new ≡ more
pushed (Ok done) refused new more is told none = is
pushed (Err error) refused new more is told none = let clash : true ≡ false = sym told ∙ none in cc
