-- A search by rising indices.
use Rattle.std.proofs.Common.{◌≡◌, ℕ, zero, suc, ◌+◌, ◌-◌, ◌<◌, ◌≤◌, true, false, List, [], ◌++◌, length, slice_get, Option, Some, None, refl, ap, sym, ◌∙◌, subst, inl, inr, arith}
use Rattle.std.proofs.lemmas.Bool.{cases_lt}
use Rattle.model.specs.Messages.{Field}
use Rattle.std.proofs.lemmas.Option.{slice_get_past}
use Rattle.model.specs.Tables.{Table, look_up, field_of, static_table}
use Rattle.hpack_table.specs.Finding.{FindsBoth, FindsName, Finds, HasNone, HasNoName}
use Rattle.hpack_table.specs.Searching.{Met, Named, Searched, Seeks, is_both, static_alone, table_of}
use Rattle.hpack_table.specs.declared.found.Found.{Found}
use Rattle.hpack_table.specs.declared.found.Found.TheVariants.{Both, Name, Absent}
use Rattle.hpack_table.proofs.Looked.{look_past, look_dynamic, get_front, entries, field_same}

-- below an index without an entry stand all entries
pub none_has : (table : Table) (name value : List ℕ) (index : ℕ) (named : Option ℕ) → Searched table name value index named → look_up table index ≡ None → HasNone table name value
none_has table name value index named s none lower e = elim (cases_lt lower index) [
  | inl less ↦ s.no_both lower less e
  | inr past ↦ (let nothing : look_up table lower ≡ None = look_past table index lower s.some none past in
      let clash : ◌≡◌ {A = Option Field} None (Some (field_of name value)) = sym nothing ∙ e in cc)
]

pub name_found : (table : Table) (name value : List ℕ) (index found : ℕ) (named : Option ℕ) → Searched table name value index named → named ≡ Some found → FindsName table name found
name_found table name value index found named s e = subst (Named table name index) e s.is_named

pub no_name : (table : Table) (name value : List ℕ) (index : ℕ) (named : Option ℕ) → Searched table name value index named → named ≡ None → look_up table index ≡ None → HasNoName table name
no_name table name value index named s e none lower entry here same = elim (cases_lt lower index) [
  | inl less ↦ (let below : Named table name index None = subst (Named table name index) e s.is_named in below lower less entry here same)
  | inr past ↦ (let nothing : look_up table lower ≡ None = look_past table index lower s.some none past in
      let clash : ◌≡◌ {A = Option Field} None (Some entry) = sym nothing ∙ here in cc)
]

-- one entry more
no_both_more : (table : Table) (name value : List ℕ) (index : ℕ) (entry : Field) → ((lower : ℕ) → lower < index → look_up table lower ≡ Some (field_of name value) → ⊥) → look_up table index ≡ Some entry
    → (entry.name ≡ name → entry.value ≡ value → ⊥) → (lower : ℕ) → lower < index + 1 → look_up table lower ≡ Some (field_of name value) → ⊥
no_both_more table name value index entry below here other lower less e = elim (cases_lt lower index) [
  | inl before ↦ below lower before e
  | inr past ↦ (let same : lower ≡ index = omega (arith, less, past) in
      let is : ◌≡◌ {A = Option Field} (Some entry) (Some (field_of name value)) = sym here ∙ ap (look_up table) (sym same) ∙ e in
      let field : entry ≡ field_of name value = cc in
      other (ap (λ (f : Field). f.name) field) (ap (λ (f : Field). f.value) field))
]

unnamed_more : (table : Table) (name : List ℕ) (index : ℕ) (entry : Field) → Named table name index None → look_up table index ≡ Some entry → (entry.name ≡ name → ⊥) → Named table name (index + 1) None
unnamed_more table name index entry below here other lower less found e same = elim (cases_lt lower index) [
  | inl before ↦ below lower before found e same
  | inr past ↦ (let at : lower ≡ index = omega (arith, less, past) in
      let is : ◌≡◌ {A = Option Field} (Some entry) (Some found) = sym here ∙ ap (look_up table) (sym at) ∙ e in
      let field : entry ≡ found = cc in
      other (ap (λ (f : Field). f.name) field ∙ same))
]

pub met_other : (table : Table) (name value : List ℕ) (index : ℕ) (found : Found) (entry : Field) → Seeks table name value index found → look_up table index ≡ Some entry → (entry.name ≡ name → ⊥) → Met table name value (index + 1) found
met_other table name value index (Both i) entry s here other = absurd s
met_other table name value index (Name i) entry s here other = record { some = omega arith; no_both = no_both_more table name value index entry s.no_both here (λ n v. other n); is_named = s.is_named }
met_other table name value index Absent entry s here other =
    record { some = omega arith; no_both = no_both_more table name value index entry s.no_both here (λ n v. other n); is_named = unnamed_more table name index entry s.is_named here other }

pub met_both : (table : Table) (name value : List ℕ) (index : ℕ) (found : Found) → Seeks table name value index found → look_up table index ≡ Some (field_of name value) → FindsBoth table name value index
met_both table name value index (Both i) s here = absurd s
met_both table name value index (Name i) s here = record { here = here; least = s.no_both }
met_both table name value index Absent s here = record { here = here; least = s.no_both }

pub met_name : (table : Table) (name value : List ℕ) (index i : ℕ) (entry : Field) → Searched table name value index (Some i) → look_up table index ≡ Some entry → (entry.value ≡ value → ⊥) → Searched table name value (index + 1) (Some i)
met_name table name value index i entry s here other = record { some = omega arith; no_both = no_both_more table name value index entry s.no_both here (λ n v. other v); is_named = s.is_named }

pub met_first : (table : Table) (name value : List ℕ) (index : ℕ) (entry : Field) → Searched table name value index None → look_up table index ≡ Some entry → entry.name ≡ name → (entry.value ≡ value → ⊥)
    → Searched table name value (index + 1) (Some index)
met_first table name value index entry s here same other = record {
  some = omega arith;
  no_both = no_both_more table name value index entry s.no_both here (λ n v. other v);
  is_named = record { entry = entry; here = here; named = same; least = λ lower other less e is. s.is_named lower less other e is };
}

pub goes_on : (table : Table) (name value : List ℕ) (index : ℕ) (found : Found) → Met table name value index found → is_both found ≡ false → Seeks table name value index found
goes_on table name value index (Both i) m e = cc
goes_on table name value index (Name i) m e = m
goes_on table name value index Absent m e = m

pub stops : (table : Table) (name value : List ℕ) (index : ℕ) (found : Found) → Met table name value index found → is_both found ≡ true → Finds table name value found
stops table name value index (Both i) m e = m
stops table name value index (Name i) m e = cc
stops table name value index Absent m e = cc

pub ends : (table : Table) (name value : List ℕ) (index : ℕ) (found : Found) → Seeks table name value index found → look_up table index ≡ None → Finds table name value found
ends table name value index (Both i) s none = absurd s
ends table name value index (Name i) s none = (s.is_named, none_has table name value index (Some i) s none)
ends table name value index Absent s none = no_name table name value index None s refl none

-- no entry in between has the name
skip_both : (table : Table) (name value : List ℕ) (index later : ℕ) → ((lower : ℕ) → lower < index → look_up table lower ≡ Some (field_of name value) → ⊥)
    → ((lower : ℕ) (entry : Field) → index ≤ lower → lower < later → look_up table lower ≡ Some entry → entry.name ≡ name → ⊥) → (lower : ℕ) → lower < later → look_up table lower ≡ Some (field_of name value) → ⊥
skip_both table name value index later below between lower less e = elim (cases_lt lower index) [
  | inl before ↦ below lower before e
  | inr past ↦ between lower (field_of name value) past less e refl
]

skip_named : (table : Table) (name : List ℕ) (index later : ℕ) → Named table name index None → ((lower : ℕ) (entry : Field) → index ≤ lower → lower < later → look_up table lower ≡ Some entry → entry.name ≡ name → ⊥)
    → Named table name later None
skip_named table name index later below between lower less entry e same = elim (cases_lt lower index) [
  | inl before ↦ below lower before entry e same
  | inr past ↦ between lower entry past less e same
]

pub skips : (table : Table) (name value : List ℕ) (index later : ℕ) (found : Found) → Seeks table name value index found → 0 < later
    → ((lower : ℕ) (entry : Field) → index ≤ lower → lower < later → look_up table lower ≡ Some entry → entry.name ≡ name → ⊥) → Seeks table name value later found
skips table name value index later (Both i) s some between = absurd s
skips table name value index later (Name i) s some between = record { some = some; no_both = skip_both table name value index later s.no_both between; is_named = s.is_named }
skips table name value index later Absent s some between = record { some = some; no_both = skip_both table name value index later s.no_both between; is_named = skip_named table name index later s.is_named between }

-- below index 62 every table has the static entries
look_alone : (table : Table) (index : ℕ) → index < 62 → look_up table index ≡ look_up static_alone index
look_alone table zero h = refl
look_alone table (suc place) h = get_front static_table table.fields place (omega (arith, entries, h)) ∙ sym (get_front static_table [] place (omega (arith, entries, h)))

pub alone_within : (index : ℕ) (entry : Field) → look_up static_alone index ≡ Some entry → index < 62
alone_within index entry e = elim (cases_lt index 62) [
  | inl less ↦ less
  | inr past ↦ (let nothing : look_up static_alone index ≡ None = look_dynamic static_alone index (omega (arith, past)) (omega (arith, past)) ∙ slice_get_past {X = Field} [] (index - 1 - 61) (omega arith) in
      let clash : ◌≡◌ {A = Option Field} None (Some entry) = sym nothing ∙ e in cc)
]

pub both_in_all : (table : Table) (name value : List ℕ) (index : ℕ) → FindsBoth static_alone name value index → FindsBoth table name value index
both_in_all table name value index f =
    let within = alone_within index (field_of name value) f.here in
    record { here = look_alone table index within ∙ f.here; least = λ lower less e. f.least lower less (sym (look_alone table lower (omega (arith, within, less))) ∙ e) }

name_in_all : (table : Table) (name : List ℕ) (index : ℕ) → FindsName static_alone name index → FindsName table name index
name_in_all table name index f =
    let within = alone_within index f.entry f.here in
    record { entry = f.entry; here = look_alone table index within ∙ f.here; named = f.named; least = λ lower other less e same. f.least lower other less (sym (look_alone table lower (omega (arith, within, less))) ∙ e) same }

pub finds_in_all : (table : Table) (name value : List ℕ) (found : Found) → Finds static_alone name value found → is_both found ≡ true → Finds table name value found
finds_in_all table name value (Both i) f e = both_in_all table name value i f
finds_in_all table name value (Name i) f e = cc
finds_in_all table name value Absent f e = cc

pub seeks_behind : (table : Table) (name value : List ℕ) (found : Found) → Finds static_alone name value found → is_both found ≡ false → Seeks table name value 62 found
seeks_behind table name value (Both i) f e = cc
seeks_behind table name value (Name i) f e = record {
  some = omega arith;
  no_both = λ lower less here. f.1 lower (sym (look_alone table lower less) ∙ here);
  is_named = name_in_all table name i f.0;
}
seeks_behind table name value Absent f e = record {
  some = omega arith;
  no_both = λ lower less here. f lower (field_of name value) (sym (look_alone table lower less) ∙ here) refl;
  is_named = λ lower less other here same. f lower other (sym (look_alone table lower less) ∙ here) same;
}

-- a search doesn't ask for the maximum
look_fields : (table other : Table) → table.fields ≡ other.fields → (index : ℕ) → look_up table index ≡ look_up other index
look_fields table other same zero = refl
look_fields table other same (suc place) = ap (λ f. slice_get (static_table ++ f) place) same

pub finds_alike : (table other : Table) (name value : List ℕ) (found : Found) → table.fields ≡ other.fields → Finds table name value found → Finds other name value found
finds_alike table other name value (Both i) same f = record { here = sym (look_fields table other same i) ∙ f.here; least = λ lower less e. f.least lower less (look_fields table other same lower ∙ e) }
finds_alike table other name value (Name i) same f = (
  record { entry = f.0.entry; here = sym (look_fields table other same i) ∙ f.0.here; named = f.0.named; least = λ lower entry less e is. f.0.least lower entry less (look_fields table other same lower ∙ e) is },
  λ lower e. f.1 lower (look_fields table other same lower ∙ e),
)
finds_alike table other name value Absent same f = λ lower entry e is. f lower entry (look_fields table other same lower ∙ e) is

-- an added field stands behind the static entries
pub added_here : (fields : List Field) (place : ℕ) (field : Field) (name value : List ℕ) → slice_get fields place ≡ Some field → name ≡ field.name → value ≡ field.value → look_up (table_of fields) (62 + place) ≡ Some (field_of name value)
added_here fields place field name value here is_name is_value =
    let at : 62 + place - 1 - 61 ≡ place = omega arith in
    look_dynamic (table_of fields) (62 + place) (omega arith) (omega arith) ∙ ap (slice_get fields) at ∙ here ∙ ap (λ f. Some f) (field_same field name value is_name is_value)

pub added_end : (fields : List Field) (place : ℕ) → length fields ≤ place → look_up (table_of fields) (62 + place) ≡ None
added_end fields place past =
    let at : 62 + place - 1 - 61 ≡ place = omega arith in
    look_dynamic (table_of fields) (62 + place) (omega arith) (omega arith) ∙ ap (slice_get fields) at ∙ slice_get_past fields place past
