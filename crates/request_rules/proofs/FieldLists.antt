-- Lists of fields read field by field.
use Rattle.std.proofs.Common.{suc, ◌≡◌, ℕ, Bool, true, false, List, [], ◌∷◌, length, filter, refl, sym, ap, ◌∙◌, subst, inl, inr}
use Rattle.std.specs.Prelude.{not, ◌&&◌, ◌||◌, bytes_eq, Decides, count_by, if◌then◌else◌}
use Rattle.std.specs.List.{list_all, list_any}
use Rattle.std.proofs.lemmas.Bool.{cases_Bool, cond-true, cond-false}
use Rattle.std.proofs.lemmas.List.Sums.{length-filter}
use Rattle.model.specs.Octets.{some_of}
use Rattle.model.specs.Messages.{Field}
use Rattle.model.specs.Http1.{values_of, without}
use Rattle.model.specs.Http2.{is_pseudo, is_name_octet, NamesHold}
use Rattle.model.proofs.Http1Texts.{filter_all}
use Rattle.model.proofs.Http2Sends.{kept_pass}

pub decided : (b : Bool) → Decides b (b ≡ true)
decided b = (λ e. e, λ e. e)

pub decided_by : (a b : Bool) → a ≡ b → Decides a (b ≡ true)
decided_by a b e = (λ p. sym e ∙ p, λ p. e ∙ p)

-- a test of the fields that are kept is one of all, the others aside
pub kept_all : (kept test : Field → Bool) (fields : List Field) → list_all (λ field. not (kept field) || test field) fields ≡ list_all test (filter kept fields)
kept_all kept test [] = refl
kept_all kept test (field ∷ fields) =
    let rest = kept_all kept test fields in
    elim (cases_Bool (kept field)) [
      | inl e ↦ rw (cond-true (kept field) (field ∷ filter kept fields) (filter kept fields) e, e) (ap (λ t. test field && t) rest)
      | inr e ↦ rw (cond-false (kept field) (field ∷ filter kept fields) (filter kept fields) e, e) rest
    ]

-- a test of the values of a name is one of all fields
pub named_all : (name : List ℕ) (test : List ℕ → Bool) (fields : List Field)
    → list_all (λ field. not (bytes_eq field.name name) || test field.value) fields ≡ list_all test (values_of name fields)
named_all name test [] = refl
named_all name test (field ∷ fields) =
    let rest = named_all name test fields in
    elim (cases_Bool (bytes_eq field.name name)) [
      | inl e ↦ rw (cond-true (bytes_eq field.name name) (field.value ∷ values_of name fields) (values_of name fields) e, e) (ap (λ t. test field.value && t) rest)
      | inr e ↦ rw (cond-false (bytes_eq field.name name) (field.value ∷ values_of name fields) (values_of name fields) e, e) rest
    ]

same_tests : (test other : Field → Bool) → ((field : Field) → test field ≡ other field) → (fields : List Field) → list_all test fields ≡ list_all other fields
same_tests test other same [] = refl
same_tests test other same (field ∷ fields) = let first = same field in let rest = same_tests test other same fields in cc

not-not : (b : Bool) → not (not b) ≡ b
not-not true = refl
not-not false = refl

pub names_decided : (b : Bool) (fields : List Field) → b ≡ list_all (λ field. is_pseudo field || some_of is_name_octet field.name) fields → Decides b (NamesHold fields)
names_decided b fields e =
    let other : list_all (λ field. is_pseudo field || some_of is_name_octet field.name) fields ≡ list_all (λ field. not (not (is_pseudo field)) || some_of is_name_octet field.name) fields =
    same_tests _ _ (λ field. ap (λ t. t || some_of is_name_octet field.name) (sym (not-not (is_pseudo field)))) fields in
    decided_by b _ (e ∙ other ∙ kept_all (λ field. not (is_pseudo field)) (λ field. some_of is_name_octet field.name) fields)

pub without_decided : (names : List (List ℕ)) (b : Bool) (fields : List Field) → b ≡ list_all (λ field. not (list_any (bytes_eq field.name) names)) fields → Decides b (without names fields ≡ fields)
without_decided names b fields e =
    let test : Field → Bool = λ field. not (list_any (bytes_eq field.name) names) in
    (λ p. filter_all test fields (sym e ∙ p), λ p. e ∙ subst (λ (fs : List Field). list_all test fs ≡ true) p (kept_pass test fields))

same_lengths : (t : Bool) (v : List ℕ) (vs : List (List ℕ)) (f : Field) (fs : List Field) → length vs ≡ length fs → length (if t then v ∷ vs else vs) ≡ length (if t then f ∷ fs else fs)
same_lengths true v vs f fs e = ap suc e
same_lengths false v vs f fs e = e

length-values_of : (name : List ℕ) (fields : List Field) → length (values_of name fields) ≡ length (filter (λ field. bytes_eq field.name name) fields)
length-values_of name [] = refl
length-values_of name (field ∷ fields) =
    same_lengths (bytes_eq field.name name) field.value (values_of name fields) field (filter (λ f. bytes_eq f.name name) fields) (length-values_of name fields)

pub count_values : (name : List ℕ) (fields : List Field) → count_by (λ field. bytes_eq field.name name) fields ≡ length (values_of name fields)
count_values name fields = sym (length-values_of name fields ∙ length-filter (λ field. bytes_eq field.name name) fields)
