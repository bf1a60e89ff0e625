-- Lists of fields read field by field.
use Rattle.std.proofs.Common.{suc, ◌≡◌, ℕ, ◌+◌, ◌<◌, ◌≤◌, Bool, true, false, List, [], ◌∷◌, ◌++◌, length, take, get_or, filter, append_assoc, refl, sym, ap, ◌∙◌, inl, inr, add-one, arith}
use Rattle.std.specs.Prelude.{not, ◌&&◌, ◌||◌, bytes_eq, codes, count_by, if◌then◌else◌}
use Rattle.std.specs.List.{list_all, list_any, flat_map}
use Rattle.std.proofs.lemmas.Bool.{cases_Bool, cond-true, cond-false}
use Rattle.std.proofs.lemmas.List.Folds.{list_any-append}
use Rattle.std.proofs.lemmas.List.Elements.{filter-append}
use Rattle.std.proofs.lemmas.List.Sums.{length-filter}
use Rattle.std.proofs.lemmas.Grind.{flat_map-append}
use Rattle.std.proofs.lemmas.List.{append-nil}
use Rattle.std.proofs.Math.Seq.{take-suc}
use Rattle.model.specs.Messages.{Field}
use Rattle.model.specs.Http1.{values_of, without}
use Rattle.model.specs.ResponseHeads.{names_in, named_by_connection, with_one}

-- a name is named where a field Connection names it
pub some_names : (name : List ℕ) (fields : List Field)
    → list_any (λ field. bytes_eq field.name (codes "connection") && list_any (bytes_eq name) (names_in field.value)) fields ≡ list_any (bytes_eq name) (named_by_connection fields)
some_names name [] = refl
some_names name (field ∷ fields) =
    let rest = some_names name fields in
    let more = list_any-append (bytes_eq name) (names_in field.value) (named_by_connection fields) in
    elim (cases_Bool (bytes_eq field.name (codes "connection"))) [
      | inl e ↦ rw (e) (ap (λ t. list_any (bytes_eq name) (names_in field.value) || t) rest ∙ sym more)
      | inr e ↦ rw (e) rest
    ]

-- a test of the values of a name is one of all fields
pub named_all : (name : List ℕ) (test : List ℕ → Bool) (fields : List Field)
    → list_all (λ field. not (bytes_eq field.name name) || test field.value) fields ≡ list_all test (values_of name fields)
named_all name test [] = refl
named_all name test (field ∷ fields) =
    let rest = named_all name test fields in
    elim (cases_Bool (bytes_eq field.name name)) [
      | inl e ↦ rw (cond-true (bytes_eq field.name name) (field.value ∷ values_of name fields) (values_of name fields) e, e) (ap (λ t. test field.value && t) rest)
      | inr e ↦ rw (cond-false (bytes_eq field.name name) (field.value ∷ values_of name fields) (values_of name fields) e, e) rest
    ]

same_lengths : (t : Bool) (v : List ℕ) (vs : List (List ℕ)) (f : Field) (fs : List Field) → length vs ≡ length fs → length (if t then v ∷ vs else vs) ≡ length (if t then f ∷ fs else fs)
same_lengths true v vs f fs e = ap suc e
same_lengths false v vs f fs e = e

length-values_of : (name : List ℕ) (fields : List Field) → length (values_of name fields) ≡ length (filter (λ field. bytes_eq field.name name) fields)
length-values_of name [] = refl
length-values_of name (field ∷ fields) =
    same_lengths (bytes_eq field.name name) field.value (values_of name fields) field (filter (λ f. bytes_eq f.name name) fields) (length-values_of name fields)

pub count_values : (name : List ℕ) (fields : List Field) → count_by (λ field. bytes_eq field.name name) fields ≡ length (values_of name fields)
count_values name fields = sym (length-values_of name fields ∙ length-filter (λ field. bytes_eq field.name name) fields)

-- the field has the name
abbrev is_of : List ℕ → Field → Bool
is_of name field = bytes_eq field.name name

without_one : (name : List ℕ) (x : Field) (b : Bool) → is_of name x ≡ b → without (name ∷ []) (x ∷ []) ≡ (if b then [] else x ∷ [])
without_one name x true e = rw e refl
without_one name x false e = rw e refl

one_at_end : (name : List ℕ) (x : Field) → with_one name (x ∷ []) ≡ x ∷ []
one_at_end name x =
    elim (cases_Bool (is_of name x)) [
      | inl e ↦ cond-true (is_of name x) (x ∷ []) (x ∷ []) e
      | inr e ↦ cond-false (is_of name x) (x ∷ []) (x ∷ []) e
    ]

not_both : (s t b : Bool) → not (s && (true || t)) ≡ b → s ≡ not b
not_both true t true e = sym e
not_both true t false e = refl
not_both false t true e = refl
not_both false t false e = sym e

choice : (b : Bool) (x : Field) → ◌≡◌ {A = List Field} (if not b then [] else x ∷ []) (if b then x ∷ [] else [])
choice true x = refl
choice false x = refl

with_one_there : (name : List ℕ) (y : Field) (xs : List Field) (x : Field) (b : Bool) → is_of name y ≡ true → not (is_of name x && list_any (is_of name) (y ∷ xs)) ≡ b
    → with_one name ((y ∷ xs) ++ x ∷ []) ≡ with_one name (y ∷ xs) ++ (if b then x ∷ [] else [])
with_one_there name y xs x b p e =
    let whole : not (is_of name x && (true || list_any (is_of name) xs)) ≡ b = ap (λ t. not (is_of name x && (t || list_any (is_of name) xs))) (sym p) ∙ e in
    let last : without (name ∷ []) (x ∷ []) ≡ (if b then x ∷ [] else []) = without_one name x (not b) (not_both (is_of name x) (list_any (is_of name) xs) b whole) ∙ choice b x in
    let parts : without (name ∷ []) (xs ++ x ∷ []) ≡ without (name ∷ []) xs ++ (if b then x ∷ [] else []) =
    filter-append (λ field. not (list_any (bytes_eq field.name) (name ∷ []))) xs (x ∷ []) ∙ ap (λ (o : List Field). without (name ∷ []) xs ++ o) last in
    rw (cond-true (is_of name y) (y ∷ without (name ∷ []) (xs ++ x ∷ [])) (y ∷ with_one name (xs ++ x ∷ [])) p, cond-true (is_of name y) (y ∷ without (name ∷ []) xs) (y ∷ with_one name xs) p)
    (ap (λ (o : List Field). y ∷ o) parts)

with_one_on : (name : List ℕ) (y : Field) (xs : List Field) (x : Field) (b : Bool) → is_of name y ≡ false → not (is_of name x && list_any (is_of name) (y ∷ xs)) ≡ b
    → ((c : Bool) → not (is_of name x && list_any (is_of name) xs) ≡ c → with_one name (xs ++ x ∷ []) ≡ with_one name xs ++ (if c then x ∷ [] else []))
    → with_one name ((y ∷ xs) ++ x ∷ []) ≡ with_one name (y ∷ xs) ++ (if b then x ∷ [] else [])
with_one_on name y xs x b p e more =
    let whole : not (is_of name x && (false || list_any (is_of name) xs)) ≡ b = ap (λ t. not (is_of name x && (t || list_any (is_of name) xs))) (sym p) ∙ e in
    rw (cond-false (is_of name y) (y ∷ without (name ∷ []) (xs ++ x ∷ [])) (y ∷ with_one name (xs ++ x ∷ [])) p, cond-false (is_of name y) (y ∷ without (name ∷ []) xs) (y ∷ with_one name xs) p)
    (ap (λ (o : List Field). y ∷ o) (more b whole))

-- one more field goes to the end, unless it is a second of the name
pub with_one_more : (name : List ℕ) (xs : List Field) (x : Field) (b : Bool) → not (is_of name x && list_any (is_of name) xs) ≡ b
    → with_one name (xs ++ x ∷ []) ≡ with_one name xs ++ (if b then x ∷ [] else [])
with_one_more name [] x b e =
    let all : not (is_of name x && false) ≡ true = elim (is_of name x) as (λ t. not (t && false) ≡ true) [ true ↦ refl | false ↦ refl ] in
    let is : b ≡ true = sym e ∙ all in
    rw is (one_at_end name x)
with_one_more name (y ∷ xs) x b e =
    elim (cases_Bool (is_of name y)) [
      | inl p ↦ with_one_there name y xs x b p e
      | inr p ↦ with_one_on name y xs x b p e (with_one_more name xs x)
    ]

or_false : (t : Bool) → (t || false) ≡ t
or_false true = refl
or_false false = refl

pub any_more : (name : List ℕ) (xs : List Field) (x : Field) → list_any (is_of name) (xs ++ x ∷ []) ≡ (list_any (is_of name) xs || is_of name x)
any_more name xs x = list_any-append (is_of name) xs (x ∷ []) ∙ ap (λ t. list_any (is_of name) xs || t) (or_false (is_of name x))

-- what is taken so far, with the next field
pub taken_more : (fields : List Field) (i : ℕ) (x : Field) → i < length fields → x ≡ get_or fields i x → take (i + 1) fields ≡ take i fields ++ x ∷ []
taken_more fields i x h e = rw add-one (take-suc fields i x h ∙ ap (λ (o : Field). take i fields ++ o ∷ []) (sym e))

-- the first value of a name, where the first field has it
pub first_there : (name : List ℕ) (fields : List Field) (first : Field) → 0 < length fields → first ≡ get_or fields 0 first → bytes_eq first.name name ≡ true
    → (others : List (List ℕ)) × (values_of name fields ≡ first.value ∷ others)
first_there name [] first h e p = absurd (omega arith)
first_there name (field ∷ fields) first h e p = (
  values_of name fields,
  cond-true (bytes_eq field.name name) (field.value ∷ values_of name fields) (values_of name fields) (ap (λ (f : Field). bytes_eq f.name name) (sym e) ∙ p)
      ∙ ap (λ (f : Field). f.value ∷ values_of name fields) (sym e),
)

-- what is written of the fields so far, with a field that is kept
pub kept_to : (name : List ℕ) (begun out fields : List Field) (i : ℕ) (x y : Field) (found kept : Bool)
    → out ≡ begun ++ with_one name (take i fields) → found ≡ list_any (is_of name) (take i fields) → kept ≡ not (bytes_eq x.name name && found) → kept ≡ true
    → y ≡ x → take (i + 1) fields ≡ take i fields ++ x ∷ [] → out ++ y ∷ [] ≡ begun ++ with_one name (take (i + 1) fields)
kept_to name begun out fields i x y found kept is was test holds same more =
    let decided : not (is_of name x && list_any (is_of name) (take i fields)) ≡ true = ap (λ t. not (bytes_eq x.name name && t)) (sym was) ∙ sym test ∙ holds in
    let step = with_one_more name (take i fields) x true decided in
    ap (λ (o : List Field). o ++ y ∷ []) is ∙ ap (λ (f : Field). (begun ++ with_one name (take i fields)) ++ f ∷ []) same
    ∙ append_assoc begun (with_one name (take i fields)) (x ∷ []) ∙ ap (λ (o : List Field). begun ++ o) (sym step) ∙ ap (λ (o : List Field). begun ++ with_one name o) (sym more)

pub dropped_to : (name : List ℕ) (begun out fields : List Field) (i : ℕ) (x : Field) (found kept : Bool)
    → out ≡ begun ++ with_one name (take i fields) → found ≡ list_any (is_of name) (take i fields) → kept ≡ not (bytes_eq x.name name && found) → kept ≡ false
    → take (i + 1) fields ≡ take i fields ++ x ∷ [] → out ≡ begun ++ with_one name (take (i + 1) fields)
dropped_to name begun out fields i x found kept is was test fails more =
    let decided : not (is_of name x && list_any (is_of name) (take i fields)) ≡ false = ap (λ t. not (bytes_eq x.name name && t)) (sym was) ∙ sym test ∙ fails in
    let step : with_one name (take i fields ++ x ∷ []) ≡ with_one name (take i fields) = with_one_more name (take i fields) x false decided ∙ append-nil (with_one name (take i fields)) in
    is ∙ ap (λ (o : List Field). begun ++ o) (sym step) ∙ ap (λ (o : List Field). begun ++ with_one name o) (sym more)

-- ---- the fields Connection

values_append : (name : List ℕ) (xs ys : List Field) → values_of name (xs ++ ys) ≡ values_of name xs ++ values_of name ys
values_append name [] ys = refl
values_append name (x ∷ xs) ys = by (bytes_eq x.name name) (values_append name xs ys)
  where
    by : (b : Bool) → values_of name (xs ++ ys) ≡ values_of name xs ++ values_of name ys
        → (if b then x.value ∷ values_of name (xs ++ ys) else values_of name (xs ++ ys)) ≡ (if b then x.value ∷ values_of name xs else values_of name xs) ++ values_of name ys
    by true e = ap (λ (o : List (List ℕ)). x.value ∷ o) e
    by false e = e

named_append : (xs ys : List Field) → named_by_connection (xs ++ ys) ≡ named_by_connection xs ++ named_by_connection ys
named_append xs ys = ap (flat_map names_in) (values_append (codes "connection") xs ys) ∙ flat_map-append names_in (values_of (codes "connection") xs) (values_of (codes "connection") ys)

-- one field more among all, and among those that were found
pub named_more : (found all : List Field) (y x : Field) → y ≡ x → named_by_connection found ≡ named_by_connection all → named_by_connection (found ++ y ∷ []) ≡ named_by_connection (all ++ x ∷ [])
named_more found all y x same e =
    named_append found (y ∷ []) ∙ ap (λ (o : List (List ℕ)). o ++ named_by_connection (y ∷ [])) e ∙ ap (λ (f : Field). named_by_connection all ++ named_by_connection (f ∷ [])) same
    ∙ sym (named_append all (x ∷ []))

-- a field of another name names nothing
pub named_none : (found all : List Field) (x : Field) → bytes_eq x.name (codes "connection") ≡ false → named_by_connection found ≡ named_by_connection all → named_by_connection found ≡ named_by_connection (all ++ x ∷ [])
named_none found all x other e =
    let nothing : values_of (codes "connection") (x ∷ []) ≡ [] = cond-false (bytes_eq x.name (codes "connection")) (x.value ∷ []) [] other in
    e ∙ sym (append-nil (named_by_connection all)) ∙ ap (λ (o : List (List ℕ)). named_by_connection all ++ flat_map names_in o) (sym nothing) ∙ sym (named_append all (x ∷ []))

-- ---- one field of a name

none_left : (name : List ℕ) (xs : List Field) → length (values_of name xs) ≡ 0 → without (name ∷ []) xs ≡ xs
none_left name [] e = refl
none_left name (x ∷ xs) e = elim (cases_Bool (bytes_eq x.name name)) [
  | inl p ↦ (
      let there : values_of name (x ∷ xs) ≡ x.value ∷ values_of name xs = cond-true (bytes_eq x.name name) (x.value ∷ values_of name xs) (values_of name xs) p in
      let sizes : length (values_of name (x ∷ xs)) ≡ length (x.value ∷ values_of name xs) = ap length there in
      absurd (omega arith)
      )
  | inr p ↦ (
      let there : values_of name (x ∷ xs) ≡ values_of name xs = cond-false (bytes_eq x.name name) (x.value ∷ values_of name xs) (values_of name xs) p in
      rw p (ap (λ (o : List Field). x ∷ o) (none_left name xs (sym (ap length there) ∙ e)))
      )
]

-- all fields are kept where no second one has the name
pub one_alone : (name : List ℕ) (xs : List Field) → length (values_of name xs) ≤ 1 → with_one name xs ≡ xs
one_alone name [] few = refl
one_alone name (x ∷ xs) few = elim (cases_Bool (bytes_eq x.name name)) [
  | inl p ↦ (
      let there : values_of name (x ∷ xs) ≡ x.value ∷ values_of name xs = cond-true (bytes_eq x.name name) (x.value ∷ values_of name xs) (values_of name xs) p in
      let sizes : length (values_of name (x ∷ xs)) ≡ length (x.value ∷ values_of name xs) = ap length there in
      cond-true (bytes_eq x.name name) (x ∷ without (name ∷ []) xs) (x ∷ with_one name xs) p ∙ ap (λ (o : List Field). x ∷ o) (none_left name xs (omega arith))
      )
  | inr p ↦ (
      let there : values_of name (x ∷ xs) ≡ values_of name xs = cond-false (bytes_eq x.name name) (x.value ∷ values_of name xs) (values_of name xs) p in
      let sizes : length (values_of name (x ∷ xs)) ≡ length (values_of name xs) = ap length there in
      cond-false (bytes_eq x.name name) (x ∷ without (name ∷ []) xs) (x ∷ with_one name xs) p ∙ ap (λ (o : List Field). x ∷ o) (one_alone name xs (omega arith))
      )
]
