-- What the tests of the rules answer, over plain values.
use Rattle.std.proofs.Common.{Option, Some, None, ◌≡◌, ℕ, ◌≤◌, Bool, true, false, List, [], ◌∷◌, ◌++◌, length, refl, sym, ap, ◌∙◌, subst, arith}
use Rattle.std.specs.Prelude.{not, ◌&&◌, ◌||◌, ◌==◌, nat_le, bytes_eq, codes, count_by, MatchBool, if◌then◌else◌}
use Rattle.std.specs.List.{list_all, list_any}
use Rattle.std.specs.Str.Parse.{digits_value}
use Rattle.std.proofs.lemmas.Bool.{false≢true, and_parts, and_from, eqb-true, eq-eqb, leb-true, le-leb}
use Rattle.std.proofs.lemmas.List.{nil_from_length}
use Rattle.model.specs.Octets.{some_of, is_digit, lower}
use Rattle.model.specs.Messages.{Field}
use Rattle.model.specs.Http1.{values_of, without}
use Rattle.model.specs.Http2.{first_of, promised, declared_length, is_pseudo, is_connect, pseudo_fields, regular_fields, known_names, authority_of, is_authority_octet, is_name_octet, Has, NamesHold, PseudoFieldsHold, AuthorityHolds, LengthFieldHolds}
use Rattle.model.proofs.Http1Runs.{run_of_some}
use Rattle.field_rules.proofs.FieldOrder.{none_pass, all_fail}
use Rattle.request_rules.proofs.FieldLists.{named_all, names_decided, without_decided, count_values, kept_all}

-- a test that is true, or false, decides
pub match_by : (b t : Bool) → b ≡ t → MatchBool b (t ≡ true) (t ≡ true → ⊥)
match_by true t e = sym e
match_by false t e = λ p. false≢true (e ∙ p)

pub match_if : (b : Bool) (P : Type 0) → (b ≡ true → P) → (P → b ≡ true) → MatchBool b P (P → ⊥)
match_if true P to from = to refl
match_if false P to from = λ p. false≢true (from p)

pub match_map : (b : Bool) (P Q : Type 0) → (P → Q) → (Q → P) → MatchBool b P (P → ⊥) → MatchBool b Q (Q → ⊥)
match_map true P Q to from m = to m
match_map false P Q to from m = λ q. m (from q)

pub match_equal : (m n k : ℕ) → m ≡ k → MatchBool (m == n) (k ≡ n) (k ≡ n → ⊥)
match_equal m n k e = match_if (m == n) (k ≡ n) (λ p. sym e ∙ eqb-true m n p) (λ p. eq-eqb m n (e ∙ p))

pub match_at_most : (m n k : ℕ) → m ≡ k → MatchBool (nat_le m n) (k ≤ n) (k ≤ n → ⊥)
match_at_most m n k e = match_if (nat_le m n) (k ≤ n) (λ p. let h = leb-true m n p in omega arith) (λ p. le-leb m n (omega arith))

pub match_names : (b : Bool) (head : List Field) → b ≡ list_all (λ field. is_pseudo field || some_of is_name_octet field.name) head → MatchBool b (NamesHold head) (NamesHold head → ⊥)
match_names b head e = let d = names_decided b head e in match_if b (NamesHold head) d.0 d.1

pub match_without : (names : List (List ℕ)) (b : Bool) (head : List Field) → b ≡ list_all (λ field. not (list_any (bytes_eq field.name) names)) head
    → MatchBool b (without names head ≡ head) (without names head ≡ head → ⊥)
match_without names b head e = let d = without_decided names b head e in match_if b (without names head ≡ head) d.0 d.1

pub match_named : (name : List ℕ) (test : List ℕ → Bool) (b : Bool) (head : List Field) → b ≡ list_all (λ field. not (bytes_eq field.name name) || test field.value) head
    → MatchBool b (list_all test (values_of name head) ≡ true) (list_all test (values_of name head) ≡ true → ⊥)
match_named name test b head e = match_by b _ (e ∙ named_all name test head)

-- the authority, by whether its pseudo-field is there
pub no_pseudo_authority : (head : List Field) (n : ℕ) → n ≡ count_by (λ field. bytes_eq field.name (codes ":authority")) head → n ≡ 0 → first_of (values_of (codes "host") head) ≡ authority_of head
no_pseudo_authority head n e zero =
    let none : values_of (codes ":authority") head ≡ [] = nil_from_length _ (sym (count_values (codes ":authority") head) ∙ sym e ∙ zero) in
    sym (ap (λ (vs : List (List ℕ)). first_of (vs ++ values_of (codes "host") head)) none)

first_of_some : (a b : List (List ℕ)) → (length a ≡ 0 → ⊥) → first_of a ≡ first_of (a ++ b)
first_of_some [] b p = absurd (p refl)
first_of_some (v ∷ a) b p = refl

pub pseudo_authority : (head : List Field) (n : ℕ) → n ≡ count_by (λ field. bytes_eq field.name (codes ":authority")) head → (n ≡ 0 → ⊥) → first_of (values_of (codes ":authority") head) ≡ authority_of head
pseudo_authority head n e some = first_of_some _ (values_of (codes "host") head) (λ zero. some (e ∙ count_values (codes ":authority") head ∙ zero))

-- the authorities, the pseudo-field's and the host's
pub all-append : (test : List ℕ → Bool) (a b : List (List ℕ)) → list_all test (a ++ b) ≡ (list_all test a && list_all test b)
all-append test [] b = refl
all-append test (v ∷ a) b = by_test (test v) (all-append test a b)
  where
    by_test : (t : Bool) → list_all test (a ++ b) ≡ (list_all test a && list_all test b) → (t && list_all test (a ++ b)) ≡ ((t && list_all test a) && list_all test b)
    by_test true e = e
    by_test false e = refl

pub match_authority_count : (b connect : Bool) (head : List Field) (n : ℕ) → n ≡ count_by (λ field. bytes_eq field.name (codes ":authority")) head
    → b ≡ (if connect then n == 1 else nat_le n 1)
    → MatchBool b ((length (values_of (codes ":authority") head) ≤ 1) × (connect ≡ true → Has 1 (codes ":authority") head))
    ((length (values_of (codes ":authority") head) ≤ 1) × (connect ≡ true → Has 1 (codes ":authority") head) → ⊥)
match_authority_count b true head n e is =
    let count = e ∙ count_values (codes ":authority") head in
    match_if b _
    (λ p. let one : n ≡ 1 = eqb-true n 1 (sym is ∙ p) in (omega arith, λ q. sym count ∙ one))
    (λ p. is ∙ eq-eqb n 1 (count ∙ p.1 refl))
match_authority_count b false head n e is =
    let count = e ∙ count_values (codes ":authority") head in
    match_if b _
    (λ p. let few = leb-true n 1 (sym is ∙ p) in (omega arith, λ q. absurd (false≢true q)))
    (λ p. is ∙ le-leb n 1 (let few = p.0 in omega arith))

pub match_authority : (b : Bool) (head : List Field)
    → length (values_of (codes "host") head) ≤ 1 → some_of is_authority_octet (authority_of head) ≡ true
    → list_all (λ value. bytes_eq (lower value) (lower (authority_of head))) (values_of (codes ":authority") head) ≡ true
    → b ≡ list_all (λ field. not (bytes_eq field.name (codes "host")) || bytes_eq (lower field.value) (lower (authority_of head))) head
    → MatchBool b (AuthorityHolds head) (AuthorityHolds head → ⊥)
match_authority b head one octets first e =
    let test : List ℕ → Bool = λ value. bytes_eq (lower value) (lower (authority_of head)) in
    let hosts : b ≡ list_all test (values_of (codes "host") head) = e ∙ named_all (codes "host") test head in
    let whole = all-append test (values_of (codes ":authority") head) (values_of (codes "host") head) in
    match_if b (AuthorityHolds head)
    (λ p. record { one_host = one; octets = octets; same = whole ∙ and_from _ _ first (sym hosts ∙ p) })
    (λ p. hosts ∙ (and_parts _ _ (sym whole ∙ p.same)).1)

pub no_authority : (head : List Field) → list_all (λ field. not (bytes_eq field.name (codes ":authority")) || bytes_eq (lower field.value) (lower (authority_of head))) head ≡ false → AuthorityHolds head → ⊥
no_authority head e p =
    let test : List ℕ → Bool = λ value. bytes_eq (lower value) (lower (authority_of head)) in
    let whole = all-append test (values_of (codes ":authority") head) (values_of (codes "host") head) in
    false≢true (sym e ∙ named_all (codes ":authority") test head ∙ (and_parts _ _ (sym whole ∙ p.same)).0)

-- the known pseudo-fields
not-not : (b : Bool) → not (not b) ≡ b
not-not true = refl
not-not false = refl

same_tests : (test other : Field → Bool) → ((field : Field) → test field ≡ other field) → (fields : List Field) → list_all test fields ≡ list_all other fields
same_tests test other same [] = refl
same_tests test other same (field ∷ fields) = let first = same field in let rest = same_tests test other same fields in cc

none_left : (names : List (List ℕ)) (fields : List Field) → list_all (λ field. list_any (bytes_eq field.name) names) fields ≡ true → without names fields ≡ []
none_left names fields p =
    none_pass (λ field. not (list_any (bytes_eq field.name) names)) fields (sym (same_tests _ _ (λ field. sym (not-not (list_any (bytes_eq field.name) names))) fields) ∙ p)

all_known : (names : List (List ℕ)) (fields : List Field) → without names fields ≡ [] → list_all (λ field. list_any (bytes_eq field.name) names) fields ≡ true
all_known names fields e =
    same_tests _ _ (λ field. sym (not-not (list_any (bytes_eq field.name) names))) fields ∙ all_fail (λ field. not (list_any (bytes_eq field.name) names)) fields e

pub match_known : (b : Bool) (head : List Field) → b ≡ list_all (λ field. not (is_pseudo field) || list_any (bytes_eq field.name) known_names) head
    → MatchBool b (without known_names (pseudo_fields head) ≡ []) (without known_names (pseudo_fields head) ≡ [] → ⊥)
match_known b head e =
    let kept : b ≡ list_all (λ field. list_any (bytes_eq field.name) known_names) (pseudo_fields head) = e ∙ kept_all is_pseudo (λ field. list_any (bytes_eq field.name) known_names) head in
    match_if b _ (λ p. none_left known_names (pseudo_fields head) (sym kept ∙ p)) (λ p. kept ∙ all_known known_names (pseudo_fields head) p)

pub not_known : (b : Bool) (head : List Field) → b ≡ list_all (λ field. not (is_pseudo field) || list_any (bytes_eq field.name) known_names) head → b ≡ false
    → without known_names (pseudo_fields head) ≡ [] → ⊥
not_known b head e f p = (subst (λ t. MatchBool t (without known_names (pseudo_fields head) ≡ []) (without known_names (pseudo_fields head) ≡ [] → ⊥)) f (match_known b head e)) p

pub is_known : (b : Bool) (head : List Field) → b ≡ list_all (λ field. not (is_pseudo field) || list_any (bytes_eq field.name) known_names) head → b ≡ true
    → without known_names (pseudo_fields head) ≡ []
is_known b head e t = subst (λ t. MatchBool t (without known_names (pseudo_fields head) ≡ []) (without known_names (pseudo_fields head) ≡ [] → ⊥)) t (match_known b head e)

abbrev pub AuthorityCount : Bool → List Field → Type 0
AuthorityCount connect head = (length (values_of (codes ":authority") head) ≤ 1) × (connect ≡ true → Has 1 (codes ":authority") head)

pub match_pseudo : (b connect : Bool) (parts : ℕ) (head : List Field) → connect ≡ is_connect head → parts ≡ (if connect then 0 else 1)
    → head ≡ pseudo_fields head ++ regular_fields head → without known_names (pseudo_fields head) ≡ [] → Has 1 (codes ":method") head
    → Has parts (codes ":scheme") head → Has parts (codes ":path") head → MatchBool b (AuthorityCount connect head) (AuthorityCount connect head → ⊥)
    → MatchBool b (PseudoFieldsHold head) (PseudoFieldsHold head → ⊥)
match_pseudo b connect parts head c n first known method scheme path m =
    let count : parts ≡ (if is_connect head then 0 else 1) = n ∙ ap (λ (t : Bool). if t then 0 else 1) c in
    match_map b (AuthorityCount connect head) (PseudoFieldsHold head)
    (λ p. record {
      first = first;
      known = known;
      method = method;
      scheme = scheme ∙ count;
      path = path ∙ count;
      one_authority = p.0;
      connect_authority = λ q. p.1 (c ∙ q);
    })
    (λ p. (p.one_authority, λ q. p.connect_authority (sym c ∙ q))) m

-- the declared length, by whether its field is there
pub none_declared : (head : List Field) (n : ℕ) → n ≡ count_by (λ field. bytes_eq field.name (codes "content-length")) head → n ≡ 0 → None ≡ declared_length head
none_declared head n e zero =
    let none : values_of (codes "content-length") head ≡ [] = nil_from_length _ (sym (count_values (codes "content-length") head) ∙ sym e ∙ zero) in
    sym (ap promised none)

promised_first : (values : List (List ℕ)) → (length values ≡ 0 → ⊥) → Some (digits_value 10 (first_of values)) ≡ promised values
promised_first [] some = absurd (some refl)
promised_first (value ∷ values) some = refl

pub some_declared : (head : List Field) (n number : ℕ) → n ≡ count_by (λ field. bytes_eq field.name (codes "content-length")) head → (n ≡ 0 → ⊥)
    → number ≡ digits_value 10 (first_of (values_of (codes "content-length") head)) → Some number ≡ declared_length head
some_declared head n number e some is =
    ap {A = ℕ} {B = Option ℕ} (λ m. Some m) is ∙ promised_first (values_of (codes "content-length") head) (λ zero. some (e ∙ count_values (codes "content-length") head ∙ zero))

first_length_parts : (values : List (List ℕ)) → (length values ≡ 0 → ⊥) → list_all (λ value. some_of is_digit value && nat_le (length value) 18) values ≡ true
    → (list_all is_digit (first_of values) ≡ true) × (length (first_of values) ≤ 18)
first_length_parts [] some p = absurd (some refl)
first_length_parts (value ∷ values) some p =
    let both = and_parts (some_of is_digit value) _ (and_parts (some_of is_digit value && nat_le (length value) 18) _ p).0 in
    (run_of_some is_digit value both.0, leb-true (length value) 18 both.1)

pub first_length : (head : List Field) (n : ℕ) → n ≡ count_by (λ field. bytes_eq field.name (codes "content-length")) head → (n ≡ 0 → ⊥) → LengthFieldHolds head
    → (list_all is_digit (first_of (values_of (codes "content-length") head)) ≡ true) × (length (first_of (values_of (codes "content-length") head)) ≤ 18)
first_length head n e some p = first_length_parts (values_of (codes "content-length") head) (λ zero. some (e ∙ count_values (codes "content-length") head ∙ zero)) p.digits

pub match_no_pseudo : (b : Bool) (fields : List Field) → b ≡ list_all (λ field. not (is_pseudo field)) fields → MatchBool b (pseudo_fields fields ≡ []) (pseudo_fields fields ≡ [] → ⊥)
match_no_pseudo b fields e = match_if b _ (λ p. none_pass is_pseudo fields (sym e ∙ p)) (λ p. e ∙ all_fail is_pseudo fields p)
