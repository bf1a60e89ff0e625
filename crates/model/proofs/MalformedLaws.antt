-- The tests of heads and trailers tell the rules that they stand for.
use Rattle.std.proofs.Common.{◌≡◌, ℕ, suc, ◌≤◌, Bool, true, false, not, ◌&&◌, ◌||◌, List, [], ◌∷◌, ◌++◌, length, filter, refl, sym, ap, ◌∙◌, arith, if◌then◌else◌, inl, inr}
use Rattle.std.specs.Prelude.{codes, bytes_eq, nat_le}
use Rattle.std.specs.List.{list_all, list_any}
use Rattle.std.proofs.lemmas.Bool.{cases_Bool, leb-true, le-leb}
use Rattle.std.proofs.lemmas.Bool.Decides.{eqb_tells}
use Rattle.model.specs.Octets.{some_of, is_token_octet}
use Rattle.model.specs.Messages.{Field}
use Rattle.model.specs.Http1.{values_of, without}
use Rattle.model.specs.Http2.{is_pseudo, pseudo_fields, regular_fields, method_of, is_connect, authority_of, is_authority_octet, known_names, connection_names, is_path_for, Has, PseudoFieldsHold, HasNoConnectionField, AuthorityHolds, LengthFieldHolds, WellFormedHead, WellFormedTrailers}
use Rattle.model.specs.Malformed.{is_none_left, has, are_pseudo_first, are_pseudo_fields, are_names, are_values, has_none_of, are_te, is_scheme, is_authority, is_length_field, is_well_formed, are_trailers}

-- ---- tests

pub left_true : (a b : Bool) → (a && b) ≡ true → a ≡ true
left_true true b e = refl
left_true false b e = e

pub right_true : (a b : Bool) → (a && b) ≡ true → b ≡ true
right_true true b e = e
right_true false b e = let clash : false ≡ true = e in cc

pub both_true : (a b : Bool) → a ≡ true → b ≡ true → (a && b) ≡ true
both_true true b p q = q
both_true false b p q = p

none_left : (fields : List Field) → is_none_left fields ≡ true → fields ≡ []
none_left [] e = refl
none_left (f ∷ fs) e = let clash : false ≡ true = e in cc

left_none : (fields : List Field) → fields ≡ [] → is_none_left fields ≡ true
left_none fields e = ap is_none_left e

counted : (count : ℕ) (name : List ℕ) (fields : List Field) → has count name fields ≡ true → Has count name fields
counted count name fields e = elim (eqb_tells (length (values_of name fields)) count) [ inl same ↦ same.1 | inr apart ↦ absurd (let clash : false ≡ true = sym apart.0 ∙ e in cc) ]

has_counted : (count : ℕ) (name : List ℕ) (fields : List Field) → Has count name fields → has count name fields ≡ true
has_counted count name fields e = elim (eqb_tells (length (values_of name fields)) count) [ inl same ↦ same.0 | inr apart ↦ absurd (apart.1 e) ]

if_connect : (c b : Bool) → (not c || b) ≡ true → c ≡ true → b ≡ true
if_connect true b e on = e
if_connect false b e on = let clash : false ≡ true = on in cc

connect_if : (c b : Bool) → (c ≡ true → b ≡ true) → (not c || b) ≡ true
connect_if true b f = f refl
connect_if false b f = refl

-- ---- pseudo-fields first

-- a list without any is the list of the others
all_regular : (fields : List Field) → pseudo_fields fields ≡ [] → fields ≡ regular_fields fields
all_regular [] e = refl
all_regular (f ∷ fs) e = elim (cases_Bool (is_pseudo f)) [
  | inl p ↦ absurd (let clash : f ∷ pseudo_fields fs ≡ [] = sym (ap (λ b. if b then f ∷ pseudo_fields fs else pseudo_fields fs) p) ∙ e in cc)
  | inr p ↦ (let rest : pseudo_fields fs ≡ [] = sym (ap (λ b. if b then f ∷ pseudo_fields fs else pseudo_fields fs) p) ∙ e in
      ap (λ l. f ∷ l) (all_regular fs rest) ∙ sym (ap (λ b. if not b then f ∷ regular_fields fs else regular_fields fs) p))
]

-- the first of the pseudo-fields is one
first_pseudo : (fields more : List Field) (f : Field) → pseudo_fields fields ≡ f ∷ more → is_pseudo f ≡ true
first_pseudo [] more f e = cc
first_pseudo (g ∷ gs) more f e = elim (cases_Bool (is_pseudo g)) [
  | inl p ↦ (let whole : g ∷ pseudo_fields gs ≡ f ∷ more = sym (ap (λ b. if b then g ∷ pseudo_fields gs else pseudo_fields gs) p) ∙ e in let same : g ≡ f = cc in ap is_pseudo (sym same) ∙ p)
  | inr p ↦ first_pseudo gs more f (sym (ap (λ b. if b then g ∷ pseudo_fields gs else pseudo_fields gs) p) ∙ e)
]

pseudo_first : (fields : List Field) → are_pseudo_first fields ≡ true → fields ≡ pseudo_fields fields ++ regular_fields fields
pseudo_first [] e = refl
pseudo_first (f ∷ fs) e = elim (cases_Bool (is_pseudo f)) [
  | inl p ↦ (let rest : are_pseudo_first fs ≡ true = sym (ap (λ b. if b then are_pseudo_first fs else is_none_left (pseudo_fields fs)) p) ∙ e in
      ap (λ l. f ∷ l) (pseudo_first fs rest)
      ∙ sym (ap (λ b. (if b then f ∷ pseudo_fields fs else pseudo_fields fs) ++ (if not b then f ∷ regular_fields fs else regular_fields fs)) p))
  | inr p ↦ (let none : pseudo_fields fs ≡ [] = none_left (pseudo_fields fs) (sym (ap (λ b. if b then are_pseudo_first fs else is_none_left (pseudo_fields fs)) p) ∙ e) in
      ap (λ l. f ∷ l) (all_regular fs none)
      ∙ sym (ap (λ l. l ++ f ∷ regular_fields fs) none)
      ∙ sym (ap (λ b. (if b then f ∷ pseudo_fields fs else pseudo_fields fs) ++ (if not b then f ∷ regular_fields fs else regular_fields fs)) p))
]

first_tells : (fields : List Field) → fields ≡ pseudo_fields fields ++ regular_fields fields → are_pseudo_first fields ≡ true
first_tells [] e = refl
first_tells (f ∷ fs) e = elim (cases_Bool (is_pseudo f)) [
  | inl p ↦ (let whole : f ∷ fs ≡ f ∷ (pseudo_fields fs ++ regular_fields fs) = e ∙ ap (λ b. (if b then f ∷ pseudo_fields fs else pseudo_fields fs) ++ (if not b then f ∷ regular_fields fs else regular_fields fs)) p in
      let rest : fs ≡ pseudo_fields fs ++ regular_fields fs = cc in
      ap (λ b. if b then are_pseudo_first fs else is_none_left (pseudo_fields fs)) p ∙ first_tells fs rest)
  | inr p ↦ (let whole : f ∷ fs ≡ pseudo_fields fs ++ f ∷ regular_fields fs = e ∙ ap (λ b. (if b then f ∷ pseudo_fields fs else pseudo_fields fs) ++ (if not b then f ∷ regular_fields fs else regular_fields fs)) p in
      ap (λ b. if b then are_pseudo_first fs else is_none_left (pseudo_fields fs)) p ∙ none p (pseudo_fields fs) refl whole)
]
  where
    none : is_pseudo f ≡ false → (list : List Field) → list ≡ pseudo_fields fs → f ∷ fs ≡ list ++ f ∷ regular_fields fs → is_none_left list ≡ true
    none p [] same whole = refl
    none p (g ∷ gs) same whole =
        let head : g ≡ f = cc in let is : is_pseudo g ≡ true = first_pseudo fs gs g (sym same) in let clash : false ≡ true = sym p ∙ ap is_pseudo (sym head) ∙ is in cc

-- ---- fields that none is filtered from

short_filter : (test : Field → Bool) (fields : List Field) → length (filter test fields) ≤ length fields
short_filter test [] = omega arith
short_filter test (f ∷ fs) = elim (cases_Bool (test f)) [
  | inl p ↦ (let less = short_filter test fs in let same : length (filter test (f ∷ fs)) ≡ suc (length (filter test fs)) = ap (λ b. length (if b then f ∷ filter test fs else filter test fs)) p in omega (arith, less, same))
  | inr p ↦ (let less = short_filter test fs in let same : length (filter test (f ∷ fs)) ≡ length (filter test fs) = ap (λ b. length (if b then f ∷ filter test fs else filter test fs)) p in omega (arith, less, same))
]

all_pass : (test : Field → Bool) (fields : List Field) → list_all test fields ≡ true → filter test fields ≡ fields
all_pass test [] e = refl
all_pass test (f ∷ fs) e =
    ap (λ b. if b then f ∷ filter test fs else filter test fs) (left_true (test f) (list_all test fs) e) ∙ ap (λ l. f ∷ l) (all_pass test fs (right_true (test f) (list_all test fs) e))

pass_all : (test : Field → Bool) (fields : List Field) → filter test fields ≡ fields → list_all test fields ≡ true
pass_all test [] e = refl
pass_all test (f ∷ fs) e = elim (cases_Bool (test f)) [
  | inl p ↦ (let whole : f ∷ filter test fs ≡ f ∷ fs = sym (ap (λ b. if b then f ∷ filter test fs else filter test fs) p) ∙ e in let rest : filter test fs ≡ fs = cc in both_true (test f) (list_all test fs) p (pass_all test fs rest))
  | inr p ↦ (let whole : filter test fs ≡ f ∷ fs = sym (ap (λ b. if b then f ∷ filter test fs else filter test fs) p) ∙ e in let less = short_filter test fs in let sizes = ap length whole in absurd (omega (arith, less, sizes)))
]

-- ---- a head

pseudo_hold : (head : List Field) → are_pseudo_fields head ≡ true → PseudoFieldsHold head
pseudo_hold head e =
    let e1 = right_true (are_pseudo_first head) _ e in
    let e2 = right_true (is_none_left (without known_names (pseudo_fields head))) _ e1 in
    let e3 = right_true (has 1 (codes ":method") head) _ e2 in
    let e4 = right_true (has (if is_connect head then 0 else 1) (codes ":scheme") head) _ e3 in
    let e5 = right_true (has (if is_connect head then 0 else 1) (codes ":path") head) _ e4 in
    let e6 = left_true _ true (right_true (nat_le (length (values_of (codes ":authority") head)) 1) _ e5) in
    record {
      first = pseudo_first head (left_true (are_pseudo_first head) _ e);
      known = none_left _ (left_true (is_none_left (without known_names (pseudo_fields head))) _ e1);
      method = counted 1 (codes ":method") head (left_true (has 1 (codes ":method") head) _ e2);
      scheme = counted _ (codes ":scheme") head (left_true (has (if is_connect head then 0 else 1) (codes ":scheme") head) _ e3);
      path = counted _ (codes ":path") head (left_true (has (if is_connect head then 0 else 1) (codes ":path") head) _ e4);
      one_authority = leb-true (length (values_of (codes ":authority") head)) 1 (left_true (nat_le (length (values_of (codes ":authority") head)) 1) _ e5);
      connect_authority = λ on. counted 1 (codes ":authority") head (if_connect (is_connect head) (has 1 (codes ":authority") head) e6 on);
    }

pseudo_told : (head : List Field) → PseudoFieldsHold head → are_pseudo_fields head ≡ true
pseudo_told head p =
    both_true (are_pseudo_first head) _ (first_tells head p.first) (
    both_true (is_none_left (without known_names (pseudo_fields head))) _ (left_none _ p.known) (
    both_true (has 1 (codes ":method") head) _ (has_counted 1 (codes ":method") head p.method) (
    both_true (has (if is_connect head then 0 else 1) (codes ":scheme") head) _ (has_counted _ (codes ":scheme") head p.scheme) (
    both_true (has (if is_connect head then 0 else 1) (codes ":path") head) _ (has_counted _ (codes ":path") head p.path) (
    both_true (nat_le (length (values_of (codes ":authority") head)) 1) _ (le-leb (length (values_of (codes ":authority") head)) 1 p.one_authority) (
    both_true (not (is_connect head) || has 1 (codes ":authority") head) true (connect_if (is_connect head) (has 1 (codes ":authority") head) (λ on. has_counted 1 (codes ":authority") head (p.connect_authority on))) refl))))))

authority_holds : (head : List Field) → is_authority head ≡ true → AuthorityHolds head
authority_holds head e =
    let rest = right_true (nat_le (length (values_of (codes "host") head)) 1) _ e in
    record {
      one_host = leb-true (length (values_of (codes "host") head)) 1 (left_true (nat_le (length (values_of (codes "host") head)) 1) _ e);
      octets = left_true (some_of is_authority_octet (authority_of head)) _ rest;
      same = left_true _ true (right_true (some_of is_authority_octet (authority_of head)) _ rest);
    }

authority_told : (head : List Field) → AuthorityHolds head → is_authority head ≡ true
authority_told head a =
    both_true (nat_le (length (values_of (codes "host") head)) 1) _ (le-leb (length (values_of (codes "host") head)) 1 a.one_host) (both_true (some_of is_authority_octet (authority_of head)) _ a.octets (both_true _ true a.same refl))

length_holds : (head : List Field) → is_length_field head ≡ true → LengthFieldHolds head
length_holds head e = record {
  one = leb-true (length (values_of (codes "content-length") head)) 1 (left_true (nat_le (length (values_of (codes "content-length") head)) 1) _ e);
  digits = left_true _ true (right_true (nat_le (length (values_of (codes "content-length") head)) 1) _ e);
}

length_told : (head : List Field) → LengthFieldHolds head → is_length_field head ≡ true
length_told head l = both_true (nat_le (length (values_of (codes "content-length") head)) 1) _ (le-leb (length (values_of (codes "content-length") head)) 1 l.one) (both_true _ true l.digits refl)

no_connection : (fields : List Field) → has_none_of connection_names fields ≡ true → HasNoConnectionField fields
no_connection fields e = all_pass (λ field. not (list_any (bytes_eq field.name) connection_names)) fields e

connection_told : (fields : List Field) → HasNoConnectionField fields → has_none_of connection_names fields ≡ true
connection_told fields e = pass_all (λ field. not (list_any (bytes_eq field.name) connection_names)) fields e

pub head_holds : (head : List Field) → is_well_formed head ≡ true → WellFormedHead head
head_holds head e =
    let e1 = right_true (are_pseudo_fields head) _ e in
    let e2 = right_true (are_names head) _ e1 in
    let e3 = right_true (are_values head) _ e2 in
    let e4 = right_true (has_none_of connection_names head) _ e3 in
    let e5 = right_true (are_te head) _ e4 in
    let e6 = right_true (some_of is_token_octet (method_of head)) _ e5 in
    let e7 = right_true (is_scheme head) _ e6 in
    let e8 = right_true (list_all (is_path_for (method_of head)) (values_of (codes ":path") head)) _ e7 in
    record {
      pseudo_fields_hold = pseudo_hold head (left_true (are_pseudo_fields head) _ e);
      names_hold = left_true (are_names head) _ e1;
      values_hold = left_true (are_values head) _ e2;
      no_connection_field = no_connection head (left_true (has_none_of connection_names head) _ e3);
      te_holds = left_true (are_te head) _ e4;
      method_holds = left_true (some_of is_token_octet (method_of head)) _ e5;
      scheme_holds = left_true (is_scheme head) _ e6;
      path_holds = left_true (list_all (is_path_for (method_of head)) (values_of (codes ":path") head)) _ e7;
      authority_holds = authority_holds head (left_true (is_authority head) _ e8);
      length_holds = length_holds head (left_true (is_length_field head) true (right_true (is_authority head) _ e8));
    }

pub head_told : (head : List Field) → WellFormedHead head → is_well_formed head ≡ true
head_told head w =
    both_true (are_pseudo_fields head) _ (pseudo_told head w.pseudo_fields_hold) (
    both_true (are_names head) _ w.names_hold (
    both_true (are_values head) _ w.values_hold (
    both_true (has_none_of connection_names head) _ (connection_told head w.no_connection_field) (
    both_true (are_te head) _ w.te_holds (
    both_true (some_of is_token_octet (method_of head)) _ w.method_holds (
    both_true (is_scheme head) _ w.scheme_holds (
    both_true (list_all (is_path_for (method_of head)) (values_of (codes ":path") head)) _ w.path_holds (
    both_true (is_authority head) _ (authority_told head w.authority_holds) (both_true (is_length_field head) true (length_told head w.length_holds) refl)))))))))

-- ---- trailers

pub trailers_hold : (fields : List Field) → are_trailers fields ≡ true → WellFormedTrailers fields
trailers_hold fields e =
    let e1 = right_true (is_none_left (pseudo_fields fields)) _ e in
    let e2 = right_true (are_names fields) _ e1 in
    record {
      no_pseudo_field = none_left _ (left_true (is_none_left (pseudo_fields fields)) _ e);
      names_hold = left_true (are_names fields) _ e1;
      values_hold = left_true (are_values fields) _ e2;
      no_connection_field = no_connection fields (left_true (has_none_of connection_names fields) true (right_true (are_values fields) _ e2));
    }

pub trailers_told : (fields : List Field) → WellFormedTrailers fields → are_trailers fields ≡ true
trailers_told fields w =
    both_true (is_none_left (pseudo_fields fields)) _ (left_none _ w.no_pseudo_field) (
    both_true (are_names fields) _ w.names_hold (both_true (are_values fields) _ w.values_hold (both_true (has_none_of connection_names fields) true (connection_told fields w.no_connection_field) refl)))
