-- Ordinary fields behind a front break no rule that the front keeps.
use Rattle.std.proofs.Common.{◌≡◌, ℕ, ◌+◌, ◌-◌, ◌<◌, ◌≤◌, Bool, true, false, List, [], ◌∷◌, ◌++◌, length, take, get_or, filter, refl, sym, ap, ◌∙◌, subst, inl, inr, append_assoc, arith, eqb-true}
use Rattle.std.specs.Prelude.{not, ◌&&◌, ◌||◌, ◌==◌, nat_le, bytes_eq, codes, if◌then◌else◌}
use Rattle.std.specs.List.{list_all, list_any}
use Rattle.std.proofs.lemmas.Bool.{false≢true, cases_Bool, and_parts, and_from, or_parts, not-true, not_from_false}
use Rattle.std.proofs.lemmas.List.{append-nil, take_more, take_all}
use Rattle.std.proofs.lemmas.List.Elements.{filter-append}
use Rattle.std.proofs.lemmas.Slice.Eq.{bytes_eq-Decides}
use Rattle.model.specs.Octets.{some_of, begins_with, is_token_octet, is_digit, is_value, lower}
use Rattle.model.specs.Messages.{Field}
use Rattle.model.specs.Http1.{values_of, without}
use Rattle.model.specs.Http2.{first_of, promised, method_of, authorities_of, is_connect, is_pseudo, pseudo_fields, regular_fields, known_names, is_name_octet, is_authority_octet, is_path_for, connection_names, HasLength, PseudoFieldsHold, NamesHold, ValuesHold, HasNoConnectionField, PathHolds, AuthorityHolds, LengthFieldHolds}
use Rattle.model.proofs.Http1Texts.{values_of-append, values_none, filter_all, all_weaker, all-append}
use Rattle.field_rules.specs.Ordinary.{judged_names, is_ordinary, EndsOrdinary}
use Rattle.request_rules.specs.Rules.{Keeps, in_order}
use Rattle.field_rules.proofs.FieldOrder.{none_pass}

-- one ordinary field more before the others
last_split : (fields : List Field) (d : Field) → 0 < length fields → take (length fields - 1) fields ++ get_or fields (length fields - 1) d ∷ [] ≡ fields
last_split fields d some =
    let whole : length fields - 1 + 1 ≡ length fields = omega arith in
    sym (take_more fields (length fields - 1) d (omega arith)) ∙ ap (λ (n : ℕ). take n fields) whole ∙ take_all (length fields) fields (omega arith)

pub ends_none : (head : List Field) → EndsOrdinary head head
ends_none head = record { rest = []; is = sym (append-nil head); ordinary = refl }

pub ends_more : (front more head : List Field) (last : Field) → 0 < length front → more ≡ take (length front - 1) front → last ≡ get_or front (length front - 1) last → is_ordinary last ≡ true → EndsOrdinary front head → EndsOrdinary more head
ends_more front more head last some is_more is_last p e =
    let parted : front ≡ more ++ last ∷ [] = sym (last_split front last some) ∙ ap (λ (fs : List Field). fs ++ get_or front (length front - 1) last ∷ []) (sym is_more) ∙ ap (λ (f : Field). more ++ f ∷ []) (sym is_last) in
    record {
      rest = last ∷ e.rest;
      is = e.is ∙ ap (λ (fs : List Field). fs ++ e.rest) parted ∙ append_assoc more (last ∷ []) e.rest;
      ordinary = and_from (is_ordinary last) (list_all is_ordinary e.rest) p e.ordinary;
    }

-- what an ordinary field tells
record Told (field : Field) : Type 0 where
  name : some_of is_name_octet field.name ≡ true
  value : is_value field.value ≡ true
  te : not (bytes_eq field.name (codes "te")) ≡ true
  host : not (bytes_eq field.name (codes "host")) ≡ true
  length : not (bytes_eq field.name (codes "content-length")) ≡ true
  connection : not (list_any (bytes_eq field.name) connection_names) ≡ true

told : (field : Field) → is_ordinary field ≡ true → Told field
told field p =
    let both = and_parts (some_of is_name_octet field.name && is_value field.value) (not (list_any (bytes_eq field.name) judged_names)) p in
    let parts = and_parts (some_of is_name_octet field.name) (is_value field.value) both.0 in
    let te = or_parts (bytes_eq field.name (codes "te")) _ (not-true _ both.1) in
    let host = or_parts (bytes_eq field.name (codes "host")) _ te.1 in
    let length = or_parts (bytes_eq field.name (codes "content-length")) _ host.1 in
    record {
      name = parts.0;
      value = parts.1;
      te = not_from_false _ te.0;
      host = not_from_false _ host.0;
      length = not_from_false _ length.0;
      connection = not_from_false _ length.1;
    }

-- a name's octet is no colon
no_colon : (name : List ℕ) → some_of is_name_octet name ≡ true → begins_with 58 name ≡ false
no_colon [] p = refl
no_colon (octet ∷ octets) p = elim (cases_Bool (58 == octet)) [
  | inl e ↦ (let same : 58 ≡ octet = eqb-true 58 octet e in
      let clash : false ≡ true = ap is_name_octet same ∙ (and_parts (is_name_octet octet) (list_all is_name_octet octets) p).0 in
      absurd (false≢true clash))
  | inr e ↦ e
]

no_pseudo_name : (name rest : List ℕ) → begins_with 58 name ≡ false → not (bytes_eq name (58 ∷ rest)) ≡ true
no_pseudo_name name rest p = elim (cases_Bool (bytes_eq name (58 ∷ rest))) [
  | inl e ↦ (let same : name ≡ 58 ∷ rest = (bytes_eq-Decides name (58 ∷ rest)).0 e in
      let clash : false ≡ true = sym p ∙ ap (begins_with 58) same in
      absurd (false≢true clash))
  | inr e ↦ not_from_false _ e
]

abbrev AllOrdinary : List Field → Type 0
AllOrdinary rest = list_all is_ordinary rest ≡ true

none_of : (name : List ℕ) (rest : List Field) → ((field : Field) → is_ordinary field ≡ true → not (bytes_eq field.name name) ≡ true) → AllOrdinary rest → values_of name rest ≡ []
none_of name rest other p = values_none name rest (all_weaker is_ordinary (λ field. not (bytes_eq field.name name)) other rest p)

regular : (field : Field) → is_ordinary field ≡ true → is_pseudo field ≡ false
regular field p = no_colon field.name (told field p).name

no_pseudo : (name : List ℕ) (rest : List Field) → AllOrdinary rest → values_of (58 ∷ name) rest ≡ []
no_pseudo name rest p = none_of (58 ∷ name) rest (λ field o. no_pseudo_name field.name name (regular field o)) p

alone : (name : List ℕ) (front rest : List Field) → values_of name rest ≡ [] → values_of name (front ++ rest) ≡ values_of name front
alone name front rest e = values_of-append name front rest ∙ ap (λ (vs : List (List ℕ)). values_of name front ++ vs) e ∙ append-nil (values_of name front)

-- Each name that a rule of a whole head speaks of is in the front alone.
record Alone (front rest : List Field) : Type 0 where
  method : values_of (codes ":method") (front ++ rest) ≡ values_of (codes ":method") front
  scheme : values_of (codes ":scheme") (front ++ rest) ≡ values_of (codes ":scheme") front
  path : values_of (codes ":path") (front ++ rest) ≡ values_of (codes ":path") front
  authority : values_of (codes ":authority") (front ++ rest) ≡ values_of (codes ":authority") front
  host : values_of (codes "host") (front ++ rest) ≡ values_of (codes "host") front
  te : values_of (codes "te") (front ++ rest) ≡ values_of (codes "te") front
  length : values_of (codes "content-length") (front ++ rest) ≡ values_of (codes "content-length") front

all_alone : (front rest : List Field) → AllOrdinary rest → Alone front rest
all_alone front rest p = record {
  method = alone (codes ":method") front rest (no_pseudo (codes "method") rest p);
  scheme = alone (codes ":scheme") front rest (no_pseudo (codes "scheme") rest p);
  path = alone (codes ":path") front rest (no_pseudo (codes "path") rest p);
  authority = alone (codes ":authority") front rest (no_pseudo (codes "authority") rest p);
  host = alone (codes "host") front rest (none_of (codes "host") rest (λ field o. (told field o).host) p);
  te = alone (codes "te") front rest (none_of (codes "te") rest (λ field o. (told field o).te) p);
  length = alone (codes "content-length") front rest (none_of (codes "content-length") rest (λ field o. (told field o).length) p);
}

all_regular : (rest : List Field) → AllOrdinary rest → list_all (λ field. not (is_pseudo field)) rest ≡ true
all_regular rest p = all_weaker is_ordinary (λ field. not (is_pseudo field)) (λ field o. not_from_false _ (regular field o)) rest p

pseudo_alone : (front rest : List Field) → AllOrdinary rest → pseudo_fields (front ++ rest) ≡ pseudo_fields front
pseudo_alone front rest p =
    filter-append is_pseudo front rest ∙ ap (λ (fs : List Field). pseudo_fields front ++ fs) (none_pass is_pseudo rest (all_regular rest p)) ∙ append-nil (pseudo_fields front)

regular_behind : (front rest : List Field) → AllOrdinary rest → regular_fields (front ++ rest) ≡ regular_fields front ++ rest
regular_behind front rest p =
    filter-append (λ field. not (is_pseudo field)) front rest ∙ ap (λ (fs : List Field). regular_fields front ++ fs) (filter_all (λ field. not (is_pseudo field)) rest (all_regular rest p))

same_connect : (front rest : List Field) → Alone front rest → is_connect (front ++ rest) ≡ is_connect front
same_connect front rest a = ap (λ (vs : List (List ℕ)). bytes_eq (first_of vs) (codes "CONNECT")) a.method

-- how many schemes and paths there are
abbrev parts : Bool → ℕ
parts connect = if connect then 0 else 1

same_parts : (front rest : List Field) → Alone front rest → parts (is_connect front) ≡ parts (is_connect (front ++ rest))
same_parts front rest a = ap parts (sym (same_connect front rest a))

pseudo_hold : (front rest : List Field) → AllOrdinary rest → Alone front rest → PseudoFieldsHold front → PseudoFieldsHold (front ++ rest)
pseudo_hold front rest p a k = record {
  first = ap (λ (fs : List Field). fs ++ rest) k.first ∙ append_assoc (pseudo_fields front) (regular_fields front) rest
      ∙ ap (λ (fs : List Field). fs ++ (regular_fields front ++ rest)) (sym (pseudo_alone front rest p))
      ∙ ap (λ (fs : List Field). pseudo_fields (front ++ rest) ++ fs) (sym (regular_behind front rest p));
  known = ap (without known_names) (pseudo_alone front rest p) ∙ k.known;
  method = ap length a.method ∙ k.method;
  scheme = ap length a.scheme ∙ k.scheme ∙ same_parts front rest a;
  path = ap length a.path ∙ k.path ∙ same_parts front rest a;
  one_authority = subst (λ (vs : List (List ℕ)). length vs ≤ 1) (sym a.authority) k.one_authority;
  connect_authority = λ q. ap length a.authority ∙ k.connect_authority (sym (same_connect front rest a) ∙ q);
}

names_hold : (front rest : List Field) → AllOrdinary rest → NamesHold front → NamesHold (front ++ rest)
names_hold front rest p k =
    let test : Field → Bool = λ field. some_of is_name_octet field.name in
    ap (list_all test) (regular_behind front rest p) ∙ all-append test (regular_fields front) rest k (all_weaker is_ordinary test (λ field o. (told field o).name) rest p)

values_hold : (front rest : List Field) → AllOrdinary rest → ValuesHold front → ValuesHold (front ++ rest)
values_hold front rest p k = all-append (λ field. is_value field.value) front rest k (all_weaker is_ordinary (λ field. is_value field.value) (λ field o. (told field o).value) rest p)

connection_hold : (front rest : List Field) → AllOrdinary rest → HasNoConnectionField front → HasNoConnectionField (front ++ rest)
connection_hold front rest p k =
    let test : Field → Bool = λ field. not (list_any (bytes_eq field.name) connection_names) in
    filter-append test front rest ∙ ap (λ (fs : List Field). fs ++ filter test rest) k
    ∙ ap (λ (fs : List Field). front ++ fs) (filter_all test rest (all_weaker is_ordinary test (λ field o. (told field o).connection) rest p))

path_hold : (front rest : List Field) → Alone front rest → PathHolds front → PathHolds (front ++ rest)
path_hold front rest a k =
    ap (λ (vs : List (List ℕ)). list_all (is_path_for (first_of vs)) (values_of (codes ":path") (front ++ rest))) a.method
    ∙ ap (list_all (is_path_for (method_of front))) a.path ∙ k

same_authorities : (front rest : List Field) → Alone front rest → authorities_of (front ++ rest) ≡ authorities_of front
same_authorities front rest a =
    ap (λ (vs : List (List ℕ)). vs ++ values_of (codes "host") (front ++ rest)) a.authority ∙ ap (λ (vs : List (List ℕ)). values_of (codes ":authority") front ++ vs) a.host

authority_hold : (front rest : List Field) → Alone front rest → AuthorityHolds front → AuthorityHolds (front ++ rest)
authority_hold front rest a k = record {
  one_host = subst (λ (vs : List (List ℕ)). length vs ≤ 1) (sym a.host) k.one_host;
  octets = ap (λ (vs : List (List ℕ)). some_of is_authority_octet (first_of vs)) (same_authorities front rest a) ∙ k.octets;
  same = ap (λ (vs : List (List ℕ)). list_all (λ other. bytes_eq (lower other) (lower (first_of vs))) vs) (same_authorities front rest a) ∙ k.same;
}

length_hold : (front rest : List Field) → Alone front rest → LengthFieldHolds front → LengthFieldHolds (front ++ rest)
length_hold front rest a k = record {
  one = subst (λ (vs : List (List ℕ)). length vs ≤ 1) (sym a.length) k.one;
  digits = ap (list_all (λ value. some_of is_digit value && nat_le (length value) 18)) a.length ∙ k.digits;
}

keeps_behind : (front rest : List Field) (ended : Bool) → AllOrdinary rest → Keeps (take 11 in_order) front ended → Keeps (take 11 in_order) (front ++ rest) ended
keeps_behind front rest ended p (pseudo, (names, (values, (connection, (te, (method, (scheme, (path, (authority, (length_field, (declared, t))))))))))) =
    let a = all_alone front rest p in (
      pseudo_hold front rest p a pseudo,
      (
        names_hold front rest p names,
        (
          values_hold front rest p values,
          (
            connection_hold front rest p connection,
            (
              ap (list_all (λ value. bytes_eq value (codes "trailers"))) a.te ∙ te,
              (
                ap (λ (vs : List (List ℕ)). some_of is_token_octet (first_of vs)) a.method ∙ method,
                (
                  ap (list_all (λ scheme. bytes_eq scheme (codes "http") || bytes_eq scheme (codes "https"))) a.scheme ∙ scheme,
                  (
                    path_hold front rest a path,
                    (
                      authority_hold front rest a authority,
                      (
                        length_hold front rest a length_field,
                        (
                          (λ e. subst (λ (vs : List (List ℕ)). HasLength (promised vs) []) (sym a.length) (declared e)),
                          t,
                        ),
                      ),
                    ),
                  ),
                ),
              ),
            ),
          ),
        ),
      ),
    )

pub keeps_all : (front head : List Field) (ended : Bool) → EndsOrdinary front head → Keeps (take 11 in_order) front ended → Keeps (take 11 in_order) head ended
keeps_all front head ended e k = subst (λ (fs : List Field). Keeps (take 11 in_order) fs ended) (sym e.is) (keeps_behind front e.rest ended e.ordinary k)
