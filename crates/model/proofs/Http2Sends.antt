-- What a well-formed head means can be written as a request.
use Rattle.std.proofs.Common.{◌≡◌, ℕ, ◌<◌, Bool, true, false, List, [], ◌∷◌, ◌++◌, length, reverse, filter, refl, sym, ap, ◌∙◌, subst, append_assoc, inl, inr, arith}
use Rattle.std.specs.Prelude.{codes, not, ◌&&◌, bytes_eq, if◌then◌else◌}
use Rattle.std.specs.List.{list_all, list_any}
use Rattle.std.proofs.lemmas.Bool.{false≢true, cases_Bool, and_parts, and_from, or_cases, or_parts, or_left, or_right, or_from, not-true, not_from_false, cond-true, cond-false}
use Rattle.std.proofs.lemmas.List.{reverse-append, length-reverse}
use Rattle.std.proofs.lemmas.Slice.Eq.{bytes_eq-Decides}
use Rattle.model.specs.Octets.{begins_with, is_empty, some_of, is_visible, is_value_octet, is_value, begins_with_space}
use Rattle.model.specs.Messages.{Field}
use Rattle.model.specs.Http1.{values_of, without, framing_names, is_target}
use Rattle.model.specs.Http2.{first_of, regular_fields, method_of, path_of, authority_of, is_connect, is_name_octet, connection_names, is_path_for, is_authority_octet, WellFormedHead, NamesHold, ValuesHold, HasNoConnectionField, WellFormedTrailers, is_pseudo, pseudo_fields, passed_trailers, joined_by, is_cookie, is_empty_cookie, with_one_cookie, fields_of, request_of}
use Rattle.model.proofs.Http1Runs.{run_of_some, run-append, run_weaker}
use Rattle.model.proofs.Http1Lines.{value_parts, value_from_parts}
use Rattle.model.proofs.Http1Texts.{has_line, can_send, IsSendable, visible_is_value, all_weaker}

-- ---- lists of fields

pub kept_pass : (test : Field → Bool) (fields : List Field) → list_all test (filter test fields) ≡ true
kept_pass test [] = refl
kept_pass test (field ∷ fields) =
    let rest = kept_pass test fields in
    elim (cases_Bool (test field)) [
      | inl e ↦ rw (cond-true (test field) (field ∷ filter test fields) (filter test fields) e) (and_from (test field) _ e rest)
      | inr e ↦ rw (cond-false (test field) (field ∷ filter test fields) (filter test fields) e) rest
    ]

-- what holds of all fields holds of those that are kept
pub kept_still : (test other : Field → Bool) (fields : List Field) → list_all other fields ≡ true → list_all other (filter test fields) ≡ true
kept_still test other [] p = refl
kept_still test other (field ∷ fields) p =
    let parts = and_parts (other field) (list_all other fields) p in
    let rest = kept_still test other fields parts.1 in
    elim (cases_Bool (test field)) [
      | inl e ↦ rw (cond-true (test field) (field ∷ filter test fields) (filter test fields) e) (and_from (other field) _ parts.0 rest)
      | inr e ↦ rw (cond-false (test field) (field ∷ filter test fields) (filter test fields) e) rest
    ]

pub both_hold : (test other : Field → Bool) (fields : List Field) → list_all test fields ≡ true → list_all other fields ≡ true → list_all (λ field. test field && other field) fields ≡ true
both_hold test other [] p q = refl
both_hold test other (field ∷ fields) p q =
    let firsts = and_parts (test field) (list_all test fields) p in
    let seconds = and_parts (other field) (list_all other fields) q in
    and_from _ _ (and_from _ _ firsts.0 seconds.0) (both_hold test other fields firsts.1 seconds.1)

-- ---- cookies

-- a value that isn't empty
abbrev pub is_full_value : List ℕ → Bool
is_full_value text = is_value text && not (is_empty text)

begins_same : (x y : List ℕ) → 0 < length x → begins_with_space (x ++ y) ≡ begins_with_space x
begins_same [] y p = absurd (omega arith)
begins_same (octet ∷ x) y p = refl

full_length : (text : List ℕ) → not (is_empty text) ≡ true → 0 < length text
full_length [] p = absurd (false≢true p)
full_length (octet ∷ text) p = omega arith

-- values with octets of values between them are one
joined_parts : (v between w : List ℕ) → is_full_value v ≡ true → list_all is_value_octet between ≡ true → is_full_value w ≡ true → is_full_value (v ++ between ++ w) ≡ true
joined_parts v between w p b q =
    let first = and_parts (is_value v) _ p in
    let second = and_parts (is_value w) _ q in
    let long : 0 < length v = full_length v first.1 in
    let last : 0 < length w = full_length w second.1 in
    let turned : 0 < length (reverse w) = rw (length-reverse w) last in
    let v_parts = value_parts v first.0 in
    let w_parts = value_parts w second.0 in
    and_from (is_value (v ++ between ++ w)) _
    (value_from_parts (v ++ between ++ w) (record {
      octets = run-append is_value_octet (v ++ between) w (run-append is_value_octet v between v_parts.octets b) w_parts.octets;
      begins = rw (append_assoc v between w) (begins_same v (between ++ w) long ∙ v_parts.begins);
      ends = rw (reverse-append (v ++ between) w) (begins_same (reverse w) (reverse (v ++ between)) turned ∙ w_parts.ends);
    }))
    (still_full v between w long)
  where
    still_full : (v between w : List ℕ) → 0 < length v → not (is_empty (v ++ between ++ w)) ≡ true
    still_full [] between w p = absurd (omega arith)
    still_full (octet ∷ v) between w p = refl

pub joined_full : (v : List ℕ) (vs : List (List ℕ)) → list_all is_full_value (v ∷ vs) ≡ true → is_full_value (joined_by (codes "; ") (v ∷ vs)) ≡ true
joined_full v [] p = (and_parts (is_full_value v) true p).0
joined_full v (w ∷ vs) p =
    let parts = and_parts (is_full_value v) (list_all is_full_value (w ∷ vs)) p in
    joined_parts v (codes "; ") (joined_by (codes "; ") (w ∷ vs)) parts.0 refl (joined_full w vs parts.1)

-- ---- the fields of a head

-- a field that can be sent, and is no empty cookie
abbrev pub can_join : Field → Bool
can_join field = can_send field && not (is_empty_cookie field)

same_from_bytes_eq : (a b : List ℕ) → bytes_eq a b ≡ true → a ≡ b
same_from_bytes_eq a b p = (bytes_eq-Decides a b).0 p

cookie_values : (fields : List Field) → list_all can_join fields ≡ true → list_all is_full_value (values_of (codes "cookie") fields) ≡ true
cookie_values [] p = refl
cookie_values (field ∷ fields) p =
    let parts = and_parts (can_join field) (list_all can_join fields) p in
    let rest = cookie_values fields parts.1 in
    elim (cases_Bool (is_cookie field)) [
      | inl e ↦ rw (cond-true (is_cookie field) (field.value ∷ values_of (codes "cookie") fields) (values_of (codes "cookie") fields) e)
          (and_from (is_full_value field.value) _ (full field parts.0 e) rest)
      | inr e ↦ rw (cond-false (is_cookie field) (field.value ∷ values_of (codes "cookie") fields) (values_of (codes "cookie") fields) e) rest
    ]
  where
    full : (field : Field) → can_join field ≡ true → is_cookie field ≡ true → is_full_value field.value ≡ true
    full field p e =
        let join = and_parts (can_send field) _ p in
        let send = and_parts (has_line field) _ join.0 in
        let line = and_parts (some_of is_name_octet field.name) _ send.0 in
        let whole : not (is_empty field.value) ≡ true = sym (ap (λ t. not (t && is_empty field.value)) e) ∙ join.1 in
        and_from (is_value field.value) _ line.1 whole

either_sent : (t : Bool) (x y : List Field) → (t ≡ true → list_all can_send x ≡ true) → (t ≡ false → list_all can_send y ≡ true) → list_all can_send (if t then x else y) ≡ true
either_sent true x y p q = p refl
either_sent false x y p q = q refl

cookie_sent : (value : List ℕ) → is_full_value value ≡ true → can_send (record { name = codes "cookie"; value = value }) ≡ true
cookie_sent value p = and_from (is_value value) true (and_parts (is_value value) _ p).0 refl

joined_values : (vs : List (List ℕ)) (v : List ℕ) (others : List (List ℕ)) → vs ≡ v ∷ others → list_all is_full_value vs ≡ true → is_full_value (joined_by (codes "; ") vs) ≡ true
joined_values [] v others e p = cc
joined_values (w ∷ vs) v others e p = joined_full w vs p

one_cookie_sent : (fields : List Field) → list_all can_join fields ≡ true → list_all can_send (with_one_cookie fields) ≡ true
one_cookie_sent [] p = refl
one_cookie_sent (field ∷ fields) p =
    let parts = and_parts (can_join field) (list_all can_join fields) p in
    let rest = one_cookie_sent fields parts.1 in
    let sends : (f : Field) → can_join f ≡ true → can_send f ≡ true = λ f q. (and_parts (can_send f) _ q).0 in
    let others : list_all can_send (without (codes "cookie" ∷ []) fields) ≡ true = kept_still _ can_send fields (all_weaker can_join can_send sends fields parts.1) in
    either_sent (is_cookie field) _ (field ∷ with_one_cookie fields)
    (λ e. and_from (can_send (record { name = codes "cookie"; value = joined_by (codes "; ") (values_of (codes "cookie") (field ∷ fields)) })) _
    (cookie_sent (joined_by (codes "; ") (values_of (codes "cookie") (field ∷ fields))) (joined_values (values_of (codes "cookie") (field ∷ fields)) field.value (values_of (codes "cookie") fields)
    (cond-true (is_cookie field) (field.value ∷ values_of (codes "cookie") fields) (values_of (codes "cookie") fields) e)
    (cookie_values (field ∷ fields) p)))
    others)
    (λ e. and_from (can_send field) _ (sends field parts.0) rest)

-- the tests that a field of a head passes before it is sent
abbrev is_plain : Field → Bool
is_plain field = has_line field && not (list_any (bytes_eq field.name) connection_names)

abbrev is_outside : Field → Bool
is_outside field = not (list_any (bytes_eq field.name) (codes "host" ∷ codes "te" ∷ codes "content-length" ∷ []))

plain_sent : (field : Field) → (is_plain field && is_outside field && not (is_empty_cookie field)) ≡ true → can_join field ≡ true
plain_sent field p =
    let cookie = and_parts (is_plain field && is_outside field) _ p in
    let both = and_parts (is_plain field) (is_outside field) cookie.0 in
    let plain = and_parts (has_line field) _ both.0 in
    let far = or_parts (bytes_eq field.name (codes "connection")) _ (not-true _ plain.1) in
    let proxy = or_parts (bytes_eq field.name (codes "proxy-connection")) _ far.1 in
    let alive = or_parts (bytes_eq field.name (codes "keep-alive")) _ proxy.1 in
    let coding = or_parts (bytes_eq field.name (codes "transfer-encoding")) _ alive.1 in
    let host = or_parts (bytes_eq field.name (codes "host")) _ (not-true _ both.1) in
    let te = or_parts (bytes_eq field.name (codes "te")) _ host.1 in
    let count = or_parts (bytes_eq field.name (codes "content-length")) _ te.1 in
    let names : list_any (bytes_eq field.name) framing_names ≡ false =
    or_from _ _ host.0 (or_from _ _ far.0 (or_from _ _ count.0 (or_from _ _ coding.0 refl))) in
    and_from (can_send field) _ (and_from (has_line field) _ plain.0 (not_from_false _ names)) cookie.1

fields_sent : (head : List Field) → NamesHold head → ValuesHold head → HasNoConnectionField head → list_all can_send (fields_of head) ≡ true
fields_sent head names values apart =
    let regular = regular_fields head in
    let outside = without (codes "host" ∷ codes "te" ∷ codes "content-length" ∷ []) regular in
    let far : Field → Bool = λ field. not (list_any (bytes_eq field.name) connection_names) in
    let all_far : list_all far head ≡ true = subst (λ (fields : List Field). list_all far fields ≡ true) apart (kept_pass far head) in
    let lines : list_all has_line regular ≡ true = both_hold _ _ regular names (kept_still _ _ head values) in
    let plain : list_all is_plain regular ≡ true = both_hold has_line far regular lines (kept_still _ far head all_far) in
    let two : list_all (λ field. is_plain field && is_outside field) outside ≡ true = both_hold is_plain is_outside outside (kept_still _ is_plain regular plain) (kept_pass is_outside regular) in
    let full : Field → Bool = λ field. not (is_empty_cookie field) in
    let three : list_all (λ field. is_plain field && is_outside field && full field) (filter full outside) ≡ true =
    both_hold (λ field. is_plain field && is_outside field) full (filter full outside) (kept_still full _ outside two) (kept_pass full outside) in
    one_cookie_sent (filter full outside) (all_weaker _ can_join plain_sent (filter full outside) three)

-- ---- the path

-- a path of a request is a target
path_is_target : (method path : List ℕ) → is_path_for method path ≡ true → is_target path ≡ true
path_is_target method path p = elim (or_cases (list_all is_visible path && begins_with 47 path) _ p) [
  | inl e ↦ or_left _ _ e
  | inr e ↦ or_right (list_all is_visible path && begins_with 47 path) _ (and_parts (bytes_eq path (codes "*")) _ e).0
]

first_passes : (test : List ℕ → Bool) (texts : List (List ℕ)) → length texts ≡ 1 → list_all test texts ≡ true → test (first_of texts) ≡ true
first_passes test [] e p = absurd (omega arith)
first_passes test (text ∷ texts) e p = (and_parts (test text) (list_all test texts) p).0

authority_octet_is_visible : (octet : ℕ) → is_authority_octet octet ≡ true → is_visible octet ≡ true
authority_octet_is_visible octet p = (and_parts (is_visible octet) _ p).0

-- The request that a well-formed head means with any body and trailers can be written, where it isn't CONNECT's.
pub head_sendable : (head : List Field) (body : List ℕ) (trailers : List Field) → WellFormedHead head → is_connect head ≡ false → IsSendable (request_of head body trailers)
head_sendable head body trailers p connect =
    let paths : length (values_of (codes ":path") head) ≡ 1 = p.pseudo_fields_hold.path ∙ ap (λ (t : Bool). if t then 0 else 1) connect in
    record {
      method = p.method_holds;
      target = path_is_target (method_of head) (path_of head) (first_passes (is_path_for (method_of head)) _ paths p.path_holds);
      authority = visible_is_value (authority_of head)
          (run_weaker is_authority_octet is_visible authority_octet_is_visible (authority_of head) (run_of_some is_authority_octet (authority_of head) p.authority_holds.octets));
      fields = fields_sent head p.names_hold p.values_hold p.no_connection_field;
    }

-- ---- trailers

-- fields of which none is a pseudo-field are all regular
pub all_regular : (fields : List Field) → pseudo_fields fields ≡ [] → regular_fields fields ≡ fields
all_regular [] e = refl
all_regular (f ∷ fs) e = elim (cases_Bool (is_pseudo f)) [
  | inl p ↦ absurd (let g : f ∷ pseudo_fields fs ≡ [] = sym (ap (λ b. if b then f ∷ pseudo_fields fs else pseudo_fields fs) p) ∙ e in cc)
  | inr p ↦ (let rest : pseudo_fields fs ≡ [] = sym (ap (λ b. if b then f ∷ pseudo_fields fs else pseudo_fields fs) p) ∙ e in
      ap (λ b. if not b then f ∷ regular_fields fs else regular_fields fs) p ∙ ap (λ (l : List Field). f ∷ l) (all_regular fs rest))
]

-- Trailers that are passed on can be written as lines.
pub trailers_have_lines : (trailers : List Field) → WellFormedTrailers trailers → list_all has_line (passed_trailers trailers) ≡ true
trailers_have_lines trailers w =
    let regular = regular_fields trailers in
    let lines : list_all has_line regular ≡ true = both_hold _ _ regular w.names_hold (kept_still _ _ trailers w.values_hold) in
    kept_still _ has_line trailers (subst (λ (fields : List Field). list_all has_line fields ≡ true) (all_regular trailers w.no_pseudo_field) lines)
