-- The fields that are sent on, and the cookies among them.
use Rattle.std.proofs.Common.{◌≡◌, ℕ, ◌+◌, ◌<◌, ◌≤◌, Bool, true, false, cond, List, [], ◌∷◌, ◌++◌, length, take, drop, get_or, filter, refl, sym, ap, ◌∙◌, subst, inl, inr, append_assoc, arith}
use Rattle.std.specs.Prelude.{not, ◌&&◌, ◌||◌, bytes_eq, codes}
use Rattle.std.specs.List.{list_all, list_any}
use Rattle.std.proofs.lemmas.Bool.{false≢true, cond-true, cond-false, and_parts, and_cases, not-true}
use Rattle.std.proofs.lemmas.List.{append-nil, take-append-drop, take_all, length-drop, get_or-drop}
use Rattle.std.proofs.lemmas.List.Elements.{filter_more, filter_agree}
use Rattle.model.specs.Messages.{Field}
use Rattle.model.specs.Http1.{values_of, without}
use Rattle.model.specs.Http2.{is_pseudo, regular_fields, is_cookie, is_empty_cookie, with_one_cookie, fields_of, joined_by}
use Rattle.model.proofs.Http1Texts.{values_of-append}
use Rattle.model.proofs.Http1Lines.{field_same}
use Rattle.request_rules.specs.Sent.{is_sent, is_full_cookie, is_plain}

abbrev pub between : List ℕ
between = codes "; "

abbrev cookies : List Field → List (List ℕ)
cookies fields = values_of (codes "cookie") fields

-- one more text at the end
joined_push : (separator v : List ℕ) (vs : List (List ℕ)) (w : List ℕ) → joined_by separator (v ∷ vs ++ w ∷ []) ≡ joined_by separator (v ∷ vs) ++ separator ++ w
joined_push separator v [] w = refl
joined_push separator v (u ∷ vs) w =
    ap (λ (rest : List ℕ). v ++ separator ++ rest) (joined_push separator u vs w)
    ∙ sym (append_assoc (v ++ separator) (joined_by separator (u ∷ vs) ++ separator) w)
    ∙ ap (λ (rest : List ℕ). rest ++ w) (sym (append_assoc (v ++ separator) (joined_by separator (u ∷ vs)) separator))

-- the cookies among one field more
more_cookies : (fields : List Field) (i : ℕ) (field : Field) → i < length fields → field ≡ get_or fields i field
    → cookies (filter is_sent (take (i + 1) fields)) ≡ cookies (filter is_sent (take i fields)) ++ cookies (cond (is_sent field) (field ∷ []) [])
more_cookies fields i field within is =
    ap cookies (filter_more is_sent fields i field within)
    ∙ values_of-append (codes "cookie") (filter is_sent (take i fields)) (cond (is_sent (get_or fields i field)) (get_or fields i field ∷ []) [])
    ∙ ap (λ (f : Field). cookies (filter is_sent (take i fields)) ++ cookies (cond (is_sent f) (f ∷ []) [])) (sym is)

cookie_alone : (field : Field) → is_full_cookie field ≡ true → cookies (cond (is_sent field) (field ∷ []) []) ≡ field.value ∷ []
cookie_alone field p =
    let parts = and_parts (is_sent field) (is_cookie field) p in
    ap cookies (cond-true (is_sent field) (field ∷ []) [] parts.0) ∙ cond-true (is_cookie field) (field.value ∷ []) [] parts.1

no_cookie : (field : Field) → is_full_cookie field ≡ false → cookies (cond (is_sent field) (field ∷ []) []) ≡ []
no_cookie field p = elim (and_cases (is_sent field) (is_cookie field) p) [
  | inl e ↦ ap cookies (cond-false (is_sent field) (field ∷ []) [] e)
  | inr e ↦ by_sent (is_sent field) e
]
  where
    by_sent : (t : Bool) → is_cookie field ≡ false → cookies (cond t (field ∷ []) []) ≡ []
    by_sent true e = cond-false (is_cookie field) (field.value ∷ []) [] e
    by_sent false e = refl

pub joined_with : (first : List ℕ) (fields : List Field) (i : ℕ) (field : Field) → i < length fields → field ≡ get_or fields i field → is_full_cookie field ≡ true
    → joined_by between (first ∷ cookies (filter is_sent (take (i + 1) fields))) ≡ joined_by between (first ∷ cookies (filter is_sent (take i fields))) ++ between ++ field.value
joined_with first fields i field within is p =
    ap (λ (vs : List (List ℕ)). joined_by between (first ∷ vs)) (more_cookies fields i field within is ∙ ap (λ (vs : List (List ℕ)). cookies (filter is_sent (take i fields)) ++ vs) (cookie_alone field p))
    ∙ joined_push between first (cookies (filter is_sent (take i fields))) field.value

pub joined_without : (first : List ℕ) (fields : List Field) (i : ℕ) (field : Field) → i < length fields → field ≡ get_or fields i field → is_full_cookie field ≡ false
    → joined_by between (first ∷ cookies (filter is_sent (take (i + 1) fields))) ≡ joined_by between (first ∷ cookies (filter is_sent (take i fields)))
joined_without first fields i field within is p =
    ap (λ (vs : List (List ℕ)). joined_by between (first ∷ vs))
    (more_cookies fields i field within is ∙ ap (λ (vs : List (List ℕ)). cookies (filter is_sent (take i fields)) ++ vs) (no_cookie field p) ∙ append-nil (cookies (filter is_sent (take i fields))))

-- ---- one filter in place of three

kept_twice : (q : Field → Bool) (t : Bool) (field : Field) (a b : List Field) → filter q a ≡ b → filter q (cond t (field ∷ a) a) ≡ cond (t && q field) (field ∷ b) b
kept_twice q true field a b e = ap (λ (rest : List Field). cond (q field) (field ∷ rest) rest) e
kept_twice q false field a b e = e

filtered_twice : (p q : Field → Bool) (fields : List Field) → filter q (filter p fields) ≡ filter (λ field. p field && q field) fields
filtered_twice p q [] = refl
filtered_twice p q (field ∷ fields) = kept_twice q (p field) field (filter p fields) _ (filtered_twice p q fields)

-- the fields that the request has, by one filter
sent_filtered : (fields : List Field)
    → filter (λ field. not (is_empty_cookie field)) (without (codes "host" ∷ codes "te" ∷ codes "content-length" ∷ []) (regular_fields fields)) ≡ filter is_sent fields
sent_filtered fields =
    ap (λ (fs : List Field). filter (λ field. not (is_empty_cookie field)) fs)
    (filtered_twice (λ field. not (is_pseudo field)) (λ field. not (list_any (bytes_eq field.name) (codes "host" ∷ codes "te" ∷ codes "content-length" ∷ []))) fields)
    ∙ filtered_twice (λ field. not (is_pseudo field) && not (list_any (bytes_eq field.name) (codes "host" ∷ codes "te" ∷ codes "content-length" ∷ []))) (λ field. not (is_empty_cookie field)) fields

or_false : (b : Bool) → (b || false) ≡ b
or_false true = refl
or_false false = refl

plain_filtered : (fields : List Field) → without (codes "cookie" ∷ []) (filter is_sent fields) ≡ filter is_plain fields
plain_filtered fields =
    filtered_twice is_sent (λ field. not (list_any (bytes_eq field.name) (codes "cookie" ∷ []))) fields
    ∙ filter_agree (λ field. is_sent field && not (list_any (bytes_eq field.name) (codes "cookie" ∷ []))) is_plain (λ field. ap (λ b. is_sent field && not b) (or_false (is_cookie field))) fields

-- a field that is no cookie goes on as it is, or not at all
other_first : (field : Field) (fields : List Field) → is_full_cookie field ≡ false
    → with_one_cookie (filter is_sent (field ∷ fields)) ≡ cond (is_plain field) (field ∷ with_one_cookie (filter is_sent fields)) (with_one_cookie (filter is_sent fields))
other_first field fields p = by_sent (is_sent field) (is_cookie field) p refl
  where
    by_sent : (t u : Bool) → (t && u) ≡ false → is_cookie field ≡ u
        → with_one_cookie (cond t (field ∷ filter is_sent fields) (filter is_sent fields)) ≡ cond (t && not u) (field ∷ with_one_cookie (filter is_sent fields)) (with_one_cookie (filter is_sent fields))
    by_sent true true e is = absurd (false≢true (sym e))
    by_sent true false e is = cond-false (is_cookie field) _ (field ∷ with_one_cookie (filter is_sent fields)) is
    by_sent false u e is = refl

without_cookies : (fields : List Field) → list_all (λ field. not (is_full_cookie field)) fields ≡ true → with_one_cookie (filter is_sent fields) ≡ filter is_plain fields
without_cookies [] p = refl
without_cookies (field ∷ fields) p =
    let parts = and_parts (not (is_full_cookie field)) _ p in
    other_first field fields (not-true _ parts.0) ∙ ap (λ (rest : List Field). cond (is_plain field) (field ∷ rest) rest) (without_cookies fields parts.1)

-- the field that says all cookies
abbrev pub cookie_field : List ℕ → Field
cookie_field value = record { name = codes "cookie"; value = value }

cookie_first : (cookie : Field) (others : List Field) → is_full_cookie cookie ≡ true
    → with_one_cookie (filter is_sent (cookie ∷ others)) ≡ cookie_field (joined_by between (cookie.value ∷ cookies (filter is_sent others))) ∷ filter is_plain others
cookie_first cookie others p =
    let parts = and_parts (is_sent cookie) (is_cookie cookie) p in
    let values : cookies (cookie ∷ filter is_sent others) ≡ cookie.value ∷ cookies (filter is_sent others) = cond-true (is_cookie cookie) (cookie.value ∷ cookies (filter is_sent others)) _ parts.1 in
    ap with_one_cookie (cond-true (is_sent cookie) (cookie ∷ filter is_sent others) (filter is_sent others) parts.0)
    ∙ cond-true (is_cookie cookie) (cookie_field (joined_by between (cookies (cookie ∷ filter is_sent others))) ∷ without (codes "cookie" ∷ []) (filter is_sent others)) _ parts.1
    ∙ ap (λ (vs : List (List ℕ)). cookie_field (joined_by between vs) ∷ without (codes "cookie" ∷ []) (filter is_sent others)) values
    ∙ ap (λ (rest : List Field). cookie_field (joined_by between (cookie.value ∷ cookies (filter is_sent others))) ∷ rest) (plain_filtered others)

kept_front : (t : Bool) (field : Field) (front rest : List Field) → cond t (field ∷ (front ++ rest)) (front ++ rest) ≡ cond t (field ∷ front) front ++ rest
kept_front true field front rest = refl
kept_front false field front rest = refl

with_cookie : (front : List Field) (cookie : Field) (others : List Field) → list_all (λ field. not (is_full_cookie field)) front ≡ true → is_full_cookie cookie ≡ true
    → with_one_cookie (filter is_sent (front ++ cookie ∷ others)) ≡ filter is_plain front ++ cookie_field (joined_by between (cookie.value ∷ cookies (filter is_sent others))) ∷ filter is_plain others
with_cookie [] cookie others p q = cookie_first cookie others q
with_cookie (field ∷ front) cookie others p q =
    let parts = and_parts (not (is_full_cookie field)) _ p in
    other_first field (front ++ cookie ∷ others) (not-true _ parts.0)
    ∙ ap (λ (rest : List Field). cond (is_plain field) (field ∷ rest) rest) (with_cookie front cookie others parts.1 q)
    ∙ kept_front (is_plain field) field (filter is_plain front) _

pub fields_without_cookie : (head : List Field) (at : ℕ) → length head ≤ at → list_all (λ field. not (is_full_cookie field)) (take at head) ≡ true → filter is_plain (take at head) ≡ fields_of head
fields_without_cookie head at end p =
    let whole : take at head ≡ head = take_all at head end in
    sym (ap with_one_cookie (sent_filtered head) ∙ without_cookies head (subst (λ (fs : List Field). list_all (λ field. not (is_full_cookie field)) fs ≡ true) whole p) ∙ ap (filter is_plain) (sym whole))

pub fields_with_cookie : (head : List Field) (at : ℕ) (cookie : Field) (others : List Field) → list_all (λ field. not (is_full_cookie field)) (take at head) ≡ true → drop at head ≡ cookie ∷ others
    → is_full_cookie cookie ≡ true
    → filter is_plain (take at head) ++ cookie_field (joined_by between (cookie.value ∷ cookies (filter is_sent others))) ∷ filter is_plain others ≡ fields_of head
fields_with_cookie head at cookie others p rest q =
    let whole : take at head ++ cookie ∷ others ≡ head = ap (λ (fs : List Field). take at head ++ fs) (sym rest) ∙ take-append-drop at head in
    sym (ap with_one_cookie (sent_filtered head) ∙ ap (λ (fs : List Field). with_one_cookie (filter is_sent fs)) (sym whole) ∙ with_cookie (take at head) cookie others p q)

-- ---- the fields as they are put together

pub sent_without : (head front back old result : List Field) (at : ℕ) → list_all (λ field. not (is_full_cookie field)) (take at head) ≡ true
    → front ≡ take at head → back ≡ drop at head → length back < 1 → old ≡ [] → result ≡ old ++ filter is_plain front → result ≡ fields_of head
sent_without head front back old result at p is_front is_back end none is =
    let rest : length (drop at head) < 1 = rw (← is_back) end in
    let lengths = length-drop at head in
    is ∙ ap (λ (o : List Field). o ++ filter is_plain front) none ∙ ap (filter is_plain) is_front ∙ fields_without_cookie head at (omega arith) p

first_of_rest : (back : List Field) (first : Field) → 1 ≤ length back → first ≡ get_or back 0 first → back ≡ first ∷ drop 1 back
first_of_rest [] first some is = absurd (omega arith)
first_of_rest (field ∷ back) first some is = ap (λ (f : Field). f ∷ back) (sym is)

pub sent_with : (head front back old plain pushed result others : List Field) (at : ℕ) (first cookie : Field) → list_all (λ field. not (is_full_cookie field)) (take at head) ≡ true
    → ((d : Field) → at < length head → is_full_cookie (get_or head at d) ≡ true)
    → front ≡ take at head → back ≡ drop at head → 1 ≤ length back → first ≡ get_or back 0 first → others ≡ drop 1 back → old ≡ [] → plain ≡ old ++ filter is_plain front
    → cookie.name ≡ codes "cookie" → cookie.value ≡ joined_by between (first.value ∷ cookies (filter is_sent others))
    → pushed ≡ plain ++ cookie ∷ [] → result ≡ pushed ++ filter is_plain others → result ≡ fields_of head
sent_with head front back old plain pushed result others at first cookie p there is_front is_back some is_first is_others none is_plain_front name value is_pushed is =
    let lengths = length-drop at head in
    let long : 1 ≤ length (drop at head) = rw (← is_back) some in
    let within : at < length head = omega arith in
    let rest : drop at head ≡ first ∷ others = sym is_back ∙ first_of_rest back first some is_first ∙ ap (λ (fs : List Field). first ∷ fs) (sym is_others) in
    let full : is_full_cookie first ≡ true =
    ap is_full_cookie (is_first ∙ ap (λ (fs : List Field). get_or fs 0 first) is_back ∙ get_or-drop at head 0 first ∙ ap (λ (n : ℕ). get_or head n first) (omega arith)) ∙ there first within in
    let same : cookie ≡ cookie_field (joined_by between (first.value ∷ cookies (filter is_sent others))) = field_same cookie _ name value in
    is
    ∙ ap (λ (fs : List Field). fs ++ filter is_plain others) (is_pushed ∙ ap (λ (fs : List Field). fs ++ cookie ∷ []) (is_plain_front ∙ ap (λ (o : List Field). o ++ filter is_plain front) none ∙ ap (filter is_plain) is_front))
    ∙ append_assoc (filter is_plain (take at head)) (cookie ∷ []) (filter is_plain others)
    ∙ ap (λ (f : Field). filter is_plain (take at head) ++ f ∷ filter is_plain others) same
    ∙ fields_with_cookie head at first others p rest full
