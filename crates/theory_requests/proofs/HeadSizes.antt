-- How long the text of a head is whose fields aren't too large.
use Rattle.std.proofs.Common.{◌≡◌, ℕ, ◌+◌, ◌<◌, ◌≤◌, ◌^◌, Bool, true, false, not, ◌&&◌, ◌||◌, if◌then◌else◌, List, [], ◌∷◌, ◌++◌, length, filter, decimal, refl, sym, ap, ◌∙◌, subst, inl, inr, arith, length-append, codes}
use Rattle.std.specs.Prelude.{Option, Some, None, bytes_eq}
use Rattle.std.specs.List.{list_any}
use Rattle.std.proofs.lemmas.Bool.{cases_Bool, ltb-false}
use Rattle.std.proofs.lemmas.Slice.Eq.{bytes_eq-Decides}
use Rattle.std.proofs.lemmas.Fmt.{length-decimal-le}
use Rattle.model.specs.Octets.{begins_with}
use Rattle.model.specs.Messages.{Field}
use Rattle.model.specs.Tables.{field_size, total_size}
use Rattle.model.specs.Http1.{values_of, without, via}
use Rattle.model.specs.Http1Text.{line_text, lines_text, framing_of, closing}
use Rattle.model.specs.Http2.{first_of, joined_by, is_empty_cookie, regular_fields, with_one_cookie, fields_of, method_of, path_of, authority_of, declared_length, WellFormedHead}
use Rattle.model.specs.Causes.{are_large}
use Rattle.request_rules.specs.Heads.{parts_of}
use Rattle.h1_writer.specs.Sending.{head_of}
use Rattle.h1_writer.proofs.Written.{declared_fits}
use Rattle.theory_requests.specs.Held.{most_head}

-- ---- lists of fields

-- a line has four octets beside its name and value
line_length : (f : Field) → length (line_text f) ≡ length f.name + length f.value + 4
line_length f = simp length-append (omega arith)

lines_more : (f : Field) (fs : List Field) → length (lines_text (f ∷ fs)) ≡ length f.name + length f.value + 4 + length (lines_text fs)
lines_more f fs = length-append (line_text f) (lines_text fs) ∙ ap (λ n. n + length (lines_text fs)) (line_length f)

lines_both : (xs ys : List Field) → length (lines_text (xs ++ ys)) ≡ length (lines_text xs) + length (lines_text ys)
lines_both [] ys = omega arith
lines_both (x ∷ xs) ys = let more = lines_both xs ys in let one = lines_more x xs in let all = lines_more x (xs ++ ys) in omega (arith, more, one, all)

-- lines are no longer than the sizes of their fields
lines_short : (fs : List Field) → length (lines_text fs) ≤ total_size fs
unfolding total_size
lines_short [] = omega arith
lines_short (f ∷ fs) = let rest = lines_short fs in let one = lines_more f fs in omega (arith, rest, one)

-- fields that are left out take no room
filter_short : (p : Field → Bool) (fs : List Field) → total_size (filter p fs) ≤ total_size fs
unfolding total_size
filter_short p [] = omega arith
filter_short p (f ∷ fs) = by (p f) (filter_short p fs)
  where
    by : (b : Bool) → total_size (filter p fs) ≤ total_size fs → total_size (if b then f ∷ filter p fs else filter p fs) ≤ field_size f + total_size fs
    by true more = omega (arith, more)
    by false more = omega (arith, more)

-- ---- cookies

-- texts with a separator of two octets
abbrev pairs : List (List ℕ) → ℕ
pairs [] = 0
pairs (v ∷ vs) = length v + 2 + pairs vs

joined_short : (vs : List (List ℕ)) → length (joined_by (codes "; ") vs) ≤ pairs vs
joined_short [] = omega arith
joined_short (v ∷ []) = omega arith
joined_short (v ∷ next ∷ vs) =
    let more = joined_short (next ∷ vs) in
    let sizes : length (v ++ codes "; " ++ joined_by (codes "; ") (next ∷ vs)) ≡ length v + 2 + length (joined_by (codes "; ") (next ∷ vs)) = simp length-append (omega arith) in
    omega (arith, more, sizes)

-- cookies and the other fields
cookies_apart : (fs : List Field) → pairs (values_of (codes "cookie") fs) + total_size (without (codes "cookie" ∷ []) fs) ≤ total_size fs
unfolding total_size
cookies_apart [] = omega arith
cookies_apart (f ∷ fs) = by (bytes_eq f.name (codes "cookie")) (cookies_apart fs)
  where
    by : (b : Bool) → pairs (values_of (codes "cookie") fs) + total_size (without (codes "cookie" ∷ []) fs) ≤ total_size fs
        → pairs (if b then f.value ∷ values_of (codes "cookie") fs else values_of (codes "cookie") fs)
        + total_size (if not (b || false) then f ∷ without (codes "cookie" ∷ []) fs else without (codes "cookie" ∷ []) fs) ≤ field_size f + total_size fs
    by true more = omega (arith, more)
    by false more = omega (arith, more)

-- the lines of fields with one cookie for all
one_cookie_short : (fs : List Field) → length (lines_text (with_one_cookie fs)) ≤ total_size fs
unfolding total_size
one_cookie_short [] = omega arith
one_cookie_short (f ∷ fs) = by (bytes_eq f.name (codes "cookie")) (one_cookie_short fs)
  where
    values : List (List ℕ)
    values = values_of (codes "cookie") fs

    by : (b : Bool) → length (lines_text (with_one_cookie fs)) ≤ total_size fs
        → length (lines_text (if b
        then record { name = codes "cookie"; value = joined_by (codes "; ") (if b then f.value ∷ values_of (codes "cookie") fs else values_of (codes "cookie") fs) } ∷ without (codes "cookie" ∷ []) fs
        else f ∷ with_one_cookie fs)) ≤ field_size f + total_size fs
    by true more =
        let joined = joined_short (f.value ∷ values_of (codes "cookie") fs) in
        let others = lines_short (without (codes "cookie" ∷ []) fs) in
        let apart = cookies_apart fs in
        let line = lines_more (record { name = codes "cookie"; value = joined_by (codes "; ") (f.value ∷ values_of (codes "cookie") fs) }) (without (codes "cookie" ∷ []) fs) in
        omega (arith, joined, others, apart, line)
    by false more = let line = lines_more f (with_one_cookie fs) in omega (arith, more, line)

-- ---- the parts of a head

-- texts, one behind the other
abbrev all_of : List (List ℕ) → ℕ
all_of [] = 0
all_of (v ∷ vs) = length v + all_of vs

first_short : (vs : List (List ℕ)) → length (first_of vs) ≤ all_of vs
first_short [] = omega arith
first_short (v ∷ vs) = omega arith

first_of_both : (us vs : List (List ℕ)) → length (first_of (us ++ vs)) ≤ all_of us + all_of vs
first_of_both [] vs = let first = first_short vs in omega (arith, first)
first_of_both (u ∷ us) vs = omega arith

-- the fields that stand in parts of their own
abbrev own_names : List (List ℕ)
own_names = codes "host" ∷ codes "te" ∷ codes "content-length" ∷ []

-- what a field gives to each part
abbrev gives : List ℕ → List ℕ → List ℕ → ℕ
gives part name value = if bytes_eq name part then length value else 0

abbrev gives_field : List ℕ → List ℕ → ℕ
gives_field name value = if not (begins_with 58 name) && not (list_any (bytes_eq name) own_names) then length name + length value + 32 else 0

abbrev IsShared : List ℕ → List ℕ → Type 0
IsShared name value =
    gives (codes ":method") name value + gives (codes ":path") name value + gives (codes ":authority") name value + gives (codes "host") name value + gives_field name value
    ≤ length name + length value + 32

-- a field stands in one part at most
one_part : (name value : List ℕ) → IsShared name value
one_part name value = elim (cases_Bool (bytes_eq name (codes ":method"))) [
  | inl is ↦ at_name (codes ":method") is (omega arith)
  | inr no_method ↦ (elim (cases_Bool (bytes_eq name (codes ":path"))) [
    | inl is ↦ at_name (codes ":path") is (omega arith)
    | inr no_path ↦ (elim (cases_Bool (bytes_eq name (codes ":authority"))) [
      | inl is ↦ at_name (codes ":authority") is (omega arith)
      | inr no_authority ↦ (elim (cases_Bool (bytes_eq name (codes "host"))) [
        | inl is ↦ at_name (codes "host") is (omega arith)
        | inr no_host ↦ none no_method no_path no_authority no_host
      ])
    ])
  ])
]
  where
    at_name : (part : List ℕ) → bytes_eq name part ≡ true → IsShared part value → IsShared name value
    at_name part is shared = subst (λ n. IsShared n value) (sym ((bytes_eq-Decides name part).0 is)) shared

    field_short : (b : Bool) → (if b then length name + length value + 32 else 0) ≤ length name + length value + 32
    field_short true = omega arith
    field_short false = omega arith

    none : bytes_eq name (codes ":method") ≡ false → bytes_eq name (codes ":path") ≡ false → bytes_eq name (codes ":authority") ≡ false → bytes_eq name (codes "host") ≡ false → IsShared name value
    none a b c d =
        let m : gives (codes ":method") name value ≡ 0 = ap (λ x. if x then length value else 0) a in
        let p : gives (codes ":path") name value ≡ 0 = ap (λ x. if x then length value else 0) b in
        let q : gives (codes ":authority") name value ≡ 0 = ap (λ x. if x then length value else 0) c in
        let h : gives (codes "host") name value ≡ 0 = ap (λ x. if x then length value else 0) d in
        let f = field_short (not (begins_with 58 name) && not (list_any (bytes_eq name) own_names)) in
        omega (arith, m, p, q, h, f)

value_more : (part : List ℕ) (f : Field) (fs : List Field) → all_of (values_of part (f ∷ fs)) ≡ gives part f.name f.value + all_of (values_of part fs)
value_more part f fs = by (bytes_eq f.name part)
  where
    by : (b : Bool) → all_of (if b then f.value ∷ values_of part fs else values_of part fs) ≡ (if b then length f.value else 0) + all_of (values_of part fs)
    by true = refl
    by false = omega arith

field_more : (f : Field) (fs : List Field) → total_size (without own_names (regular_fields (f ∷ fs))) ≡ gives_field f.name f.value + total_size (without own_names (regular_fields fs))
unfolding total_size
field_more f fs = by (begins_with 58 f.name) (list_any (bytes_eq f.name) own_names)
  where
    by : (a b : Bool) → total_size (without own_names (if not a then f ∷ regular_fields fs else regular_fields fs)) ≡ (if not a && not (list_any (bytes_eq f.name) own_names) then length f.name + length f.value + 32 else 0) + total_size (without own_names (regular_fields fs))
    by true b = omega arith
    by false b = within (list_any (bytes_eq f.name) own_names)
      where
        within : (c : Bool) → total_size (if not c then f ∷ without own_names (regular_fields fs) else without own_names (regular_fields fs)) ≡ (if not c then length f.name + length f.value + 32 else 0) + total_size (without own_names (regular_fields fs))
        within true = omega arith
        within false = refl

parts_fit : (fs : List Field) → all_of (values_of (codes ":method") fs) + all_of (values_of (codes ":path") fs) + all_of (values_of (codes ":authority") fs) + all_of (values_of (codes "host") fs) + total_size (without own_names (regular_fields fs)) ≤ total_size fs
unfolding total_size
parts_fit [] = omega arith
parts_fit (f ∷ fs) =
    let more = parts_fit fs in
    let m = value_more (codes ":method") f fs in
    let p = value_more (codes ":path") f fs in
    let a = value_more (codes ":authority") f fs in
    let h = value_more (codes "host") f fs in
    let k = field_more f fs in
    let one = one_part f.name f.value in
    omega (arith, more, m, p, a, h, k, one)

-- the lines of the fields that are sent on
fields_short : (head : List Field) → length (lines_text (fields_of head)) ≤ total_size (without own_names (regular_fields head))
fields_short head =
    let kept = without own_names (regular_fields head) in
    let cookies = one_cookie_short (filter (λ field. not (is_empty_cookie field)) kept) in
    let fewer = filter_short (λ field. not (is_empty_cookie field)) kept in
    omega (arith, cookies, fewer)

-- ---- the text

decimal_short : (n : ℕ) → n < 2 ^ 64 → length (decimal n) ≤ 20
decimal_short n fits = length-decimal-le 20 n (omega arith) (omega (arith, fits)) fits

framing_short : (declared : Option ℕ) (ended : Bool) → ((n : ℕ) → declared ≡ Some n → n < 2 ^ 64) → length (lines_text (framing_of declared ended)) ≤ 38
framing_short None true fits = omega arith
framing_short None false fits = omega arith
framing_short (Some n) ended fits =
    let line = lines_more (record { name = codes "content-length"; value = decimal n }) [] in
    let few = decimal_short n (fits n refl) in
    omega (arith, line, few)

-- the line that says that the connection isn't kept
close_short : (keep : Bool) → length (lines_text (closing keep)) ≤ 19
close_short true = omega arith
close_short false = omega arith

-- The text of a head whose fields aren't too large.
pub head_short : (keep : Bool) (head : List Field) (ended : Bool) → WellFormedHead head → are_large head ≡ false → length (head_of keep (parts_of head) ended) ≤ most_head
head_short keep head ended well_formed small =
    let framing = framing_of (declared_length head) ended in
    let host : Field = record { name = codes "host"; value = authority_of head } in
    let size : total_size head ≤ 16384 = fits small in
    let parts = parts_fit head in
    let method = first_short (values_of (codes ":method") head) in
    let path = first_short (values_of (codes ":path") head) in
    let authority = first_of_both (values_of (codes ":authority") head) (values_of (codes "host") head) in
    let fields = fields_short head in
    let frames = framing_short (declared_length head) ended (λ n is. declared_fits head n well_formed.length_holds is) in
    let first = lines_more host (fields_of head ++ via ∷ framing ++ closing keep) in
    let second = lines_both (fields_of head ++ via ∷ framing) (closing keep) in
    let third = lines_both (fields_of head) (via ∷ framing) in
    let fourth = lines_more via framing in
    let text : length (head_of keep (parts_of head) ended) ≡ length (method_of head) + length (path_of head) + 14 + length (lines_text (host ∷ fields_of head ++ via ∷ framing ++ closing keep)) = simp length-append (omega arith) in
    let last = close_short keep in
    omega (arith, size, parts, method, path, authority, fields, frames, first, second, third, fourth, text, last)
  where
    fits : are_large head ≡ false → total_size head ≤ 16384
    fits e = ltb-false 16384 (total_size head) e
