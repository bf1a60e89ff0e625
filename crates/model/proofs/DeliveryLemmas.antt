-- A final head as it is passed back reads as that head.
use Rattle.std.proofs.Common.{◌≡◌, ℕ, zero, suc, ◌+◌, ◌/◌, ◌%◌, ◌<◌, ◌≤◌, Bool, true, false, not, ◌==◌, ◌&&◌, List, [], ◌∷◌, ◌++◌, length, map, filter, refl, sym, ◌∙◌, ap, subst, arith, if◌then◌else◌, inl, inr}
use Rattle.std.specs.Prelude.{IsTrue, All, codes, bytes_eq, nat_le}
use Rattle.std.specs.Int.{IsInRange}
use Rattle.std.specs.Char.{is_ascii_digit}
use Rattle.std.specs.List.{list_all, list_any}
use Rattle.std.specs.Str.Parse.{digits_value}
use Rattle.std.specs.Char.{digit_value}
use Rattle.std.proofs.lemmas.Str.{digit_value_digit}
use Rattle.std.proofs.lemmas.Bool.{cases_Bool, leb-true, and_parts}
use Rattle.std.proofs.lemmas.Bool.Decides.{eqb_tells}
use Rattle.std.proofs.lemmas.List.Elements.{All-head, All-tail}
use Rattle.httparse.specs.Grammar as grammar
use Rattle.httparse.specs.Grammar.{is_token_byte, IsField, IsResponseHead, status_code}
use Rattle.model.specs.Octets.{begins_with, is_digit, lower}
use Rattle.model.specs.Messages.{Field}
use Rattle.model.specs.Http1.{without}
use Rattle.model.specs.Http2.{is_pseudo, pseudo_fields}
use Rattle.model.specs.ResponseHeads.{Head, Framing, meant, named_by_connection, names_of_connection, with_one, never_has_body, without_framing, head_of, Final}
use Rattle.model.specs.Deliveries.{IsSection}

-- ---- the status

digit_at : (c : ℕ) → IsTrue (is_ascii_digit c) → digit_value c < 10
digit_at c t = let v : digit_value c + 48 ≡ c = digit_value_digit c (range c t) in let r = range c t in omega (arith, v, r)
  where
    range : (c : ℕ) → IsTrue (is_ascii_digit c) → IsInRange 48 57 c
    range c t = let p = and_parts (nat_le 48 c) (nat_le c 57) t in (leb-true 48 c p.0, leb-true c 57 p.1)

abbrev IsDigit : ℕ → Type 0
IsDigit c = IsTrue (is_ascii_digit c)

small_number : (digits : List ℕ) → length digits ≡ 3 → All IsDigit digits → digits_value 10 digits < 1000
small_number [] n all = absurd (omega arith)
small_number (a ∷ []) n all = absurd (omega arith)
small_number (a ∷ b ∷ []) n all = absurd (omega arith)
small_number (a ∷ b ∷ c ∷ []) n all =
    let da = digit_at a (All-head IsDigit a (b ∷ c ∷ []) all) in
    let db = digit_at b (All-head IsDigit b (c ∷ []) (All-tail IsDigit a (b ∷ c ∷ []) all)) in
    let dc = digit_at c (All-head IsDigit c [] (All-tail IsDigit b (c ∷ []) (All-tail IsDigit a (b ∷ c ∷ []) all))) in
    omega (arith, da, db, dc)
small_number (a ∷ b ∷ c ∷ d ∷ digits) n all = absurd (omega arith)

pub status_small : (h : grammar.ResponseHead) → IsResponseHead h → status_code h < 1000
status_small h is = small_number h.digits is.digits.0 is.digits.1

-- the digit of a number below ten
one_digit : (d : ℕ) → d < 10 → (digit_value (48 + d) ≡ d) × (is_digit (48 + d) ≡ true)
one_digit zero lt = (refl, refl)
one_digit (suc zero) lt = (refl, refl)
one_digit (suc (suc zero)) lt = (refl, refl)
one_digit (suc (suc (suc zero))) lt = (refl, refl)
one_digit (suc (suc (suc (suc zero)))) lt = (refl, refl)
one_digit (suc (suc (suc (suc (suc zero))))) lt = (refl, refl)
one_digit (suc (suc (suc (suc (suc (suc zero)))))) lt = (refl, refl)
one_digit (suc (suc (suc (suc (suc (suc (suc zero))))))) lt = (refl, refl)
one_digit (suc (suc (suc (suc (suc (suc (suc (suc zero)))))))) lt = (refl, refl)
one_digit (suc (suc (suc (suc (suc (suc (suc (suc (suc zero))))))))) lt = (refl, refl)
one_digit (suc (suc (suc (suc (suc (suc (suc (suc (suc (suc d)))))))))) lt = absurd (omega arith)

-- a number below a thousand in three digits
abbrev pub in_three : ℕ → List ℕ
in_three n = (48 + n / 100 % 10) ∷ (48 + n / 10 % 10) ∷ (48 + n % 10) ∷ []

value_of_three : (n : ℕ) → n < 1000 → n ≡ digits_value 10 (in_three n)
value_of_three n lt =
    let a = (one_digit (n / 100 % 10) (omega arith)).0 in
    let b = (one_digit (n / 10 % 10) (omega arith)).0 in
    let c = (one_digit (n % 10) (omega arith)).0 in
    omega (arith, a, b, c)

digits_of_three : (n : ℕ) → list_all is_digit (in_three n) ≡ true
digits_of_three n =
    let a = (one_digit (n / 100 % 10) (omega arith)).1 in
    let b = (one_digit (n / 10 % 10) (omega arith)).1 in
    let c = (one_digit (n % 10) (omega arith)).1 in
    ap (λ x. x && (is_digit (48 + n / 10 % 10) && (is_digit (48 + n % 10) && true))) a
    ∙ ap (λ x. x && (is_digit (48 + n % 10) && true)) b
    ∙ ap (λ x. x && true) c

pub section_reads : (head : Head) → head.status < 1000 → pseudo_fields head.fields ≡ [] → IsSection (record { name = codes ":status"; value = in_three head.status } ∷ head.fields) head
section_reads head small plain = record { digits = in_three head.status; is = refl; three = refl; are_digits = digits_of_three head.status; status = value_of_three head.status small; no_other = plain }

-- ---- the fields

-- a part of fields that have no pseudo-field has none
pub kept_plain : (test : Field → Bool) (fields : List Field) → pseudo_fields fields ≡ [] → pseudo_fields (filter test fields) ≡ []
kept_plain test [] e = refl
kept_plain test (f ∷ fs) e = elim (cases_Bool (is_pseudo f)) [
  | inl p ↦ absurd (let g : f ∷ pseudo_fields fs ≡ [] = sym (ap (λ b. if b then f ∷ pseudo_fields fs else pseudo_fields fs) p) ∙ e in cc)
  | inr p ↦ (let rest : pseudo_fields fs ≡ [] = sym (ap (λ b. if b then f ∷ pseudo_fields fs else pseudo_fields fs) p) ∙ e in
      elim (cases_Bool (test f)) [
        | inl t ↦ ap (λ b. pseudo_fields (if b then f ∷ filter test fs else filter test fs)) t ∙ ap (λ b. if b then f ∷ pseudo_fields (filter test fs) else pseudo_fields (filter test fs)) p ∙ kept_plain test fs rest
        | inr t ↦ ap (λ b. pseudo_fields (if b then f ∷ filter test fs else filter test fs)) t ∙ kept_plain test fs rest
      ])
]

one_plain : (name : List ℕ) (fields : List Field) → pseudo_fields fields ≡ [] → pseudo_fields (with_one name fields) ≡ []
one_plain name [] e = refl
one_plain name (f ∷ fs) e = elim (cases_Bool (is_pseudo f)) [
  | inl p ↦ absurd (let g : f ∷ pseudo_fields fs ≡ [] = sym (ap (λ b. if b then f ∷ pseudo_fields fs else pseudo_fields fs) p) ∙ e in cc)
  | inr p ↦ (let rest : pseudo_fields fs ≡ [] = sym (ap (λ b. if b then f ∷ pseudo_fields fs else pseudo_fields fs) p) ∙ e in
      elim (cases_Bool (bytes_eq f.name name)) [
        | inl t ↦ ap (λ b. pseudo_fields (if b then f ∷ without (name ∷ []) fs else f ∷ with_one name fs)) t ∙ ap (λ b. if b then f ∷ pseudo_fields (without (name ∷ []) fs) else pseudo_fields (without (name ∷ []) fs)) p ∙ kept_plain (λ field. not (list_any (bytes_eq field.name) (name ∷ []))) fs rest
        | inr t ↦ ap (λ b. pseudo_fields (if b then f ∷ without (name ∷ []) fs else f ∷ with_one name fs)) t ∙ ap (λ b. if b then f ∷ pseudo_fields (with_one name fs) else pseudo_fields (with_one name fs)) p ∙ one_plain name fs rest
      ])
]

no_colon_octet : (c : ℕ) → IsTrue (is_token_byte c) → (58 == (if nat_le 65 c && nat_le c 90 then c + 32 else c)) ≡ false
unfolding is_token_byte
no_colon_octet c t = elim (eqb_tells 58 (if nat_le 65 c && nat_le c 90 then c + 32 else c)) [ inl x ↦ absurd (bad (nat_le 65 c && nat_le c 90) refl x.1) | inr x ↦ x.0 ]
  where
    bad : (b : Bool) → (nat_le 65 c && nat_le c 90) ≡ b → 58 ≡ (if b then c + 32 else c) → ⊥
    bad true r e = let low = leb-true 65 c (and_parts (nat_le 65 c) (nat_le c 90) r).0 in omega (arith, low, e)
    bad false r e = let f : false ≡ true = ap is_token_byte e ∙ t in cc

-- a token begins with no colon, nor does it in lower case
no_colon : (f : grammar.Field) → IsField f → is_pseudo (meant f) ≡ false
no_colon f is = first f.name is.name.0 is.name.1
  where
    first : (name : List ℕ) → 0 < length name → All (λ c. IsTrue (is_token_byte c)) name → begins_with 58 (lower name) ≡ false
    first [] some all = absurd (omega arith)
    first (c ∷ name) some all = no_colon_octet c (All-head (λ b. IsTrue (is_token_byte b)) c name all)

pub meant_plain : (fields : List grammar.Field) → All IsField fields → pseudo_fields (map meant fields) ≡ []
meant_plain [] all = refl
meant_plain (f ∷ fs) all =
    ap (λ b. if b then meant f ∷ pseudo_fields (map meant fs) else pseudo_fields (map meant fs)) (no_colon f (All-head IsField f fs all)) ∙ meant_plain fs (All-tail IsField f fs all)

pub head_plain : (h : grammar.ResponseHead) → IsResponseHead h → pseudo_fields (head_of h).fields ≡ []
head_plain h is =
    let all = map meant h.fields in
    kept_plain (λ field. not (list_any (bytes_eq field.name) (names_of_connection ++ named_by_connection all))) (without_framing (status_code h) all) (framed (never_has_body (status_code h)))
  where
    framed : (b : Bool) → pseudo_fields (if b then without (codes "content-length" ∷ codes "transfer-encoding" ∷ []) (map meant h.fields) else with_one (codes "content-length") (map meant h.fields)) ≡ []
    framed true = kept_plain (λ field. not (list_any (bytes_eq field.name) (codes "content-length" ∷ codes "transfer-encoding" ∷ []))) (map meant h.fields) (meant_plain h.fields is.fields)
    framed false = one_plain (codes "content-length") (map meant h.fields) (meant_plain h.fields is.fields)

-- ---- a final head

pub final_section : (to_head : Bool) (text : List ℕ) (head : Head) (framing : Framing) → Final to_head text head framing → IsSection (record { name = codes ":status"; value = in_three head.status } ∷ head.fields) head
final_section to_head text head framing f =
    let is = f.taken.reads.0 in
    section_reads head (subst (λ (h : Head). h.status < 1000) (sym f.says) (status_small f.spelled is)) (subst (λ (h : Head). pseudo_fields h.fields ≡ []) (sym f.says) (head_plain f.spelled is))

pub final_status : (to_head : Bool) (text : List ℕ) (head : Head) (framing : Framing) → Final to_head text head framing → 200 ≤ head.status
final_status to_head text head framing f = subst (λ (h : Head). 200 ≤ h.status) (sym f.says) f.is_final
