-- The tables of codes have the code that a window begins with.
use Rattle.std.proofs.Common.{◌≡◌, ℕ, zero, suc, ◌+◌, ◌-◌, ◌*◌, ◌/◌, ◌^◌, ◌<◌, ◌≤◌, Bool, true, false, ◌&&◌, cond, nat_eq, nat_lt, nat_le, List, [], ◌∷◌, Option, Some, None, MatchOption, slice_get, refl, ap, sym, ◌∙◌, subst, inl, inr, arith, eqb-true, ltb-true, ltb-false, leb-true}
use Rattle.std.specs.List.{find}
use Rattle.std.proofs.Math.Nat.{div-div-eq-div-mul, div-lt_iff_lt-mul}
use Rattle.std.proofs.lemmas.Nat.{pow-add, pow_pos, le-div}
use Rattle.std.proofs.lemmas.Bool.{cases_lt}
use Rattle.std.proofs.lemmas.Option.{slice_get-get_or}
use Rattle.model.specs.Huffman.{huffman_code, bits, IsCode, rows, row_codes, codes_from}
use Rattle.model.proofs.HuffmanLemmas.{and_left, and_right}
use Rattle.huffman.specs.Fronts.{IsFront, StandFor, symbol_of}
use Rattle.huffman.specs.declared.codes.Symbol.TheVariants.{Octet}
use Rattle.huffman.specs.declared.long_codes.TheConstants.{OCTETS, ROWS}
use Rattle.huffman.specs.declared.short_codes.TheConstants.{SHORT}
use Rattle.huffman.proofs.CodeLemmas.{has_code, any_code, all_from, at_place}

-- The entry has the code that the eight bits begin with.
abbrev is_short : ℕ → ℕ × ℕ → Bool
is_short place entry = has_code huffman_code entry.0 (bits entry.1 (place / 2 ^ (8 - entry.1))) && (nat_lt entry.0 256 && (nat_le 1 entry.1 && nat_le entry.1 8))

shorts_are : all_from is_short 0 SHORT ≡ true
unfolding bits huffman_code codes_from row_codes rows
shorts_are = refl

pub short_front : (window octet width : ℕ) → slice_get SHORT (window / 2 ^ 30) ≡ Some (octet, width) → IsFront 38 window (record { symbol = Octet octet; width = width })
short_front window octet width g =
    let place : ℕ = window / 2 ^ 30 in
    let entry : ℕ × ℕ = (octet, width) in
    let all : is_short place entry ≡ true = at_place is_short SHORT place entry shorts_are g in
    let code = has_code huffman_code octet (bits width (place / 2 ^ (8 - width))) in
    let rest = and_right code (nat_lt octet 256 && (nat_le 1 width && nat_le width 8)) all in
    let widths = and_right (nat_lt octet 256) (nat_le 1 width && nat_le width 8) rest in
    let some : 1 ≤ width = leb-true 1 width (and_left (nat_le 1 width) (nat_le width 8) widths) in
    let most : width ≤ 8 = leb-true width 8 (and_right (nat_le 1 width) (nat_le width 8) widths) in
    let whole : 38 - width ≡ 30 + (8 - width) = omega arith in
    let same : place / 2 ^ (8 - width) ≡ window / 2 ^ (38 - width) = div-div-eq-div-mul window (2 ^ 30) (2 ^ (8 - width)) ∙ ap (λ p. window / p) (sym (ap (λ e. 2 ^ e) whole ∙ pow-add 2 30 (8 - width))) in
    record {
      some = omega (arith, some);
      most = omega (arith, most);
      stand = (ltb-true octet 256 (and_left (nat_lt octet 256) (nat_le 1 width && nat_le width 8) rest), subst (λ n. IsCode octet (bits width n)) same (any_code huffman_code octet (bits width (place / 2 ^ (8 - width))) (and_left code (nat_lt octet 256 && (nat_le 1 width && nat_le width 8)) all)));
    }

pub past_shorts : (window : ℕ) → slice_get SHORT (window / 2 ^ 30) ≡ None → 254 * 2 ^ 30 ≤ window
past_shorts window g = elim (cases_lt (window / 2 ^ 30) 254) [
  | inl within ↦ (let found = slice_get-get_or SHORT (window / 2 ^ 30) (0, 0) within in cc)
  | inr past ↦ omega (arith, past)
]

abbrev Row : Type 0
Row = ℕ × ℕ × ℕ

-- What stands at the place is what the bits are the code of.
abbrev is_code_of : List ℕ → Option ℕ → Bool
is_code_of text (Some octet) = nat_lt octet 256 && has_code huffman_code octet text
is_code_of text None = has_code huffman_code 256 text

abbrev is_number : ℕ → ℕ → ℕ → Bool
is_number width lead number = is_code_of (bits width number) (slice_get OCTETS (number - lead))

abbrev are_numbers : ℕ → ℕ → ℕ → ℕ → Bool
are_numbers width lead number zero = true
are_numbers width lead number (suc count) = is_number width lead number && are_numbers width lead (number + 1) count

-- The row is right for the windows from one on.
abbrev is_row : ℕ → Row → Bool
is_row start row =
    let scale : ℕ = 2 ^ (38 - row.0) in
    (nat_le 1 row.0 && nat_le row.0 30) && (nat_eq (start / scale * scale) start && (nat_eq (row.1 / scale * scale) row.1 && (nat_le row.2 (start / scale) && are_numbers row.0 row.2 (start / scale) (row.1 / scale - start / scale))))

-- Rows go on from a window to the last.
abbrev are_rows : ℕ → List Row → Bool
are_rows start [] = nat_le (2 ^ 38) start
are_rows start (row ∷ rows) = is_row start row && are_rows row.1 rows

rows_are : are_rows (254 * 2 ^ 30) ROWS ≡ true
unfolding bits huffman_code codes_from row_codes rows
rows_are = refl

number_at : (width lead number count more : ℕ) → are_numbers width lead number count ≡ true → more < count → is_number width lead (number + more) ≡ true
number_at width lead number zero more e less = absurd (omega arith)
number_at width lead number (suc count) zero e less =
    let same : number + 0 ≡ number = omega arith in
    rw same (and_left (is_number width lead number) (are_numbers width lead (number + 1) count) e)
number_at width lead number (suc count) (suc more) e less =
    let far : number + suc more ≡ (number + 1) + more = omega arith in
    rw far (number_at width lead (number + 1) count more (and_right (is_number width lead number) (are_numbers width lead (number + 1) count) e) (omega arith))

-- the row gives the code that the window begins with
pub record IsRowOf (window : ℕ) (row : Row) : Type 0 where
  pub some : 0 < row.0
  pub most : row.0 ≤ 30
  pub lead : row.2 ≤ window / 2 ^ (38 - row.0)
  pub number : is_number row.0 row.2 (window / 2 ^ (38 - row.0)) ≡ true

row_of : (start window : ℕ) (row : Row) → is_row start row ≡ true → start ≤ window → window < row.1 → IsRowOf window row
row_of start window row e from before =
    let scale : ℕ = 2 ^ (38 - row.0) in
    let first : ℕ = start / scale in
    let past : ℕ = row.1 / scale in
    let number : ℕ = window / scale in
    let numbers : Bool = are_numbers row.0 row.2 first (past - first) in
    let widths = and_left (nat_le 1 row.0 && nat_le row.0 30) (nat_eq (first * scale) start && (nat_eq (past * scale) row.1 && (nat_le row.2 first && numbers))) e in
    let ends = and_right (nat_le 1 row.0 && nat_le row.0 30) (nat_eq (first * scale) start && (nat_eq (past * scale) row.1 && (nat_le row.2 first && numbers))) e in
    let begins : first * scale ≡ start = eqb-true (first * scale) start (and_left (nat_eq (first * scale) start) (nat_eq (past * scale) row.1 && (nat_le row.2 first && numbers)) ends) in
    let others = and_right (nat_eq (first * scale) start) (nat_eq (past * scale) row.1 && (nat_le row.2 first && numbers)) ends in
    let stops : past * scale ≡ row.1 = eqb-true (past * scale) row.1 (and_left (nat_eq (past * scale) row.1) (nat_le row.2 first && numbers) others) in
    let codes = and_right (nat_eq (past * scale) row.1) (nat_le row.2 first && numbers) others in
    let lead : row.2 ≤ first = leb-true row.2 first (and_left (nat_le row.2 first) numbers codes) in
    let positive : 0 < scale = pow_pos (38 - row.0) in
    let least : first ≤ number = le-div first window scale positive (subst (λ s. s ≤ window) (sym begins) from) in
    let most : number < past = (div-lt_iff_lt-mul positive).1 (subst (λ s. window < s) (sym stops) before) in
    let there : first + (number - first) ≡ number = omega (arith, least) in
    record {
      some = let w = leb-true 1 row.0 (and_left (nat_le 1 row.0) (nat_le row.0 30) widths) in omega (arith, w);
      most = leb-true row.0 30 (and_right (nat_le 1 row.0) (nat_le row.0 30) widths);
      lead = omega (arith, lead, least);
      number = subst (λ n. is_number row.0 row.2 n ≡ true) there (number_at row.0 row.2 first (past - first) (number - first) (and_right (nat_le row.2 first) numbers codes) (omega (arith, least, most)));
    }

tested : (b : Bool) (window : ℕ) (row : Row) (later : Option Row) → nat_lt window row.1 ≡ b → (nat_lt window row.1 ≡ true → IsRowOf window row) → (nat_lt window row.1 ≡ false → MatchOption later ⊥ (λ r. IsRowOf window r))
    → MatchOption (cond b (Some row) later) ⊥ (λ r. IsRowOf window r)
tested true window row later t here there = here t
tested false window row later t here there = there t

row_found : (start window : ℕ) (table : List Row) → are_rows start table ≡ true → start ≤ window → window < 2 ^ 38 → MatchOption (find (λ row. nat_lt window row.1) table) ⊥ (λ row. IsRowOf window row)
row_found start window [] e from before = let past : 2 ^ 38 ≤ start = leb-true (2 ^ 38) start e in omega (arith, past)
row_found start window (row ∷ table) e from before =
    tested (nat_lt window row.1) window row (find (λ r. nat_lt window r.1) table) refl
    (λ t. row_of start window row (and_left (is_row start row) (are_rows row.1 table) e) from (ltb-true window row.1 t))
    (λ t. row_found row.1 window table (and_right (is_row start row) (are_rows row.1 table) e) (ltb-false window row.1 t) before)

pub row_for : (window : ℕ) (r : Option Row) → 254 * 2 ^ 30 ≤ window → window < 2 ^ 38 → r ≡ find (λ row. nat_lt window row.1) ROWS → MatchOption r ⊥ (λ row. IsRowOf window row)
row_for window r from before e = subst (λ o. MatchOption o ⊥ (λ row. IsRowOf window row)) (sym e) (row_found (254 * 2 ^ 30) window ROWS rows_are from before)

code_of : (text : List ℕ) (o : Option ℕ) → is_code_of text o ≡ true → StandFor text (symbol_of o)
code_of text (Some octet) e = (ltb-true octet 256 (and_left (nat_lt octet 256) (has_code huffman_code octet text) e), any_code huffman_code octet text (and_right (nat_lt octet 256) (has_code huffman_code octet text) e))
code_of text None e = any_code huffman_code 256 text e

pub long_front : (window width end lead : ℕ) → let row : Row = (width, end, lead) in IsRowOf window row → IsFront 38 window (record { symbol = symbol_of (slice_get OCTETS (window / 2 ^ (38 - width) - lead)); width = width })
long_front window width end lead r = record {
  some = r.some;
  most = r.most;
  stand = code_of (bits width (window / 2 ^ (38 - width))) (slice_get OCTETS (window / 2 ^ (38 - width) - lead)) r.number;
}
