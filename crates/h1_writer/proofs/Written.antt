-- What is written is read: lengths, sizes and chunks.
use Rattle.std.proofs.Common.{◌≡◌, ℕ, ◌+◌, ◌/◌, ◌%◌, ◌^◌, ◌<◌, ◌≤◌, Bool, true, false, List, [], ◌∷◌, ◌++◌, length, map, decimal, Some, None, refl, sym, ap, ◌∙◌, subst, append_assoc, length-append, arith, inl, inr}
use Rattle.std.specs.Prelude.{codes, not, ◌&&◌, nat_le}
use Rattle.std.specs.List.{list_all, concat, flat_map}
use Rattle.std.specs.Char.{digit_value}
use Rattle.std.specs.Str.Parse.{AllDigits, digits_value}
use Rattle.std.specs.Int.Digits.{digits_of, number_from_digits, AllBelowBase}
use Rattle.std.proofs.lemmas.Bool.{false≢true, and_parts, and_from, leb-true, le-leb, cases_lt}
use Rattle.std.proofs.lemmas.Bool.Decides.{nat_tests}
use Rattle.std.proofs.lemmas.List.{length-map}
use Rattle.std.proofs.lemmas.Fmt.{decimal_is_IsNumeral}
use Rattle.std.proofs.lemmas.Str.Parse.{digit_from_value}
use Rattle.std.proofs.lemmas.Int.Digits.{digits_value_is, digits_value-lt, number_digits_of, all_below_base_digits_of, digits_of_step}
use Rattle.std.proofs.Math.Nat.{pow-le-pow_right}
use Rattle.model.specs.Octets.{some_of, is_digit, is_hex_digit, is_visible, is_value, is_empty, Joined}
use Rattle.model.specs.Messages.{Field}
use Rattle.model.specs.Http1.{crlf, Chunk, Chunked}
use Rattle.model.specs.Http1Text.{lines_text, framing_of, hex_digit, hex_size, chunk_text, last_chunk}
use Rattle.model.specs.Http2.{promised, LengthFieldHolds, declared_length}
use Rattle.model.proofs.Http1Runs.{run_of_some, run_weaker}
use Rattle.model.proofs.Http1Texts.{Frames, has_line, lines_read, visible_is_value}
use Rattle.h1_writer.proofs.Stages.{are_full}

-- ---- decimal lengths

digit_is : (c : ℕ) → digit_value c < 10 → is_digit c ≡ true
digit_is c p = let between = digit_from_value c p in and_from (nat_le 48 c) (nat_le c 57) (le-leb 48 c between.0) (le-leb c 57 between.1)

digits_are : (cs : List ℕ) → AllDigits 10 cs → list_all is_digit cs ≡ true
digits_are [] p = refl
digits_are (c ∷ cs) p = and_from (is_digit c) (list_all is_digit cs) (digit_is c p.0) (digits_are cs p.1)

some_from : (test : ℕ → Bool) (cs : List ℕ) → 0 < length cs → list_all test cs ≡ true → some_of test cs ≡ true
some_from test [] some p = absurd (omega arith)
some_from test (c ∷ cs) some p = p

digit_is_visible : (c : ℕ) → is_digit c ≡ true → is_visible c ≡ true
digit_is_visible c p =
    let parts = and_parts (nat_le 48 c) (nat_le c 57) p in
    let low = leb-true 48 c parts.0 in
    let high = leb-true c 57 parts.1 in
    and_from (nat_le 33 c) (nat_le c 126) (le-leb 33 c (omega arith)) (le-leb c 126 (omega arith))

-- a declared length frames a body of so many octets
pub length_frames : (n : ℕ) (ended : Bool) (body : List ℕ) → n < 2 ^ 64 → length body ≡ n → Frames (framing_of (Some n) ended) body body []
length_frames n ended body fits is =
    let numeral = decimal_is_IsNumeral n fits in
    let digits = digits_are (decimal n) numeral.0.1 in
    let value = visible_is_value (decimal n) (run_weaker is_digit is_visible digit_is_visible (decimal n) digits) in
    record {
      lines = and_from (has_line (record { name = codes "content-length"; value = decimal n })) true (and_from true (is_value (decimal n)) refl value) refl;
      no_host = refl;
      no_option = refl;
      not_kept = refl;
      framed = (record { are_digits = some_from is_digit (decimal n) numeral.0.0 digits; has_length = is ∙ sym numeral.1; is = refl }, refl);
    }

digit_below : (c : ℕ) → is_digit c ≡ true → digit_value c < 10
digit_below c p =
    let parts = and_parts (nat_le 48 c) (nat_le c 57) p in
    let low = leb-true 48 c parts.0 in
    let high = leb-true c 57 parts.1 in
    grind (arith, nat_tests)

digits_below : (cs : List ℕ) → list_all is_digit cs ≡ true → AllDigits 10 cs
digits_below [] p = tt
digits_below (c ∷ cs) p = let parts = and_parts (is_digit c) (list_all is_digit cs) p in (digit_below c parts.0, digits_below cs parts.1)

short_number : (cs : List ℕ) → list_all is_digit cs ≡ true → length cs ≤ 18 → digits_value 10 cs < 2 ^ 64
short_number cs p short =
    let below = digits_value-lt 10 cs (digits_below cs p) in
    let most : 10 ^ length cs ≤ 10 ^ 18 = pow-le-pow_right (omega arith) short in
    omega arith

promised_short : (values : List (List ℕ)) (n : ℕ) → list_all (λ value. some_of is_digit value && nat_le (length value) 18) values ≡ true → promised values ≡ Some n → n < 2 ^ 64
promised_short [] n p e = cc
promised_short (value ∷ values) n p e =
    let both = and_parts (some_of is_digit value) _ (and_parts (some_of is_digit value && nat_le (length value) 18) _ p).0 in
    let is : digits_value 10 value ≡ n = cc in
    let below = short_number value (run_of_some is_digit value both.0) (leb-true (length value) 18 both.1) in
    subst (λ (m : ℕ). m < 2 ^ 64) is below

-- what a well-formed head declares fits
pub declared_fits : (head : List Field) (n : ℕ) → LengthFieldHolds head → declared_length head ≡ Some n → n < 2 ^ 64
declared_fits head n p e = promised_short _ n p.digits e

-- ---- sizes in base sixteen

hex_value : (d : ℕ) → d < 16 → digit_value (hex_digit d) ≡ d
hex_value d below = elim (cases_lt d 10) [
  | inl small ↦ grind (arith, nat_tests)
  | inr large ↦ grind (arith, nat_tests)
]

hex_is : (d : ℕ) → d < 16 → is_hex_digit (hex_digit d) ≡ true
hex_is d below = elim (cases_lt d 10) [
  | inl small ↦ grind (arith, nat_tests)
  | inr large ↦ grind (arith, nat_tests)
]

hex_values : (ds : List ℕ) → AllBelowBase 16 ds → map digit_value (map hex_digit ds) ≡ ds
hex_values [] p = refl
hex_values (d ∷ ds) p = let first = hex_value d p.0 in let rest = hex_values ds p.1 in cc

hex_all : (ds : List ℕ) → AllBelowBase 16 ds → list_all is_hex_digit (map hex_digit ds) ≡ true
hex_all [] p = refl
hex_all (d ∷ ds) p = and_from (is_hex_digit (hex_digit d)) _ (hex_is d p.0) (hex_all ds p.1)

hex_size_value : (n : ℕ) → digits_value 16 (hex_size n) ≡ n
hex_size_value n =
    digits_value_is 16 (hex_size n) ∙ ap (number_from_digits 16) (hex_values (digits_of 16 n) (all_below_base_digits_of 16 n (omega arith))) ∙ number_digits_of 16 n (omega arith)

some_digits : (n : ℕ) → 0 < n → 0 < length (hex_size n)
some_digits n some =
    let lengths : length (hex_size n) ≡ length (digits_of 16 (n / 16)) + 1 =
    length-map (digits_of 16 n) hex_digit ∙ ap length (digits_of_step 16 n (omega arith) some) ∙ length-append (digits_of 16 (n / 16)) (n % 16 ∷ []) in
    omega arith

hex_size_is : (n : ℕ) → 0 < n → some_of is_hex_digit (hex_size n) ≡ true
hex_size_is n some = some_from is_hex_digit (hex_size n) (some_digits n some) (hex_all (digits_of 16 n) (all_below_base_digits_of 16 n (omega arith)))

-- ---- chunks

full_length : (piece : List ℕ) → not (is_empty piece) ≡ true → 0 < length piece
full_length [] p = absurd (false≢true p)
full_length (octet ∷ octets) p = omega arith

chunk_read : (piece : List ℕ) → 0 < length piece → Chunk (chunk_text piece) piece
chunk_read piece some = record {
  size = hex_size (length piece);
  is = refl;
  is_size = hex_size_is (length piece) some;
  has_size = sym (hex_size_value (length piece));
  is_not_last = some;
}

pub chunks_read : (pieces : List (List ℕ)) → are_full pieces ≡ true → Joined Chunk (flat_map chunk_text pieces) pieces
chunks_read [] p = refl
chunks_read (piece ∷ pieces) p =
    let parts = and_parts (not (is_empty piece)) (are_full pieces) p in
    (chunk_text piece, flat_map chunk_text pieces, chunk_read piece (full_length piece parts.0), refl, chunks_read pieces parts.1)

last_regrouped : (front last lines : List ℕ) → front ++ (last ++ crlf ++ lines ++ crlf) ≡ front ++ last ++ crlf ++ lines ++ crlf
last_regrouped front last lines = simp append_assoc

pub chunked_read : (pieces : List (List ℕ)) (trailers : List Field) → are_full pieces ≡ true → list_all has_line trailers ≡ true
    → Chunked (flat_map chunk_text pieces ++ last_chunk trailers) (concat pieces) trailers
chunked_read pieces trailers p lines = record {
  chunks = pieces;
  front = flat_map chunk_text pieces;
  last_size = codes "0";
  lines = lines_text trailers;
  is = last_regrouped (flat_map chunk_text pieces) (codes "0") (lines_text trailers);
  are_chunks = chunks_read pieces p;
  is_size = refl;
  is_last = refl;
  is_body = refl;
  are_lines = lines_read trailers lines;
}

-- chunks frame a body whose length isn't declared, and trailers
pub chunk_frames : (pieces : List (List ℕ)) (trailers : List Field) → are_full pieces ≡ true → list_all has_line trailers ≡ true
    → Frames (framing_of None false) (flat_map chunk_text pieces ++ last_chunk trailers) (concat pieces) trailers
chunk_frames pieces trailers p lines =
    record { lines = refl; no_host = refl; no_option = refl; not_kept = refl; framed = (refl, chunked_read pieces trailers p lines) }
