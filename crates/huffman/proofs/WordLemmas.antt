-- The table of words has the codes.
use Rattle.std.proofs.Common.{◌≡◌, ℕ, ◌^◌, Bool, true, ◌&&◌, nat_lt, nat_le, refl, slice_get, Some, leb-true, ltb-true}
use Rattle.model.specs.Huffman.{huffman_code, bits, rows, row_codes, codes_from}
use Rattle.model.proofs.HuffmanLemmas.{and_left, and_right}
use Rattle.huffman.specs.Encoding.{IsWordOf}
use Rattle.huffman.specs.declared.words.TheConstants.{WORDS}
use Rattle.huffman.proofs.CodeLemmas.{has_code, any_code, all_from, at_place}

abbrev Entry : Type 0
Entry = ℕ × ℕ

abbrev is_word : ℕ → Entry → Bool
is_word octet word = has_code huffman_code octet (bits word.1 word.0) && (nat_lt word.0 (2 ^ word.1) && nat_le word.1 30)

words_are : all_from is_word 0 WORDS ≡ true
unfolding bits huffman_code codes_from row_codes rows
words_are = refl

word_is : (octet : ℕ) (word : Entry) → is_word octet word ≡ true → IsWordOf octet (record { number = word.0; width = word.1 })
word_is octet word e =
    let rest = and_right (has_code huffman_code octet (bits word.1 word.0)) (nat_lt word.0 (2 ^ word.1) && nat_le word.1 30) e in
    record {
      is_code = any_code huffman_code octet (bits word.1 word.0) (and_left (has_code huffman_code octet (bits word.1 word.0)) (nat_lt word.0 (2 ^ word.1) && nat_le word.1 30) e);
      number = ltb-true word.0 (2 ^ word.1) (and_left (nat_lt word.0 (2 ^ word.1)) (nat_le word.1 30) rest);
      wide = leb-true word.1 30 (and_right (nat_lt word.0 (2 ^ word.1)) (nat_le word.1 30) rest);
    }

pub word_at : (octet : ℕ) (word : ℕ × ℕ) → slice_get WORDS octet ≡ Some word → IsWordOf octet (record { number = word.0; width = word.1 })
word_at octet word g = word_is octet word (at_place is_word WORDS octet word words_are g)
