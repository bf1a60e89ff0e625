-- Strings that stand as their Huffman text, told by it: the codes of their octets are looked up and joined.
use Rattle.std.proofs.Common.{◌≡◌, ℕ, ◌+◌, ◌<◌, Bool, true, ◌&&◌, if◌then◌else◌, nat_eq, nat_lt, List, [], ◌∷◌, ◌++◌, length, refl, inl, inr, arith, ltb-true}
use Rattle.std.specs.Prelude.{replicate, flat_map}
use Rattle.std.specs.List.{list_all}
use Rattle.model.specs.Huffman.{Code, huffman_code, octet_bits, AreCodes, Huff}
use Rattle.model.specs.Blocks.{IsHuffmanString}
use Rattle.model.proofs.HuffmanLemmas.{and_left, and_right}
use Rattle.huffman.proofs.CodeLemmas.{has_code, any_code}
use Rattle.header_blocks.specs.Chosen.{IsChosenString}

-- the bits that the table has for the symbol
abbrev pub bits_of : List Code → ℕ → List ℕ
bits_of [] symbol = []
bits_of (c ∷ codes) symbol = if nat_eq c.symbol symbol then c.bits else bits_of codes symbol

-- the octets' codes, joined
abbrev pub joined : List ℕ → List ℕ
joined string = flat_map (bits_of huffman_code) string

-- each is an octet, whose code is found
abbrev pub has_codes : List ℕ → Bool
has_codes string = list_all (λ octet. nat_lt octet 256 && has_code huffman_code octet (bits_of huffman_code octet)) string

are_joined : (string : List ℕ) → has_codes string ≡ true → AreCodes (joined string) string
are_joined [] e = refl
are_joined (octet ∷ string) e =
    let code : List ℕ = bits_of huffman_code octet in
    let here = and_left (nat_lt octet 256 && has_code huffman_code octet code) (has_codes string) e in (
      code,
      joined string,
      ltb-true octet 256 (and_left (nat_lt octet 256) (has_code huffman_code octet code) here),
      any_code huffman_code octet code (and_right (nat_lt octet 256) (has_code huffman_code octet code) here),
      refl,
      are_joined string (and_right (nat_lt octet 256 && has_code huffman_code octet code) (has_codes string) e),
    )

-- text whose bits are the joined codes, and padding
pub huffman_text : (text string : List ℕ) (padding : ℕ) → has_codes string ≡ true → padding < 8 → octet_bits text ≡ joined string ++ replicate padding 1 → Huff text string
huffman_text text string padding codes short is = record { coded = joined string; padding = padding; are_codes = are_joined string codes; is_short = short; is = is }

-- text of few octets behind its number
pub few_octets : (text string : List ℕ) → length text < 127 → Huff text string → IsHuffmanString ((128 + length text) ∷ text) string
few_octets text string few huffman = record {
  header = (128 + length text) ∷ [];
  text = text;
  is = refl;
  number = record {
    int = inl (record { first = 128 + length text; is = refl; low_bits = omega (arith, few); not_ones = few });
    marked = omega (arith, few);
  };
  huffman = huffman;
}

-- it is chosen where it is shorter than the string
pub few_octets_chosen : (text string : List ℕ) → length text < 127 → length text < length string → Huff text string → IsChosenString true ((128 + length text) ∷ text) string
few_octets_chosen text string few shorter huffman = inr (record {
  is_text = few_octets text string few huffman;
  is_taken = refl;
  shortened = record { text = text; huffman = huffman; shorter = shorter };
})
