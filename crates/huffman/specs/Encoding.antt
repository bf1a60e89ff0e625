-- What encoding gives.
use Rattle.std.specs.Prelude.{◌≡◌, ℕ, ◌^◌, ◌<◌, ◌≤◌, List, ◌++◌}
use Rattle.model.specs.Huffman.{bits, IsCode, Huff}
use Rattle.huffman.specs.declared.words.BitWord.{BitWord}

-- Huffman text of the string is added at the end.
pub record Encodes (string old new : List ℕ) : Type 0 where
  pub text : List ℕ
  pub added : new ≡ old ++ text
  pub huffman : Huff text string

-- the bits of a word
abbrev pub word_bits : BitWord → List ℕ
word_bits word = bits word.width word.number

-- The word is the code of the octet.
pub record IsWordOf (octet : ℕ) (word : BitWord) : Type 0 where
  pub is_code : IsCode octet (word_bits word)
  pub number : word.number < 2 ^ word.width
  pub wide : word.width ≤ 30
