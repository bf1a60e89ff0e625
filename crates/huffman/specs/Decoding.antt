-- What decoding gives.
use Rattle.std.specs.Prelude.{◌≡◌, ℕ, ◌<◌, List, ◌++◌, replicate}
use Rattle.model.specs.Huffman.{octet_bits, IsCode, AreCodes, Huff}
use Rattle.huffman.specs.declared.decoder.HuffFault.{HuffFault}
use Rattle.huffman.specs.declared.decoder.HuffFault.TheVariants.{Eos, Padding, Memory}

-- The string of the text is added at the end.
pub record Decodes (octets old new : List ℕ) : Type 0 where
  pub string : List ℕ
  pub added : new ≡ old ++ string
  pub text : Huff octets string

-- A string is added at the end.
pub record Adds (old new : List ℕ) : Type 0 where
  pub string : List ℕ
  pub added : new ≡ old ++ string

-- Fewer than eight ones.
pub record IsPadding (bits : List ℕ) : Type 0 where
  pub padding : ℕ
  pub is_short : padding < 8
  pub is : bits ≡ replicate padding 1

-- Bits begin with the code of a symbol.
pub record BeginsWith (symbol : ℕ) (bits : List ℕ) : Type 0 where
  pub code : List ℕ
  pub more : List ℕ
  pub is_code : IsCode symbol code
  pub is : bits ≡ code ++ more

-- The longest run of codes of octets that begins the bits, and what is left.
pub record LongestRun (bits string rest : List ℕ) : Type 0 where
  pub coded : List ℕ
  pub are_codes : AreCodes coded string
  pub is : bits ≡ coded ++ rest
  pub ends : (octet : ℕ) → octet < 256 → BeginsWith octet rest → ⊥

-- What is left after the longest run of codes of octets begins with the code that ends a string.
pub record EndsString (bits : List ℕ) : Type 0 where
  pub string : List ℕ
  pub rest : List ℕ
  pub run : LongestRun bits string rest
  pub eos : BeginsWith 256 rest

-- What is left after the longest run of codes of octets neither begins so nor is padding.
pub record IsBadlyPadded (bits : List ℕ) : Type 0 where
  pub string : List ℕ
  pub rest : List ℕ
  pub run : LongestRun bits string rest
  pub no_eos : BeginsWith 256 rest → ⊥
  pub no_padding : IsPadding rest → ⊥

-- what a fault says of octets
abbrev pub IsFaultOf : List ℕ → HuffFault → Type 0
IsFaultOf octets Eos = EndsString (octet_bits octets)
IsFaultOf octets Padding = IsBadlyPadded (octet_bits octets)
IsFaultOf octets Memory = Unit {0}
