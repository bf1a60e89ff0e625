-- The code at the front of bits.
use Rattle.std.specs.Prelude.{ℕ, ◌-◌, ◌/◌, ◌^◌, ◌<◌, ◌≤◌, List, Option, Some, None}
use Rattle.model.specs.Huffman.{bits, IsCode}
use Rattle.huffman.specs.Decoding.{BeginsWith}
use Rattle.huffman.specs.Upcoming.{upcoming_bits}
use Rattle.huffman.specs.declared.codes.Code.{Code}
use Rattle.huffman.specs.declared.codes.Symbol.{Symbol}
use Rattle.huffman.specs.declared.codes.Symbol.TheVariants.{Octet, End}
use Rattle.huffman.specs.declared.upcoming.Upcoming.{Upcoming}

-- The bits are the code of the symbol.
abbrev pub StandFor : List ℕ → Symbol → Type 0
StandFor bits (Octet octet) = (octet < 256) × IsCode octet bits
StandFor bits End = IsCode 256 bits

-- The first bits of a number, where it has so many in all, are the code.
pub record IsFront (width number : ℕ) (code : Code) : Type 0 where
  pub some : 0 < code.width
  pub most : code.width ≤ 30
  pub stand : StandFor (bits code.width (number / 2 ^ (width - code.width))) code.symbol

-- The bits that wait begin with the whole code.
pub record IsWholeFront (waiting : Upcoming) (code : Code) : Type 0 where
  pub whole : code.width ≤ waiting.width
  pub front : IsFront 64 waiting.number code

-- The bits begin with no code.
abbrev pub BeginWithNone : List ℕ → Type 0
BeginWithNone bits = (symbol : ℕ) → BeginsWith symbol bits → ⊥

-- The bits that wait begin with no code, and the longest has 30.
pub record IsUnended (waiting : Upcoming) : Type 0 where
  pub none : BeginWithNone (upcoming_bits waiting)
  pub few : waiting.width < 30

-- what an octet at a place of the code is, and behind the octets the end
abbrev pub symbol_of : Option ℕ → Symbol
symbol_of (Some octet) = Octet octet
symbol_of None = End
