-- Codes are taken off the front of bits.
use Rattle.std.specs.Prelude.{◌≡◌, ℕ, ◌<◌, List, ◌++◌, length}
use Rattle.model.specs.Huffman.{octet_bits, AreCodes}
use Rattle.huffman.specs.Decoding.{EndsString}
use Rattle.huffman.specs.Upcoming.{IsAligned, upcoming_bits}
use Rattle.huffman.specs.declared.decoder.HuffFault.{HuffFault}
use Rattle.huffman.specs.declared.decoder.HuffFault.TheVariants.{Eos, Padding, Memory}
use Rattle.huffman.specs.declared.upcoming.Upcoming.{Upcoming}

-- The octets are added whose codes begin the bits, and the rest waits.
pub record Takes (all rest : Upcoming) (old new : List ℕ) : Type 0 where
  pub string : List ℕ
  pub coded : List ℕ
  pub added : new ≡ old ++ string
  pub are_codes : AreCodes coded string
  pub is : upcoming_bits all ≡ coded ++ upcoming_bits rest
  pub aligned : IsAligned rest

-- The bits of the next octets, one or more, come to those that wait, and the other octets are left.
pub record Joins (coming : Upcoming) (octets : List ℕ) (all : Upcoming) (more : List ℕ) : Type 0 where
  pub taken : List ℕ
  pub some : length more < length octets
  pub split : octets ≡ taken ++ more
  pub bits : upcoming_bits all ≡ upcoming_bits coming ++ octet_bits taken
  pub aligned : IsAligned all

-- what a fault says of the bits
abbrev pub IsFaultIn : List ℕ → HuffFault → Type 0
IsFaultIn bits Eos = EndsString bits
IsFaultIn bits Padding = ⊥
IsFaultIn bits Memory = Unit {0}

-- A string is added before a fault.
pub record Stops (all : Upcoming) (old new : List ℕ) (fault : HuffFault) : Type 0 where
  pub string : List ℕ
  pub added : new ≡ old ++ string
  pub stands : IsFaultIn (upcoming_bits all) fault
