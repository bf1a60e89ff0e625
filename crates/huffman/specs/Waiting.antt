-- Bits that wait for a whole octet.
use Rattle.std.specs.Prelude.{◌≡◌, ℕ, ◌-◌, ◌^◌, ◌<◌, List, ◌++◌, replicate}
use Rattle.model.specs.Huffman.{bits, octet_bits}
use Rattle.huffman.specs.declared.pending.Pending.{Pending}

-- the bits that wait
abbrev pub pending_bits : Pending → List ℕ
pending_bits pending = bits pending.width pending.number

-- Fewer than eight bits wait.
pub record IsPending (pending : Pending) : Type 0 where
  pub number : pending.number < 2 ^ pending.width
  pub few : pending.width < 8

-- Octets of the first bits are added, and the rest waits.
pub record Flushes (all rest : Pending) (old new : List ℕ) : Type 0 where
  pub octets : List ℕ
  pub added : new ≡ old ++ octets
  pub is : pending_bits all ≡ octet_bits octets ++ pending_bits rest
  pub number : rest.number < 2 ^ rest.width

-- The octet is the bits that wait, and ones behind them.
pub record IsPadded (pending : Pending) (octet : ℕ) : Type 0 where
  pub is : bits 8 octet ≡ pending_bits pending ++ replicate (8 - pending.width) 1
