-- Bits at the high end of a number.
use Rattle.std.specs.Prelude.{◌≡◌, ℕ, ◌-◌, ◌*◌, ◌/◌, ◌^◌, ◌<◌, ◌≤◌, List}
use Rattle.model.specs.Huffman.{bits}
use Rattle.huffman.specs.declared.upcoming.Upcoming.{Upcoming}

-- the bits that wait
abbrev pub upcoming_bits : Upcoming → List ℕ
upcoming_bits coming = bits coming.width (coming.number / 2 ^ (64 - coming.width))

-- A number of 64 bits has zeros below the bits that wait.
pub record IsAligned (coming : Upcoming) : Type 0 where
  pub fits : coming.number < 2 ^ 64
  pub few : coming.width ≤ 64
  pub zeros : coming.number ≡ coming.number / 2 ^ (64 - coming.width) * 2 ^ (64 - coming.width)
