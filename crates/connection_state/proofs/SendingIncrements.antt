-- The increment that a WINDOW_UPDATE is written with is the one that it is read with.
use Rattle.std.proofs.Common.{◌≡◌, ℕ, ◌+◌, ◌*◌, ◌/◌, ◌%◌, ◌<◌, arith}
use Rattle.model.specs.Frames.{spell_number}
use Rattle.model.specs.WindowsOnTape.{increment}
use Rattle.connection_state.specs.Judgement.{update}

-- a number of 31 bits is put together again from its octets
joined : (n : ℕ) → n < 2147483648 → (16777216 * (n / 16777216) + 65536 * ((n / 65536) % 256) + 256 * ((n / 256) % 256) + n % 256) % 2147483648 ≡ n
joined n small = omega (arith, small)

pub told : (flags id count : ℕ) → count < 2147483648 → increment (update flags id (spell_number count)) ≡ count
told flags id count small = joined count small
