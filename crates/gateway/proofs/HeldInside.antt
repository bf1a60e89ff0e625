-- What is counted of numbers in a gateway adds nothing.
use Rattle.std.proofs.Common.{◌≡◌, ◌+◌, ℕ, arith}

pub none_more : (routes held : ℕ) → 0 + routes + held ≡ routes + held
none_more routes held = omega arith
