-- What is left of a declared length says the same as the length and what came.
use Rattle.std.proofs.Common.{◌≡◌, ℕ, ◌+◌, Some, None, true, refl, arith}
use Rattle.std.specs.Prelude.{Option}
use Rattle.std.proofs.lemmas.Bool.Decides.{nat_tests}
use Rattle.model.specs.Malformed.{is_within, has_length}
use Rattle.request_rules.specs.Counts.{left_after}

-- so many octets more may come
pub within_left : (declared : Option ℕ) (count more : ℕ) → is_within declared count ≡ true → is_within (left_after declared count) more ≡ is_within declared (count + more)
within_left None count more e = refl
within_left (Some length) count more e = grind (arith, nat_tests)

-- and make the body whole
pub whole_left : (declared : Option ℕ) (count more : ℕ) → is_within declared count ≡ true → has_length (left_after declared count) more ≡ has_length declared (count + more)
whole_left None count more e = refl
whole_left (Some length) count more e = grind (arith, nat_tests)
