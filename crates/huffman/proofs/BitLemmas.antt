-- Numbers and their bits.
use Rattle.std.proofs.Common.{◌≡◌, ℕ, zero, suc, ◌+◌, ◌-◌, ◌*◌, ◌/◌, ◌%◌, ◌^◌, ◌<◌, ◌≤◌, ◌∷◌, ◌++◌, length, refl, ap, sym, ◌∙◌, subst, arith}
use Rattle.std.specs.Prelude.{replicate}
use Rattle.std.proofs.Math.Nat.{pow-succ', mul-add-div_right, div-eq_of_lt, div-div-eq-div-mul, mul-le-mul_right, mod-lt, div-lt_iff_lt-mul}
use Rattle.std.proofs.Math.Pow.{shl_exact}
use Rattle.std.proofs.lemmas.Nat.{pow-add, pow_pos, div-add-mod'}
use Rattle.model.specs.Huffman.{bits}

pub length_bits : (width number : ℕ) → length (bits width number) ≡ width
unfolding bits
length_bits zero number = refl
length_bits (suc width) number = let rest = length_bits width number in omega (arith, rest)

-- higher bits don't matter
pub bits_low : (width high low : ℕ) → bits width (high * 2 ^ width + low) ≡ bits width low
unfolding bits
bits_low zero high low = refl
bits_low (suc width) high low =
    let power : 2 ^ suc width ≡ 2 * 2 ^ width = pow-succ' 2 width in
    let some : 0 < 2 ^ width = pow_pos width in
    let whole : high * 2 ^ suc width + low ≡ (2 * high) * 2 ^ width + low = rw power (omega arith) in
    let quotient : ((2 * high) * 2 ^ width + low) / 2 ^ width ≡ 2 * high + low / 2 ^ width = mul-add-div_right some (2 * high) low in
    let head : ((2 * high) * 2 ^ width + low) / 2 ^ width % 2 ≡ low / 2 ^ width % 2 = rw quotient (omega arith) in
    rw whole (ap (λ h. h ∷ bits width ((2 * high) * 2 ^ width + low)) head ∙ ap (λ t. low / 2 ^ width % 2 ∷ t) (bits_low width (2 * high) low))

pub bits_append : (a b high low : ℕ) → low < 2 ^ b → bits (a + b) (high * 2 ^ b + low) ≡ bits a high ++ bits b low
unfolding bits
bits_append zero b high low less = let none : 0 + b ≡ b = omega arith in rw none (bits_low b high low)
bits_append (suc a) b high low less =
    let far : suc a + b ≡ suc (a + b) = omega arith in
    let some : 0 < 2 ^ b = pow_pos b in
    let quotient : (high * 2 ^ b + low) / 2 ^ b ≡ high = mul-add-div_right some high low ∙ small_part high low (2 ^ b) less in
    let split : (high * 2 ^ b + low) / 2 ^ (a + b) ≡ high / 2 ^ a = ap (λ p. (high * 2 ^ b + low) / p) (ap (λ n. 2 ^ n) (swap a b) ∙ pow-add 2 b a) ∙ sym (div-div-eq-div-mul (high * 2 ^ b + low) (2 ^ b) (2 ^ a)) ∙ ap (λ q. q / 2 ^ a) quotient in
    rw far (ap (λ h. h % 2 ∷ bits (a + b) (high * 2 ^ b + low)) split ∙ ap (λ t. high / 2 ^ a % 2 ∷ t) (bits_append a b high low less))
  where
    add_none : (n : ℕ) → n + 0 ≡ n
    add_none n = omega arith

    small_part : (high low power : ℕ) → low < power → high + low / power ≡ high
    small_part high low power less = ap (λ q. high + q) (div-eq_of_lt less) ∙ add_none high

    swap : (m n : ℕ) → m + n ≡ n + m
    swap m n = omega arith

-- so many low bits and more of them are a number below a power
pub joined_below : (n w m v : ℕ) → n < 2 ^ w → m < 2 ^ v → n * 2 ^ v + m < 2 ^ (w + v)
joined_below n w m v less small =
    let power : 2 ^ (w + v) ≡ 2 ^ w * 2 ^ v = pow-add 2 w v in
    let step : (n + 1) * 2 ^ v ≤ 2 ^ w * 2 ^ v = mul-le-mul_right (2 ^ v) (omega (arith, less)) in
    rw power (omega (arith, step, small))

pub joined : (n w m v : ℕ) → n < 2 ^ w → w < 32 → m < 2 ^ v → v ≤ 30
    → (n * 2 ^ v % 18446744073709551616 + m < 2 ^ (w + v)) × (bits (w + v) (n * 2 ^ v % 18446744073709551616 + m) ≡ bits w n ++ bits v m)
joined n w m v less few small wide =
    let exact : n * 2 ^ v % 18446744073709551616 ≡ n * 2 ^ v = shl_exact w v 64 less (omega arith) in
    rw exact (joined_below n w m v less small, bits_append w v n m small)

-- the highest bits and the others
pub split_at : (n high low : ℕ) → bits (high + low) n ≡ bits high (n / 2 ^ low) ++ bits low (n % 2 ^ low)
split_at n high low =
    let some : 0 < 2 ^ low = pow_pos low in
    let whole : n / 2 ^ low * 2 ^ low + n % 2 ^ low ≡ n = div-add-mod' n (2 ^ low) in
    ap (bits (high + low)) (sym whole) ∙ bits_append high low (n / 2 ^ low) (n % 2 ^ low) (mod-lt n some)

pub split_eight : (n w : ℕ) → bits (w + 8) n ≡ bits 8 (n / 2 ^ w) ++ bits w (n % 2 ^ w)
split_eight n w = ap (λ k. bits k n) (swap w 8) ∙ split_at n 8 w
  where
    swap : (a b : ℕ) → a + b ≡ b + a
    swap a b = omega arith

-- a power, as the code has it
pub one_shifted : (w : ℕ) → w < 64 → 1 * 2 ^ w % 18446744073709551616 ≡ 2 ^ w
one_shifted w few =
    let one : 1 < 2 ^ 1 = omega arith in
    let exact : 1 * 2 ^ w % 18446744073709551616 ≡ 1 * 2 ^ w = shl_exact 1 w 64 one (omega (arith, few)) in
    let single : 1 * 2 ^ w ≡ 2 ^ w = omega arith in
    exact ∙ single

-- the bits behind the first so many
pub behind_is : (n w k rest number : ℕ) → w < 62 → k ≤ w → rest ≡ w - k → number ≡ n % (1 * 2 ^ rest % 18446744073709551616) → (number < 2 ^ rest) × (bits w n ≡ bits k (n / 2 ^ rest) ++ bits rest number)
behind_is n w k rest number few within is_rest is_number =
    let some : 0 < 2 ^ rest = pow_pos rest in
    let low : number ≡ n % 2 ^ rest = is_number ∙ ap (λ p. n % p) (one_shifted rest (omega arith)) in
    let whole : w ≡ k + rest = omega arith in (
      subst (λ m. m < 2 ^ rest) (sym low) (mod-lt n some),
      ap (λ v. bits v n) whole ∙ split_at n k rest ∙ ap (λ m. bits k (n / 2 ^ rest) ++ bits rest m) (sym low),
    )

-- so many bits of a number that are ones alone
pub all_ones : (w n k : ℕ) → n < 2 ^ w → bits w n ≡ replicate k 1 → (k ≡ w) × (n + 1 ≡ 2 ^ w)
unfolding bits
all_ones zero n zero less e = (refl, omega (arith, less))
all_ones zero n (suc k) less e = cc
all_ones (suc w) n zero less e = cc
all_ones (suc w) n (suc k) less e =
    let some : 0 < 2 ^ w = pow_pos w in
    let power : 2 ^ suc w ≡ 2 * 2 ^ w = pow-succ' 2 w in
    let head : n / 2 ^ w % 2 ≡ 1 = cc in
    let tail : bits w n ≡ replicate k 1 = cc in
    let few : n / 2 ^ w < 2 = (div-lt_iff_lt-mul some).1 (subst (λ p. n < p) power less) in
    let one : n / 2 ^ w ≡ 1 = omega (arith, head, few) in
    let whole : n / 2 ^ w * 2 ^ w + n % 2 ^ w ≡ n = div-add-mod' n (2 ^ w) in
    let low : bits w (n % 2 ^ w) ≡ replicate k 1 = sym (bits_low w (n / 2 ^ w) (n % 2 ^ w)) ∙ ap (bits w) whole ∙ tail in
    let rest = all_ones w (n % 2 ^ w) k (mod-lt n some) low in
    let top : n / 2 ^ w * 2 ^ w ≡ 1 * 2 ^ w = ap (λ q. q * 2 ^ w) one in
    (ap suc rest.0, omega (arith, rest.1, power, top, whole))

-- ones
pub ones : (width : ℕ) → width < 9 → bits width (2 ^ width - 1) ≡ replicate width 1
unfolding bits
ones zero h = refl
ones (suc zero) h = refl
ones (suc (suc zero)) h = refl
ones (suc (suc (suc zero))) h = refl
ones (suc (suc (suc (suc zero)))) h = refl
ones (suc (suc (suc (suc (suc zero))))) h = refl
ones (suc (suc (suc (suc (suc (suc zero)))))) h = refl
ones (suc (suc (suc (suc (suc (suc (suc zero))))))) h = refl
ones (suc (suc (suc (suc (suc (suc (suc (suc zero)))))))) h = refl
ones (suc (suc (suc (suc (suc (suc (suc (suc (suc n))))))))) h = absurd (omega arith)

-- bits filled with ones
pub filled : (n w : ℕ) → n < 2 ^ w → w < 8
    → (n * 2 ^ (8 - w) % 18446744073709551616 + 1 * 2 ^ (8 - w) % 18446744073709551616 - 1 < 256)
    × (bits 8 (n * 2 ^ (8 - w) % 18446744073709551616 + 1 * 2 ^ (8 - w) % 18446744073709551616 - 1) ≡ bits w n ++ replicate (8 - w) 1)
filled n w less few =
    let room : ℕ = 8 - w in
    let one : 1 < 2 ^ 1 = omega arith in
    let exact : n * 2 ^ room % 18446744073709551616 ≡ n * 2 ^ room = shl_exact w room 64 less (omega arith) in
    let exact_one : 1 * 2 ^ room % 18446744073709551616 ≡ 1 * 2 ^ room = shl_exact 1 room 64 one (omega arith) in
    let some : 0 < 2 ^ room = pow_pos room in
    let whole : n * 2 ^ room % 18446744073709551616 + 1 * 2 ^ room % 18446744073709551616 - 1 ≡ n * 2 ^ room + (2 ^ room - 1) = rw (exact, exact_one) (omega (arith, some)) in
    let eight : w + room ≡ 8 = omega arith in
    let small : 2 ^ room - 1 < 2 ^ room = omega (arith, some) in
    rw whole (
      subst (λ k. n * 2 ^ room + (2 ^ room - 1) < 2 ^ k) eight (joined_below n w (2 ^ room - 1) room less small),
      ap (λ k. bits k (n * 2 ^ room + (2 ^ room - 1))) (sym eight) ∙ bits_append w room n (2 ^ room - 1) small ∙ ap (λ t. bits w n ++ t) (ones room (omega arith)),
    )
