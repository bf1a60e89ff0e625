-- Octets come to the bits that wait, and codes leave them.
use Rattle.std.proofs.Common.{◌≡◌, ℕ, ◌+◌, ◌-◌, ◌*◌, ◌/◌, ◌%◌, ◌^◌, ◌<◌, ◌≤◌, List, [], ◌∷◌, ◌++◌, ap, sym, ◌∙◌, subst, arith, append_assoc}
use Rattle.std.proofs.Math.Nat.{div-div-eq-div-mul, div-lt_iff_lt-mul, mod-lt, mul-div_cancel, mul_assoc}
use Rattle.std.proofs.Math.Pow.{shl_exact}
use Rattle.std.proofs.lemmas.Nat.{div-add-mod', mod-mul-add, pow-add, pow_pos}
use Rattle.std.proofs.lemmas.List.{append-nil}
use Rattle.model.specs.Huffman.{bits, octet_bits}
use Rattle.huffman.specs.Upcoming.{IsAligned, upcoming_bits}
use Rattle.huffman.specs.declared.upcoming.Upcoming.{Upcoming}
use Rattle.huffman.proofs.BitLemmas.{bits_append, joined_below, split_at}

-- the number of the bits, brought down
abbrev pub low_number : Upcoming → ℕ
low_number coming = coming.number / 2 ^ (64 - coming.width)

-- a number of so many bits, brought up, stays below the 64th power
pub raised_below : (number width : ℕ) → number < 2 ^ width → width ≤ 64 → number * 2 ^ (64 - width) < 18446744073709551616
raised_below number width less few =
    let whole : width + (64 - width) ≡ 64 = omega (arith, few) in
    let below : number * 2 ^ (64 - width) + 0 < 2 ^ (width + (64 - width)) = joined_below number width 0 (64 - width) less (pow_pos (64 - width)) in
    let same : number * 2 ^ (64 - width) + 0 ≡ number * 2 ^ (64 - width) = omega arith in
    subst (λ e. number * 2 ^ (64 - width) < 2 ^ e) whole (subst (λ m. m < 2 ^ (width + (64 - width))) same below)

-- a number brought up to the high end of 64 bits
pub is_raised : (coming : Upcoming) (number width : ℕ) → number < 2 ^ width → width ≤ 64 → coming.number ≡ number * 2 ^ (64 - width) → coming.width ≡ width → (low_number coming ≡ number) × IsAligned coming
is_raised coming number width less few raised same =
    let down : low_number coming ≡ number = ap (λ w. coming.number / 2 ^ (64 - w)) same ∙ ap (λ n. n / 2 ^ (64 - width)) raised ∙ mul-div_cancel number (pow_pos (64 - width)) in
    let zeros : coming.number ≡ low_number coming * 2 ^ (64 - coming.width) = raised ∙ ap (λ n. n * 2 ^ (64 - width)) (sym down) ∙ ap (λ w. low_number coming * 2 ^ (64 - w)) (sym same) in (
      down,
      record {
        fits = subst (λ n. n < 18446744073709551616) (sym raised) (raised_below number width less few);
        few = omega (arith, few, same);
        zeros = zeros;
      },
    )

pub low_below : (coming : Upcoming) → IsAligned coming → low_number coming < 2 ^ coming.width
low_below coming a =
    let w : ℕ = coming.width in
    let few : w ≤ 64 = a.few in
    let whole : w + (64 - w) ≡ 64 = omega (arith, few) in
    let power : 2 ^ w * 2 ^ (64 - w) ≡ 18446744073709551616 = sym (pow-add 2 w (64 - w)) ∙ ap (λ e. 2 ^ e) whole in
    (div-lt_iff_lt-mul (pow_pos (64 - w))).1 (subst (λ p. coming.number < p) (sym power) a.fits)

octet_raised : (coming : Upcoming) (octet : ℕ) → IsAligned coming → coming.width ≤ 56 → coming.number + octet * 2 ^ (56 - coming.width) ≡ (low_number coming * 256 + octet) * 2 ^ (64 - (coming.width + 8))
octet_raised coming octet a few =
    let low : ℕ = 56 - coming.width in
    let high : 64 - coming.width ≡ 8 + low = omega arith in
    let rest : 64 - (coming.width + 8) ≡ low = omega arith in
    let power : 2 ^ (64 - coming.width) ≡ 256 * 2 ^ low = ap (λ e. 2 ^ e) high ∙ pow-add 2 8 low in
    let number : coming.number ≡ low_number coming * (256 * 2 ^ low) = a.zeros ∙ ap (λ p. low_number coming * p) power in
    let sum : low_number coming * (256 * 2 ^ low) + octet * 2 ^ low ≡ (low_number coming * 256 + octet) * 2 ^ low = omega arith in
    ap (λ n. n + octet * 2 ^ low) number ∙ sum ∙ ap (λ e. (low_number coming * 256 + octet) * 2 ^ e) (sym rest)

octet_below : (coming : Upcoming) (octet : ℕ) → IsAligned coming → octet < 256 → low_number coming * 256 + octet < 2 ^ (coming.width + 8)
octet_below coming octet a small = joined_below (low_number coming) coming.width octet 8 (low_below coming a) small

pub octet_fits : (coming : Upcoming) (octet : ℕ) → IsAligned coming → coming.width ≤ 56 → octet < 256 → coming.number + octet * 2 ^ (56 - coming.width) < 18446744073709551616
octet_fits coming octet a few small =
    let less = raised_below (low_number coming * 256 + octet) (coming.width + 8) (octet_below coming octet a small) (omega (arith, few)) in
    subst (λ n. n < 18446744073709551616) (sym (octet_raised coming octet a few)) less

pub octet_joins : (coming next : Upcoming) (octet : ℕ) → IsAligned coming → coming.width ≤ 56 → octet < 256 → next.number ≡ coming.number + octet * 2 ^ (56 - coming.width) → next.width ≡ coming.width + 8
    → IsAligned next × (upcoming_bits next ≡ upcoming_bits coming ++ bits 8 octet)
octet_joins coming next octet a few small number width =
    let raised = is_raised next (low_number coming * 256 + octet) (coming.width + 8) (octet_below coming octet a small) (omega (arith, few)) (number ∙ octet_raised coming octet a few) width in
    (raised.1, ap (λ w. bits w (low_number next)) width ∙ ap (bits (coming.width + 8)) raised.0 ∙ bits_append coming.width 8 (low_number coming) octet small)

-- ---- four octets at once

-- the number of four octets
abbrev pub four_number : ℕ → ℕ → ℕ → ℕ → ℕ
four_number a b c d = ((a * 256 + b) * 256 + c) * 256 + d

four_bits : (a b c d : ℕ) → a < 256 → b < 256 → c < 256 → d < 256 → bits 32 (four_number a b c d) ≡ octet_bits (a ∷ b ∷ c ∷ d ∷ [])
four_bits a b c d sa sb sc sd =
    bits_append 24 8 ((a * 256 + b) * 256 + c) d sd
    ∙ ap (λ t. t ++ bits 8 d) (bits_append 16 8 (a * 256 + b) c sc ∙ ap (λ t. t ++ bits 8 c) (bits_append 8 8 a b sb))
    ∙ joined (bits 8 a) (bits 8 b) (bits 8 c) (bits 8 d)
  where
    joined : (p q r s : List ℕ) → ((p ++ q) ++ r) ++ s ≡ p ++ (q ++ (r ++ (s ++ [])))
    joined p q r s = simp (append_assoc, append-nil)

word_raised : (coming : Upcoming) (word : ℕ) → IsAligned coming → coming.width ≤ 32 → coming.number + word * 2 ^ (32 - coming.width) ≡ (low_number coming * 4294967296 + word) * 2 ^ (64 - (coming.width + 32))
word_raised coming word a few =
    let low : ℕ = 32 - coming.width in
    let high : 64 - coming.width ≡ 32 + low = omega arith in
    let rest : 64 - (coming.width + 32) ≡ low = omega arith in
    let power : 2 ^ (64 - coming.width) ≡ 4294967296 * 2 ^ low = ap (λ e. 2 ^ e) high ∙ pow-add 2 32 low in
    let number : coming.number ≡ low_number coming * (4294967296 * 2 ^ low) = a.zeros ∙ ap (λ p. low_number coming * p) power in
    let sum : low_number coming * (4294967296 * 2 ^ low) + word * 2 ^ low ≡ (low_number coming * 4294967296 + word) * 2 ^ low = omega arith in
    ap (λ n. n + word * 2 ^ low) number ∙ sum ∙ ap (λ e. (low_number coming * 4294967296 + word) * 2 ^ e) (sym rest)

word_below : (coming : Upcoming) (word : ℕ) → IsAligned coming → word < 4294967296 → low_number coming * 4294967296 + word < 2 ^ (coming.width + 32)
word_below coming word a small = joined_below (low_number coming) coming.width word 32 (low_below coming a) small

pub word_fits : (coming : Upcoming) (word : ℕ) → IsAligned coming → coming.width ≤ 32 → word < 4294967296 → coming.number + word * 2 ^ (32 - coming.width) < 18446744073709551616
word_fits coming word a few small =
    let less = raised_below (low_number coming * 4294967296 + word) (coming.width + 32) (word_below coming word a small) (omega (arith, few)) in
    subst (λ n. n < 18446744073709551616) (sym (word_raised coming word a few)) less

pub four_join : (coming next : Upcoming) (a b c d : ℕ) → IsAligned coming → coming.width ≤ 32 → a < 256 → b < 256 → c < 256 → d < 256
    → next.number ≡ coming.number + four_number a b c d * 2 ^ (32 - coming.width) → next.width ≡ coming.width + 32
    → IsAligned next × (upcoming_bits next ≡ upcoming_bits coming ++ octet_bits (a ∷ b ∷ c ∷ d ∷ []))
four_join coming next a b c d al few sa sb sc sd number width =
    let word : ℕ = four_number a b c d in
    let small : word < 4294967296 = omega (arith, sa, sb, sc, sd) in
    let raised = is_raised next (low_number coming * 4294967296 + word) (coming.width + 32) (word_below coming word al small) (omega (arith, few)) (number ∙ word_raised coming word al few) width in (
      raised.1,
      ap (λ w. bits w (low_number next)) width ∙ ap (bits (coming.width + 32)) raised.0 ∙ bits_append coming.width 32 (low_number coming) word small
          ∙ ap (λ t. upcoming_bits coming ++ t) (four_bits a b c d sa sb sc sd),
    )

-- a number of four octets brought up behind the bits is as the code has it
pub word_shifted : (word width : ℕ) → word < 4294967296 → width ≤ 32 → word * 2 ^ (32 - width) % 18446744073709551616 ≡ word * 2 ^ (32 - width)
word_shifted word width small few = shl_exact 32 (32 - width) 64 small (omega arith)

-- the bits behind the first so many
abbrev pub bits_past : Upcoming → ℕ → List ℕ
bits_past coming k = bits (coming.width - k) (low_number coming % 2 ^ (coming.width - k))

pub past_front : (coming : Upcoming) (k : ℕ) → IsAligned coming → k ≤ coming.width → upcoming_bits coming ≡ bits k (coming.number / 2 ^ (64 - k)) ++ bits_past coming k
past_front coming k a within =
    let few : coming.width ≤ 64 = a.few in
    let v : ℕ = coming.width - k in
    let n : ℕ = low_number coming in
    let whole : coming.width ≡ k + v = omega (arith, within) in
    let down : (64 - coming.width) + v ≡ 64 - k = omega (arith, within, few) in
    let front : n / 2 ^ v ≡ coming.number / 2 ^ (64 - k) = div-div-eq-div-mul coming.number (2 ^ (64 - coming.width)) (2 ^ v) ∙ ap (λ p. coming.number / p) (sym (pow-add 2 (64 - coming.width) v) ∙ ap (λ e. 2 ^ e) down) in
    ap (λ e. bits e n) whole ∙ split_at n k v ∙ ap (λ m. bits k m ++ bits v (n % 2 ^ v)) front

pub is_past : (coming next : Upcoming) (k : ℕ) → IsAligned coming → k ≤ coming.width → next.number ≡ coming.number * 2 ^ k % 18446744073709551616 → next.width ≡ coming.width - k
    → IsAligned next × (upcoming_bits coming ≡ bits k (coming.number / 2 ^ (64 - k)) ++ upcoming_bits next)
is_past coming next k a within number width =
    let few : coming.width ≤ 64 = a.few in
    let w : ℕ = coming.width in
    let v : ℕ = coming.width - k in
    let n : ℕ = low_number coming in
    let up : (64 - w) + k ≡ 64 - v = omega (arith, within, few) in
    let all : v + (64 - v) ≡ 64 = omega (arith, few) in
    let power : 2 ^ v * 2 ^ (64 - v) ≡ 18446744073709551616 = sym (pow-add 2 v (64 - v)) ∙ ap (λ e. 2 ^ e) all in
    let some : 0 < 2 ^ v = pow_pos v in
    let parts : n / 2 ^ v * 2 ^ v + n % 2 ^ v ≡ n = div-add-mod' n (2 ^ v) in
    let shifted : coming.number * 2 ^ k ≡ n * 2 ^ (64 - v) = ap (λ m. m * 2 ^ k) a.zeros ∙ mul_assoc n (2 ^ (64 - w)) (2 ^ k) ∙ ap (λ p. n * p) (sym (pow-add 2 (64 - w) k) ∙ ap (λ e. 2 ^ e) up) in
    let spread : (n / 2 ^ v * 2 ^ v + n % 2 ^ v) * 2 ^ (64 - v) ≡ n / 2 ^ v * (2 ^ v * 2 ^ (64 - v)) + n % 2 ^ v * 2 ^ (64 - v) = omega arith in
    let low : n % 2 ^ v * 2 ^ (64 - v) < 18446744073709551616 = raised_below (n % 2 ^ v) v (mod-lt n some) (omega (arith, few)) in
    let sum : coming.number * 2 ^ k ≡ n / 2 ^ v * 18446744073709551616 + n % 2 ^ v * 2 ^ (64 - v) = shifted ∙ ap (λ m. m * 2 ^ (64 - v)) (sym parts) ∙ spread ∙ ap (λ p. n / 2 ^ v * p + n % 2 ^ v * 2 ^ (64 - v)) power in
    let is_number : next.number ≡ n % 2 ^ v * 2 ^ (64 - v) = number ∙ ap (λ m. m % 18446744073709551616) sum ∙ mod-mul-add (n / 2 ^ v) 18446744073709551616 (n % 2 ^ v * 2 ^ (64 - v)) low in
    let raised = is_raised next (n % 2 ^ v) v (mod-lt n some) (omega (arith, few)) is_number width in
    let last : bits v (n % 2 ^ v) ≡ upcoming_bits next = ap (bits v) (sym raised.0) ∙ ap (λ e. bits e (low_number next)) (sym width) in
    (raised.1, past_front coming k a within ∙ ap (λ t. bits k (coming.number / 2 ^ (64 - k)) ++ t) last)

-- an octet brought up behind the bits is as the code has it
pub octet_shifted : (octet width : ℕ) → octet < 256 → width ≤ 56 → octet * 2 ^ (56 - width) % 18446744073709551616 ≡ octet * 2 ^ (56 - width)
octet_shifted octet width small few = shl_exact 8 (56 - width) 64 small (omega arith)
