-- What the highest 38 of 64 bits begin with.
use Rattle.std.proofs.Common.{◌≡◌, ℕ, ◌+◌, ◌-◌, ◌*◌, ◌/◌, ◌^◌, ◌<◌, ◌≤◌, List, [], ◌++◌, length, ap, sym, ◌∙◌, subst, arith, append_assoc, length-append}
use Rattle.std.proofs.Math.Nat.{div-div-eq-div-mul, div-lt_iff_lt-mul, mul-div_cancel, mul_assoc}
use Rattle.std.proofs.lemmas.Nat.{pow-add, pow_pos}
use Rattle.std.proofs.lemmas.List.{append-nil}
use Rattle.model.specs.Huffman.{bits, IsCode}
use Rattle.model.proofs.HuffmanLemmas.{one_code}
use Rattle.huffman.specs.Fronts.{IsFront, IsWholeFront, IsUnended, StandFor}
use Rattle.huffman.specs.Upcoming.{IsAligned}
use Rattle.huffman.specs.declared.codes.Code.{Code}
use Rattle.huffman.specs.declared.codes.Symbol.{Symbol}
use Rattle.huffman.specs.declared.codes.Symbol.TheVariants.{Octet, End}
use Rattle.huffman.specs.declared.upcoming.Upcoming.{Upcoming}
use Rattle.huffman.proofs.BitLemmas.{bits_append, length_bits}
use Rattle.huffman.proofs.UpcomingLemmas.{low_number}

pub window_below : (coming : Upcoming) → IsAligned coming → coming.number / 2 ^ 26 < 2 ^ 38
window_below coming a = (div-lt_iff_lt-mul (pow_pos 26)).1 a.fits

-- the highest of a window are the highest of all
cut_window : (n k : ℕ) → k ≤ 30 → n / 2 ^ 26 / 2 ^ (38 - k) ≡ n / 2 ^ (64 - k)
cut_window n k most =
    let whole : 26 + (38 - k) ≡ 64 - k = omega (arith, most) in
    div-div-eq-div-mul n (2 ^ 26) (2 ^ (38 - k)) ∙ ap (λ p. n / p) (sym (pow-add 2 26 (38 - k)) ∙ ap (λ e. 2 ^ e) whole)

pub front_of_all : (n : ℕ) (code : Code) → IsFront 38 (n / 2 ^ 26) code → IsFront 64 n code
front_of_all n code f = record { some = f.some; most = f.most; stand = subst (λ m. StandFor (bits code.width m) code.symbol) (cut_window n code.width f.most) f.stand }

pub whole_front : (coming : Upcoming) (code : Code) → code.width ≤ coming.width → IsFront 38 (coming.number / 2 ^ 26) code → IsWholeFront coming code
whole_front coming code whole f = record { whole = whole; front = front_of_all coming.number code f }

-- some zeros are left
cut_past : (n w k : ℕ) → w < k → k ≤ 30 → bits k (n * 2 ^ (64 - w) / 2 ^ (64 - k)) ≡ bits w n ++ bits (k - w) 0
cut_past n w k past most =
    let a : ℕ = k - w in
    let c : ℕ = 64 - k in
    let power : 2 ^ (64 - w) ≡ 2 ^ a * 2 ^ c = ap (λ e. 2 ^ e) (parts w k past most) ∙ pow-add 2 a c in
    let left : n * 2 ^ (64 - w) / 2 ^ c ≡ n * 2 ^ a = ap (λ p. n * p / 2 ^ c) power ∙ ap (λ m. m / 2 ^ c) (sym (mul_assoc n (2 ^ a) (2 ^ c))) ∙ mul-div_cancel (n * 2 ^ a) (pow_pos c) in
    let none : n * 2 ^ a ≡ n * 2 ^ a + 0 = omega arith in
    let whole : k ≡ w + a = omega arith in
    ap (bits k) (left ∙ none) ∙ ap (λ v. bits v (n * 2 ^ a + 0)) whole ∙ bits_append w a n 0 (pow_pos a)
  where
    parts : (w k : ℕ) → w < k → k ≤ 30 → 64 - w ≡ (k - w) + (64 - k)
    parts w k past most = omega arith

symbol_code : (text : List ℕ) (symbol : Symbol) → StandFor text symbol → (s : ℕ) × IsCode s text
symbol_code text (Octet octet) p = (octet, p.1)
symbol_code text End p = (256, p)

pub unended : (coming : Upcoming) (code : Code) → IsAligned coming → coming.width < code.width → IsFront 38 (coming.number / 2 ^ 26) code → IsUnended coming
unended coming code a past front = record {
  none = λ symbol b.
      let n : ℕ = low_number coming in
      let w : ℕ = coming.width in
      let k : ℕ = code.width in
      let f = front_of_all coming.number code front in
      let most : k ≤ 30 = f.most in
      let text : List ℕ = bits k (coming.number / 2 ^ (64 - k)) in
      let zeros : List ℕ = bits (k - w) 0 in
      let filled : text ≡ b.code ++ (b.more ++ zeros) =
      ap (λ m. bits k (m / 2 ^ (64 - k))) a.zeros ∙ cut_past n w k past most ∙ ap (λ t. t ++ zeros) b.is ∙ append_assoc b.code b.more zeros in
      let stands = symbol_code text code.symbol f.stand in
      let same = one_code symbol stands.0 b.code text (b.more ++ zeros) [] b.is_code stands.1 (sym filled ∙ sym (append-nil text)) in
      let long : length b.code ≡ k = ap length same.1 ∙ length_bits k (coming.number / 2 ^ (64 - k)) in
      let short : w ≡ length b.code + length b.more = sym (length_bits w n) ∙ ap length b.is ∙ length-append b.code b.more in
      omega (arith, long, short);
  few = let most = front.most in omega arith;
}
