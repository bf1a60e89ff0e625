-- Whole octets leave the bits that wait.
use Rattle.std.proofs.Common.{◌≡◌, ℕ, zero, suc, ◌+◌, ◌-◌, ◌*◌, ◌/◌, ◌%◌, ◌^◌, ◌<◌, ◌≤◌, List, [], ◌∷◌, ◌++◌, refl, ap, sym, ◌∙◌, subst, arith, append_assoc}
use Rattle.std.specs.Int.{byte_at, bytes_high_first}
use Rattle.std.proofs.Math.Nat.{div-lt_iff_lt-mul, pow-succ'}
use Rattle.std.proofs.lemmas.Nat.{pow_pos, pow-add, div-add-mod'}
use Rattle.std.proofs.lemmas.List.{append-nil}
use Rattle.std.proofs.lemmas.Grind.{flat_map-append}
use Rattle.model.specs.Huffman.{bits, octet_bits}
use Rattle.huffman.specs.Waiting.{Flushes, pending_bits}
use Rattle.huffman.specs.Decoding.{Adds}
use Rattle.huffman.specs.declared.pending.Pending.{Pending}
use Rattle.huffman.proofs.BitLemmas.{bits_low, split_at}

-- what the loop of the octets keeps
pub record Flushing (all : Pending) (number width : ℕ) (old new : List ℕ) : Type 0 where
  pub octets : List ℕ
  pub added : new ≡ old ++ octets
  pub is : pending_bits all ≡ octet_bits octets ++ bits width number
  pub below : number < 2 ^ width
  pub few : width < 32

pub start : (all : Pending) (old : List ℕ) → all.number < 2 ^ all.width → all.width < 32 → Flushing all all.number all.width old old
start all old below few = record { octets = []; added = sym (append-nil old); is = refl; below = below; few = few }

pub one_octet : (all rest next : Pending) (octet : ℕ) (old new more : List ℕ) → 8 ≤ rest.width → Flushing all rest.number rest.width old new → octet ≡ rest.number / 2 ^ (rest.width - 8) → next.width + 8 ≡ rest.width
    → pending_bits rest ≡ bits 8 (rest.number / 2 ^ next.width) ++ pending_bits next → next.number < 2 ^ next.width → more ≡ new ++ octet ∷ [] → Flushing all next.number next.width old more
one_octet all rest next octet old new more eight f is_octet widths split below grows =
    let few = f.few in
    let w : rest.width - 8 ≡ next.width = omega arith in
    let first : rest.number / 2 ^ next.width ≡ octet = sym (is_octet ∙ ap (λ k. rest.number / 2 ^ k) w) in
    let whole : pending_bits rest ≡ bits 8 octet ++ pending_bits next = split ∙ ap (λ o. bits 8 o ++ pending_bits next) first in
    record {
      octets = f.octets ++ octet ∷ [];
      added = grows ∙ ap (λ n. n ++ octet ∷ []) f.added ∙ append_assoc old f.octets (octet ∷ []);
      is = f.is ∙ ap (λ b. octet_bits f.octets ++ b) whole ∙ sym (append_assoc (octet_bits f.octets) (bits 8 octet) (pending_bits next))
          ∙ ap (λ b. (octet_bits f.octets ++ b) ++ pending_bits next) (sym (append-nil (bits 8 octet))) ∙ ap (λ b. b ++ pending_bits next) (sym (flat_map-append (bits 8) f.octets (octet ∷ [])));
      below = below;
      few = omega (arith, few);
    }

pub flushed : (all rest : Pending) (old new : List ℕ) → Flushing all rest.number rest.width old new → Flushes all rest old new
flushed all rest old new f = record { octets = f.octets; added = f.added; is = f.is; number = f.below }

pub flush_adds : (all : Pending) (number width : ℕ) (old new : List ℕ) → Flushing all number width old new → Adds old new
flush_adds all number width old new f = record { string = f.octets; added = f.added }

-- the highest eight bits are an octet
pub octet_fits : (number width : ℕ) → 8 ≤ width → number < 2 ^ width → number / 2 ^ (width - 8) < 256
octet_fits number width eight below =
    let w : ℕ = width - 8 in
    let some : 0 < 2 ^ w = pow_pos w in
    let whole : 8 + w ≡ width = omega arith in
    let power : 2 ^ width ≡ 256 * 2 ^ w = ap (λ k. 2 ^ k) (sym whole) ∙ pow-add 2 8 w in
    let less : number < 256 * 2 ^ w = subst (λ p. number < p) power below in
    (div-lt_iff_lt-mul some).1 less

-- ---- four octets at once

powers : (count : ℕ) → 2 ^ (8 * count) ≡ 256 ^ count
powers zero = refl
powers (suc count) =
    let whole : 8 * suc count ≡ 8 + 8 * count = omega arith in
    ap (λ e. 2 ^ e) whole ∙ pow-add 2 8 (8 * count) ∙ ap (λ p. 256 * p) (powers count) ∙ sym (pow-succ' 256 count)

low_octet : (n : ℕ) → bits 8 n ≡ bits 8 (n % 256)
low_octet n = ap (bits 8) (sym (div-add-mod' n 256)) ∙ bits_low 8 (n / 256) (n % 256)

high_octet : (count n : ℕ) → bits 8 (n / 2 ^ (8 * count)) ≡ bits 8 (byte_at count n)
high_octet zero n =
    let whole : n / 1 ≡ n = omega arith in
    ap (bits 8) whole ∙ low_octet n
high_octet (suc count) n = low_octet (n / 2 ^ (8 * suc count)) ∙ ap (λ p. bits 8 (n / p % 256)) (powers (suc count))

-- the bits of a number are those of its octets, the highest first
bits_of_octets : (count n : ℕ) → bits (8 * count) n ≡ octet_bits (bytes_high_first count n)
unfolding bits
bits_of_octets zero n = refl
bits_of_octets (suc count) n =
    let low : ℕ = 8 * count in
    let whole : 8 * suc count ≡ 8 + low = omega arith in
    let same : bits low (n % 2 ^ low) ≡ bits low n = sym (bits_low low (n / 2 ^ low) (n % 2 ^ low)) ∙ ap (bits low) (div-add-mod' n (2 ^ low)) in
    ap (λ w. bits w n) whole ∙ split_at n 8 low ∙ ap (λ b. bits 8 (n / 2 ^ low) ++ b) (same ∙ bits_of_octets count n) ∙ ap (λ b. b ++ octet_bits (bytes_high_first count n)) (high_octet count n)

pub four_flushed : (all rest : Pending) (octets old new : List ℕ) → octets ≡ bytes_high_first 4 (all.number / 2 ^ rest.width) → pending_bits all ≡ bits 32 (all.number / 2 ^ rest.width) ++ pending_bits rest → rest.number < 2 ^ rest.width → new ≡ old ++ octets
    → Flushes all rest old new
four_flushed all rest octets old new are is less added = record {
  octets = octets;
  added = added;
  is = is ∙ ap (λ b. b ++ pending_bits rest) (bits_of_octets 4 (all.number / 2 ^ rest.width) ∙ ap octet_bits (sym are));
  number = less;
}

-- the first 32 bits are a number of 32 bits
pub four_fit : (number width rest : ℕ) → number < 2 ^ width → rest + 32 ≡ width → number / 2 ^ rest < 4294967296
four_fit number width rest below whole =
    let some : 0 < 2 ^ rest = pow_pos rest in
    let power : 2 ^ width ≡ 4294967296 * 2 ^ rest = ap (λ k. 2 ^ k) (sym whole ∙ swap rest 32) ∙ pow-add 2 32 rest in
    let less : number < 4294967296 * 2 ^ rest = subst (λ p. number < p) power below in
    (div-lt_iff_lt-mul some).1 less
  where
    swap : (a b : ℕ) → a + b ≡ b + a
    swap a b = omega arith
