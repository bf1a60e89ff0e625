-- Octets of a string become codes.
use Rattle.std.proofs.Common.{◌≡◌, ℕ, zero, suc, ◌+◌, ◌-◌, ◌*◌, ◌/◌, ◌^◌, ◌<◌, ◌≤◌, List, [], ◌∷◌, ◌++◌, length, take, get_or, refl, ap, sym, ◌∙◌, subst, arith, append_assoc, length-append, Result, Ok, Err, OnErr}
use Rattle.std.specs.Prelude.{replicate}
use Rattle.std.proofs.lemmas.List.{append-nil, length-replicate, take_all}
use Rattle.std.proofs.lemmas.Grind.{flat_map-append}
use Rattle.model.specs.Huffman.{bits, octet_bits, IsCode, AreCodes, Huff}
use Rattle.model.proofs.HuffmanLemmas.{single_code}
use Rattle.huffman.specs.Waiting.{IsPadded, Flushes, pending_bits}
use Rattle.huffman.specs.Encoding.{Encodes, IsWordOf, word_bits}
use Rattle.huffman.specs.Decoding.{Adds}
use Rattle.huffman.specs.declared.pending.Pending.{Pending}
use Rattle.huffman.specs.declared.words.BitWord.{BitWord}
use Rattle.huffman.proofs.BitLemmas.{length_bits}
use Rattle.huffman.proofs.DecodeLemmas.{codes_more}

-- what the loop of the codes keeps
pub record Coding (string : List ℕ) (pending : Pending) (old new : List ℕ) : Type 0 where
  pub octets : List ℕ
  pub coded : List ℕ
  pub added : new ≡ old ++ octets
  pub are_codes : AreCodes coded string
  pub is : coded ≡ octet_bits octets ++ pending_bits pending
  pub number : pending.number < 2 ^ pending.width
  pub few : pending.width < 32

pub coding_none : (pending : Pending) (old : List ℕ) → pending.number ≡ 0 → pending.width ≡ 0 → Coding [] pending old old
unfolding bits
coding_none pending old no_number no_width = record {
  octets = [];
  coded = [];
  added = sym (append-nil old);
  are_codes = refl;
  is = sym (ap (λ w. bits w pending.number) no_width);
  number = rw (no_number, no_width) (omega arith);
  few = omega (arith, no_width);
}

take_more : (string : List ℕ) (i : ℕ) → i < length string → take (i + 1) string ≡ take i string ++ get_or string i 0 ∷ []
take_more [] i h = absurd (omega arith)
take_more (octet ∷ string) zero h = refl
take_more (octet ∷ string) (suc i) h = let far : suc i + 1 ≡ suc (i + 1) = omega arith in rw far (ap (λ t. octet ∷ t) (take_more string i (omega arith)))

pub coding_more : (string : List ℕ) (i : ℕ) (pending all rest : Pending) (word : BitWord) (old mid new : List ℕ) → i < length string → get_or string i 0 < 256 → Coding (take i string) pending old mid
    → IsWordOf (get_or string i 0) word → pending_bits all ≡ pending_bits pending ++ word_bits word → Flushes all rest mid new → rest.width < 32 → Coding (take (i + 1) string) rest old new
coding_more string i pending all rest word old mid new h small c w is f few = record {
  octets = c.octets ++ f.octets;
  coded = c.coded ++ word_bits word;
  added = f.added ∙ ap (λ m. m ++ f.octets) c.added ∙ append_assoc old c.octets f.octets;
  are_codes = subst (AreCodes (c.coded ++ word_bits word)) (sym (take_more string i h)) (codes_more c.coded (take i string) (word_bits word) (get_or string i 0) c.are_codes small w.is_code);
  is =
      ap (λ b. b ++ word_bits word) c.is ∙ append_assoc (octet_bits c.octets) (pending_bits pending) (word_bits word) ∙ ap (λ b. octet_bits c.octets ++ b) (sym is ∙ f.is)
      ∙ sym (append_assoc (octet_bits c.octets) (octet_bits f.octets) (pending_bits rest)) ∙ ap (λ b. b ++ pending_bits rest) (sym (flat_map-append (bits 8) c.octets f.octets));
  number = f.number;
  few = few;
}

-- octets more of the bits that wait
coding_flushed : (string : List ℕ) (pending rest : Pending) (old mid new : List ℕ) → Coding string pending old mid → Flushes pending rest mid new → rest.width < 8 → Coding string rest old new
coding_flushed string pending rest old mid new c f few = record {
  octets = c.octets ++ f.octets;
  coded = c.coded;
  added = f.added ∙ ap (λ m. m ++ f.octets) c.added ∙ append_assoc old c.octets f.octets;
  are_codes = c.are_codes;
  is =
      c.is ∙ ap (λ b. octet_bits c.octets ++ b) f.is ∙ sym (append_assoc (octet_bits c.octets) (octet_bits f.octets) (pending_bits rest))
      ∙ ap (λ b. b ++ pending_bits rest) (sym (flat_map-append (bits 8) c.octets f.octets));
  number = f.number;
  few = omega (arith, few);
}

-- the whole string, once its last octets are there
pub coded_last : (string : List ℕ) (i : ℕ) (pending rest : Pending) (old mid new : List ℕ) → length string ≤ i → Coding (take i string) pending old mid → Flushes pending rest mid new → rest.width < 8 → Coding string rest old new
coded_last string i pending rest old mid new past c f few = coding_flushed string pending rest old mid new (subst (λ s. Coding s pending old mid) (take_all i string past) c) f few

pub coded_whole : (string : List ℕ) (pending : Pending) (old new : List ℕ) → pending.width ≡ 0 → Coding string pending old new → Encodes string old new
unfolding bits
coded_whole string pending old new none c = record {
  text = c.octets;
  added = c.added;
  huffman = record {
    coded = c.coded;
    padding = 0;
    are_codes = c.are_codes;
    is_short = omega arith;
    is = sym (c.is ∙ ap (λ w. octet_bits c.octets ++ bits w pending.number) none ∙ append-nil (octet_bits c.octets)) ∙ sym (append-nil c.coded);
  };
}

pub coded_padded : (string : List ℕ) (pending : Pending) (octet : ℕ) (old new more : List ℕ) → 0 < pending.width → Coding string pending old new → IsPadded pending octet → more ≡ new ++ octet ∷ [] → Encodes string old more
coded_padded string pending octet old new more some c p grows = record {
  text = c.octets ++ octet ∷ [];
  added = grows ∙ ap (λ n. n ++ octet ∷ []) c.added ∙ append_assoc old c.octets (octet ∷ []);
  huffman = record {
    coded = c.coded;
    padding = 8 - pending.width;
    are_codes = c.are_codes;
    is_short = omega (arith, some);
    is =
        flat_map-append (bits 8) c.octets (octet ∷ []) ∙ ap (λ b. octet_bits c.octets ++ b) (append-nil (bits 8 octet) ∙ p.is)
        ∙ sym (append_assoc (octet_bits c.octets) (pending_bits pending) (replicate (8 - pending.width) 1)) ∙ ap (λ b. b ++ replicate (8 - pending.width) 1) (sym c.is);
  };
}

pub coding_adds : (string : List ℕ) (pending : Pending) (old new : List ℕ) → Coding string pending old new → Adds old new
coding_adds string pending old new c = record { string = c.octets; added = c.added }

pub coding_adds_more : (string : List ℕ) (pending : Pending) (old mid new : List ℕ) → Coding string pending old mid → Adds mid new → Adds old new
coding_adds_more string pending old mid new c a = record { string = c.octets ++ a.string; added = a.added ∙ ap (λ m. m ++ a.string) c.added ∙ append_assoc old c.octets a.string }

-- the number of bits of a string
pub record Counting (string : List ℕ) (count : ℕ) : Type 0 where
  pub counts : (coded : List ℕ) → AreCodes coded string → length coded ≡ count

pub counting_none : Counting [] 0
counting_none = record { counts = λ coded p. ap length p }

split_last : (string coded : List ℕ) (octet : ℕ) → AreCodes coded (string ++ octet ∷ []) → (front code : List ℕ) × AreCodes front string × IsCode octet code × (coded ≡ front ++ code)
split_last [] coded octet p = ([], p.0, refl, p.3, p.4 ∙ ap (λ m. p.0 ++ m) p.5 ∙ append-nil p.0)
split_last (first ∷ string) coded octet p =
    let rest = split_last string p.1 octet p.5 in
    (p.0 ++ rest.0, rest.1, (p.0, rest.0, p.2, p.3, refl, rest.2), rest.3, p.4 ∙ ap (λ m. p.0 ++ m) rest.4 ∙ sym (append_assoc p.0 rest.0 rest.1))

pub counting_more : (string : List ℕ) (i count : ℕ) (word : BitWord) → i < length string → Counting (take i string) count → IsWordOf (get_or string i 0) word → Counting (take (i + 1) string) (count + word.width)
counting_more string i count word h c w = record {
  counts = λ coded p.
      let parts = split_last (take i string) coded (get_or string i 0) (subst (AreCodes coded) (take_more string i h) p) in
      let front = c.counts parts.0 parts.2 in
      let same : parts.1 ≡ word_bits word = single_code (get_or string i 0) parts.1 (word_bits word) parts.3 w.is_code in
      let last : length parts.1 ≡ word.width = ap length same ∙ length_bits word.width word.number in
      ap length parts.4 ∙ length-append parts.0 parts.1 ∙ sums (length parts.0) (length parts.1) count word.width front last;
}
  where
    sums : (a b c d : ℕ) → a ≡ c → b ≡ d → a + b ≡ c + d
    sums a b c d e f = omega (arith, e, f)

length_octets : (octets : List ℕ) → length (octet_bits octets) ≡ 8 * length octets
length_octets [] = refl
length_octets (octet ∷ octets) =
    let rest = length_octets octets in
    let here = length_bits 8 octet in
    length-append (bits 8 octet) (octet_bits octets) ∙ omega (arith, rest, here)

pub counted : (string : List ℕ) (count : ℕ) → Counting string count → (text : List ℕ) → Huff text string → length text ≡ (count + 7) / 8
counted string count c text h =
    let total : length (octet_bits text) ≡ length h.coded + length (replicate h.padding 1) = ap length h.is ∙ length-append h.coded (replicate h.padding 1) in
    let octets = length_octets text in
    let coded = c.counts h.coded h.are_codes in
    let padding : length (replicate h.padding 1) ≡ h.padding = length-replicate {A = ℕ} h.padding 1 in
    let short = h.is_short in
    omega (arith, total, octets, coded, padding, short)

pub on_err : {U E : Type 0} (r : Result U E) (P : Type 0) → P → OnErr r P
on_err (Ok done) P p = tt
on_err (Err error) P p = p
