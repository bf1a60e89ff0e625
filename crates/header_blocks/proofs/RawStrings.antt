-- Strings that stay raw: one octet has no shorter Huffman text.
use Rattle.std.proofs.Common.{◌≡◌, ℕ, ◌+◌, ◌<◌, true, List, [], ◌∷◌, ◌++◌, length, refl, ap, sym, ◌∙◌, inl, arith, append_assoc}
use Rattle.std.specs.Prelude.{replicate}
use Rattle.model.specs.Huffman.{octet_bits}
use Rattle.model.specs.Blocks.{IsRawString}
use Rattle.model.proofs.HuffmanLemmas.{not_padding}
use Rattle.header_blocks.specs.Chosen.{IsChosenString, IsShortened}

nothing : (text : List ℕ) → length text < 1 → text ≡ []
nothing [] less = refl
nothing (octet ∷ text) less = absurd (omega (arith, less))

one_octet_stays : (octet : ℕ) → IsShortened (octet ∷ []) → ⊥
one_octet_stays octet s =
    let less : length s.text < 1 = s.shorter in
    let none : s.text ≡ [] = nothing s.text less in
    let h = s.huffman in
    let parts = h.are_codes in
    let empty : h.coded ++ replicate h.padding 1 ≡ [] = sym h.is ∙ ap octet_bits none in
    not_padding octet parts.0 (parts.1 ++ replicate h.padding 1) 0 parts.3 (omega arith) (sym (append_assoc parts.0 parts.1 (replicate h.padding 1)) ∙ sym (ap (λ l. l ++ replicate h.padding 1) parts.4) ∙ empty)

-- a string of one octet, raw
pub one_octet : (octet : ℕ) → IsRawString (1 ∷ octet ∷ []) (octet ∷ [])
one_octet octet = record { header = 1 ∷ []; is = refl; number = record { int = inl (record { first = 1; is = refl; low_bits = refl; not_ones = omega arith }); marked = refl } }

pub one_octet_chosen : (octet : ℕ) → IsChosenString true (1 ∷ octet ∷ []) (octet ∷ [])
one_octet_chosen octet = inl (record { is_raw = one_octet octet; not_shorter = λ taken. one_octet_stays octet })
