-- Texts read by their octets.
use Rattle.std.proofs.Common.{◌≡◌, ℕ, ◌-◌, ◌<◌, Bool, true, false, List, [], ◌∷◌, length, reverse, get_or, refl, ap, ◌∙◌, arith}
use Rattle.std.specs.Prelude.{◌==◌}
use Rattle.std.specs.List.{list_all}
use Rattle.std.proofs.lemmas.List.{get_or-reverse, length-reverse}
use Rattle.std.proofs.lemmas.Bool.{eqb-true, eqb-false}
use Rattle.model.specs.Octets.{some_of, is_space, begins_with_space, ends_with_space}

pub some_from_all : (test : ℕ → Bool) (text : List ℕ) → (length text == 0) ≡ false → list_all test text ≡ some_of test text
some_from_all test [] e = absurd (eqb-false 0 0 e refl)
some_from_all test (octet ∷ octets) e = refl

pub some_of_none : (test : ℕ → Bool) (text : List ℕ) → (length text == 0) ≡ true → some_of test text ≡ false
some_of_none test [] e = refl
some_of_none test (octet ∷ octets) e = let zero : length (octet ∷ octets) ≡ 0 = eqb-true (length (octet ∷ octets)) 0 e in absurd (omega arith)

begins_at_first : (text : List ℕ) → 0 < length text → begins_with_space text ≡ is_space (get_or text 0 0)
begins_at_first [] p = absurd (omega arith)
begins_at_first (octet ∷ octets) p = refl

pub ends_at_last : (text : List ℕ) → 0 < length text → ends_with_space text ≡ is_space (get_or text (length text - 1) 0)
ends_at_last text p =
    let turned : 0 < length (reverse text) = rw (length-reverse text) p in
    begins_at_first (reverse text) turned ∙ ap is_space (get_or-reverse text 0 0 p ∙ ap (λ (k : ℕ). get_or text k 0) (omega arith))
