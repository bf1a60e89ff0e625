-- Texts read by their octets.
use Rattle.std.proofs.Common.{zero, suc, ◌≡◌, ℕ, ◌+◌, ◌<◌, Bool, true, List, [], ◌∷◌, ◌++◌, length, take, drop, get_or, refl, ap, ◌∙◌, add-one, arith}
use Rattle.std.specs.Prelude.{not, ◌==◌}
use Rattle.std.specs.List.{list_all}
use Rattle.std.proofs.lemmas.Bool.{and_parts, not-true, cond-false}
use Rattle.std.specs.Prelude.{map}
use Rattle.std.proofs.lemmas.Bool.Decides.{nat_tests}
use Rattle.std.specs.Char.{to_ascii_lowercase}
use Rattle.model.specs.Octets.{lower, lower_octet}
use Rattle.model.specs.ResponseHeads.{cut_at, longer}

-- an octet that isn't a comma
abbrev pub is_other : ℕ → Bool
is_other octet = not (octet == 44)

-- a text without a comma before one that begins with a comma is a part
cut_before : (part rest : List ℕ) → list_all is_other part ≡ true → cut_at 44 (part ++ 44 ∷ rest) ≡ part ∷ cut_at 44 rest
cut_before [] rest p = refl
cut_before (octet ∷ part) rest p =
    let parts = and_parts (is_other octet) (list_all is_other part) p in
    cond-false (octet == 44) _ _ (not-true (octet == 44) parts.0) ∙ ap (longer octet) (cut_before part rest parts.1)

pub cut_none : (part : List ℕ) → list_all is_other part ≡ true → cut_at 44 part ≡ part ∷ []
cut_none [] p = refl
cut_none (octet ∷ part) p =
    let parts = and_parts (is_other octet) (list_all is_other part) p in
    cond-false (octet == 44) _ _ (not-true (octet == 44) parts.0) ∙ ap (longer octet) (cut_none part parts.1)

-- a text around one of its octets
pub around : (text : List ℕ) (i : ℕ) → i < length text → text ≡ take i text ++ get_or text i 0 ∷ drop (suc i) text
around [] i h = absurd (omega arith)
around (octet ∷ text) zero h = refl
around (octet ∷ text) (suc i) h = ap (λ (o : List ℕ). octet ∷ o) (around text i (omega arith))

pub cut_there : (text : List ℕ) (i : ℕ) → i < length text → get_or text i 0 ≡ 44 → list_all is_other (take i text) ≡ true → cut_at 44 text ≡ take i text ∷ cut_at 44 (drop (i + 1) text)
cut_there text i h e p =
    rw add-one (ap (cut_at 44) (around text i h ∙ ap (λ (o : ℕ). take i text ++ o ∷ drop (suc i) text) e) ∙ cut_before (take i text) (drop (suc i) text) p)

-- ASCII letters in lower case
lower_is : (octet : ℕ) → to_ascii_lowercase octet ≡ lower_octet octet
lower_is octet = grind (arith, nat_tests)

pub lowered : (text : List ℕ) → map to_ascii_lowercase text ≡ lower text
lowered [] = refl
lowered (octet ∷ octets) = ap (λ n. n ∷ map to_ascii_lowercase octets) (lower_is octet) ∙ ap (λ (o : List ℕ). lower_octet octet ∷ o) (lowered octets)
