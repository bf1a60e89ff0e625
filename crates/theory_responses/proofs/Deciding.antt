-- The part that a gateway chooses may go, and is there just where something can go.
use Rattle.std.proofs.Common.{◌≡◌, ℕ, zero, suc, ◌<◌, ◌≤◌, min, Bool, true, false, ◌&&◌, List, [], ◌∷◌, length, take, drop, refl, sym, subst, arith}
use Rattle.std.specs.Prelude.{Option, Some, None, is_some}
use Rattle.std.proofs.lemmas.List.{take-append-drop, length-take}
use Rattle.std.proofs.lemmas.Bool.{and_parts}
use Rattle.model.specs.Octets.{is_empty}
use Rattle.model.specs.Deliveries.{End}
use Rattle.theory_responses.specs.Outbox.{is_plain, Outbox, Part, MayEnd, IsNext, can_go, part_of, octets_of}
use Rattle.theory_responses.specs.Outbox.Outbox.{Before, Behind, Over}
use Rattle.theory_responses.specs.Outbox.Part.{Early, Final, Octets, Trailing}

empty_is : (xs : List ℕ) → is_empty xs ≡ true → xs ≡ []
empty_is [] e = refl
empty_is (x ∷ xs) e = let clash : false ≡ true = e in cc

-- the end goes where the response is whole and nothing is held
plain_end : (whole : End) → is_plain whole ≡ true → whole ≡ Some []
plain_end None e = let clash : false ≡ true = e in cc
plain_end (Some []) e = refl
plain_end (Some (field ∷ fields)) e = let clash : false ≡ true = e in cc

ends_rightly : (rest : List ℕ) (whole : End) (ends : Bool) → (is_plain whole && is_empty rest) ≡ ends → MayEnd rest whole ends
ends_rightly rest whole true e = let parts = and_parts (is_plain whole) (is_empty rest) e in (empty_is rest parts.1, plain_end whole parts.0)
ends_rightly rest whole false e = tt

some_taken : (most : ℕ) (octet : ℕ) (octets : List ℕ) (ends : Bool) → 0 < most → take most (octet ∷ octets) ≡ [] → ends ≡ true
some_taken zero octet octets ends some e = absurd (omega (arith, some))
some_taken (suc most) octet octets ends some e = cc

-- what is chosen is the next part
pub chosen_next : (most : ℕ) (box : Outbox) (part : Part) → 0 < most → part_of most box ≡ Some part → IsNext box part
chosen_next most box part some e = by box part e
  where
    by : (box : Outbox) (part : Part) → part_of most box ≡ Some part → IsNext box part
    by (Before (first ∷ hs) head body whole) part e = let same : Early first ≡ part = cc in subst (IsNext (Before (first ∷ hs) head body whole)) same refl
    by (Before [] (Some head) body whole) part e =
        let same : Final head (is_plain whole && is_empty body) ≡ part = cc in
        subst (IsNext (Before [] (Some head) body whole)) same (refl, ends_rightly body whole (is_plain whole && is_empty body) refl)
    by (Before [] None body whole) part e = let clash : ◌≡◌ {A = Option Part} None (Some part) = e in cc
    by (Behind (o ∷ os) whole) part e =
        let rest = drop most (o ∷ os) in
        let same : Octets (take most (o ∷ os)) (is_plain whole && is_empty (drop most (o ∷ os))) ≡ part = cc in
        subst (IsNext (Behind (o ∷ os) whole)) same (rest, sym (take-append-drop most (o ∷ os)), ends_rightly (drop most (o ∷ os)) whole (is_plain whole && is_empty (drop most (o ∷ os))) refl, some_taken most o os (is_plain whole && is_empty (drop most (o ∷ os))) some)
    by (Behind [] (Some [])) part e = let same : Octets [] true ≡ part = cc in subst (IsNext (Behind [] (Some []))) same ([], refl, (refl, refl), λ n. refl)
    by (Behind [] (Some (field ∷ fields))) part e =
        let same : Trailing (field ∷ fields) ≡ part = cc in subst (IsNext (Behind [] (Some (field ∷ fields)))) same (refl, refl, λ n. let clash : field ∷ fields ≡ [] = n in cc)
    by (Behind [] None) part e = let clash : ◌≡◌ {A = Option Part} None (Some part) = e in cc
    by Over part e = let clash : ◌≡◌ {A = Option Part} None (Some part) = e in cc

-- it has no more octets than may go
pub chosen_few : (most : ℕ) (box : Outbox) (part : Part) → part_of most box ≡ Some part → length (octets_of part) ≤ most
chosen_few most (Before (first ∷ hs) head body whole) part e = let same : Early first ≡ part = cc in subst (λ p. length (octets_of p) ≤ most) same (omega arith)
chosen_few most (Before [] (Some head) body whole) part e = let same : Final head (is_plain whole && is_empty body) ≡ part = cc in subst (λ p. length (octets_of p) ≤ most) same (omega arith)
chosen_few most (Before [] None body whole) part e = let clash : ◌≡◌ {A = Option Part} None (Some part) = e in cc
chosen_few most (Behind (o ∷ os) whole) part e =
    let same : Octets (take most (o ∷ os)) (is_plain whole && is_empty (drop most (o ∷ os))) ≡ part = cc in
    let count : length (take most (o ∷ os)) ≡ min most (length (o ∷ os)) = length-take most (o ∷ os) in
    subst (λ p. length (octets_of p) ≤ most) same (omega (arith, count))
chosen_few most (Behind [] (Some [])) part e = let same : Octets [] true ≡ part = cc in subst (λ p. length (octets_of p) ≤ most) same (omega arith)
chosen_few most (Behind [] (Some (field ∷ fields))) part e = let same : Trailing (field ∷ fields) ≡ part = cc in subst (λ p. length (octets_of p) ≤ most) same (omega arith)
chosen_few most (Behind [] None) part e = let clash : ◌≡◌ {A = Option Part} None (Some part) = e in cc
chosen_few most Over part e = let clash : ◌≡◌ {A = Option Part} None (Some part) = e in cc

-- where something can go, a part is chosen
pub chosen_there : (windows : Bool) (most : ℕ) (box : Outbox) → can_go windows box ≡ true → is_some (part_of most box) ≡ true
chosen_there windows most (Before (first ∷ hs) head body whole) g = refl
chosen_there windows most (Before [] (Some head) body whole) g = refl
chosen_there windows most (Before [] None body whole) g = g
chosen_there windows most (Behind (o ∷ os) whole) g = refl
chosen_there windows most (Behind [] (Some [])) g = refl
chosen_there windows most (Behind [] (Some (field ∷ fields))) g = refl
chosen_there windows most (Behind [] None) g = g
chosen_there windows most Over g = g
