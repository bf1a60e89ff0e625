-- Trailers that are passed back: what is so of them, and how many octets fields Connection have.
use Rattle.std.proofs.Common.{◌≡◌, ℕ, ◌+◌, ◌≤◌, List, [], ◌∷◌, ◌++◌, length, map, sym, ap, subst, arith}
use Rattle.model.specs.Messages.{Field}
use Rattle.model.specs.Http2.{pseudo_fields}
use Rattle.model.specs.ResponseHeads.{meant}
use Rattle.model.proofs.DeliveryLemmas.{kept_plain, meant_plain}
use Rattle.response_texts.specs.HeadSizes.{field_octets}
use Rattle.response_texts.specs.Trailers.{ArePassed}
use Rattle.response_texts.proofs.HeadSizeLemmas.{section_size}

-- none of them is a pseudo-field
pub passed_plain : (named : List (List ℕ)) (text : List ℕ) (fields : List Field) → ArePassed named text fields → pseudo_fields fields ≡ []
passed_plain named text fields p =
    subst (λ (fs : List Field). pseudo_fields fs ≡ []) (sym p.is) (kept_plain _ (map meant p.are.lines) (meant_plain p.are.lines p.are.reads.0))

-- they have at most 16,384 octets
pub passed_short : (named : List (List ℕ)) (text : List ℕ) (fields : List Field) → ArePassed named text fields → field_octets fields ≤ 16384
passed_short named text fields p =
    let size = section_size named text p.are in
    let short : length text ≤ 16384 = p.are.is_short in
    let same = ap field_octets p.is in
    omega (arith, size, short, same)

-- one field more has its octets more
octets_added : (fields : List Field) (x : Field) → field_octets (fields ++ x ∷ []) ≡ field_octets fields + (length x.name + length x.value)
octets_added [] x = omega arith
octets_added (field ∷ fields) x = let more = octets_added fields x in omega (arith, more)

pub octets_more : (found all : List Field) (y x : Field) → y ≡ x → field_octets found ≤ field_octets all → field_octets (found ++ y ∷ []) ≤ field_octets (all ++ x ∷ [])
octets_more found all y x e le =
    let a = octets_added found y in
    let b = octets_added all x in
    let n = ap (λ (f : Field). length f.name + length f.value) e in
    omega (arith, a, b, n, le)

pub octets_less : (found all : List Field) (x : Field) → field_octets found ≤ field_octets all → field_octets found ≤ field_octets (all ++ x ∷ [])
octets_less found all x le = let b = octets_added all x in omega (arith, b, le)
