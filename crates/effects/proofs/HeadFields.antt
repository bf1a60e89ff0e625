-- The fields of a head that can be passed back are its section, and an encoder takes each; so it does each of trailers.
use Rattle.std.proofs.Common.{◌≡◌, ◌≤◌, List, [], ◌∷◌, sym, ◌∙◌, subst, arith}
use Rattle.std.specs.Prelude.{codes}
use Rattle.std.specs.List.{All}
use Rattle.std.proofs.lemmas.List.Elements.{All-cons, All-nil}
use Rattle.model.specs.Messages.{Field}
use Rattle.model.specs.ResponseHeads.{Head}
use Rattle.model.specs.Deliveries.{IsSection}
use Rattle.model.proofs.DeliveryLemmas.{section_reads}
use Rattle.header_blocks.specs.Chosen.{HasShortStrings}
use Rattle.h1_reader.specs.HeadSizes.{field_octets, CanBePassedBack, CanTrail}
use Rattle.effects.specs.Sections.{three_digits, status_field, section_of}

all_short : (fields : List Field) → field_octets fields ≤ 16384 → All HasShortStrings fields
all_short [] small = All-nil HasShortStrings
all_short (field ∷ fields) small =
    All-cons HasShortStrings field fields (record { name = omega (arith, small); value = omega (arith, small) }) (all_short fields (omega (arith, small)))

pub is_section : (fields : List Field) (head : Head) → CanBePassedBack head → fields ≡ section_of head → IsSection fields head
is_section fields head passed is = subst (λ (fs : List Field). IsSection fs head) (sym is) (section_reads head passed.digits passed.plain)

pub is_short : (fields : List Field) (head : Head) → CanBePassedBack head → fields ≡ section_of head → All HasShortStrings fields
is_short fields head passed is =
    subst (All HasShortStrings) (sym is)
    (All-cons HasShortStrings (status_field head.status) head.fields (record { name = omega arith; value = omega arith }) (all_short head.fields passed.short))

-- An encoder takes each field of trailers that can be passed back.
pub are_short : (fields : List Field) → CanTrail fields → All HasShortStrings fields
are_short fields passed = all_short fields passed.short

pub are_section : (fields rest : List Field) (status : Field) (head : Head) → fields ≡ status ∷ rest → status.name ≡ codes ":status" → status.value ≡ three_digits head.status → rest ≡ head.fields → fields ≡ section_of head
are_section fields rest status head is name value others = is ∙ (λ i. record { name = name i; value = value i } ∷ others i)
