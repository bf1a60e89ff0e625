-- The fields that are gathered.
use Rattle.std.proofs.Common.{◌≡◌, ℕ, ◌+◌, ◌-◌, ◌≤◌, List, [], ◌∷◌, ◌++◌, length, take, drop, Option, Some, None, SomeIff, is_some, false, true, refl, ap, sym, ◌∙◌, subst, inl, inr, arith, append_assoc, length-drop}
use Rattle.std.proofs.lemmas.Bool.{cases_lt}
use Rattle.std.proofs.lemmas.List.{append-nil, take_rest}
use Rattle.model.specs.Messages.{Field}
use Rattle.model.specs.Tables.{Table, field_size, total_size}
use Rattle.model.specs.Blocks.{Represents, AreFields}
use Rattle.header_blocks.specs.Gathering.{Holds}

pub total_none : (cap : ℕ) → total_size [] + cap ≡ cap
unfolding total_size
total_none cap = omega arith

total_more : (all : List Field) (field : Field) → total_size (all ++ field ∷ []) ≡ total_size all + field_size field
unfolding total_size
total_more [] field = omega arith
total_more (first ∷ all) field = let rest = total_more all field in omega (arith, rest)

-- once fields don't fit, more don't
pub stays_over : (field : Field) (kept : List Field) (room : Option ℕ) → room ≡ None → (cap : ℕ) (all : List Field) → Holds cap all kept room → Holds cap (all ++ field ∷ []) kept room
stays_over field kept (Some room) e cap all h = cc
stays_over field kept None e cap all h = omega (arith, total_more all field)

-- a field that fits
pub one_more : (field : Field) (kept more : List Field) (before after : Option ℕ) (room : ℕ) → before ≡ Some room → SomeIff after (field_size field ≤ room) (room - field_size field)
    → more ≡ kept ++ field ∷ [] → is_some after ≡ true → (cap : ℕ) (all : List Field) → Holds cap all kept before → Holds cap (all ++ field ∷ []) more after
one_more field kept more None after room is fits grows e cap all h = cc
one_more field kept more (Some r) None room is fits grows e cap all h = cc
one_more field kept more (Some r) (Some l) room is fits grows e cap all h =
    let same : r ≡ room = cc in
    let total = total_more all field in
    (grows ∙ ap (λ k. k ++ field ∷ []) h.0, omega (arith, total, h.1, fits.0, fits.1, same))

-- a field that doesn't
pub no_room : (field : Field) (kept more : List Field) (before after : Option ℕ) (room : ℕ) → before ≡ Some room → SomeIff after (field_size field ≤ room) (room - field_size field)
    → is_some after ≡ false → (cap : ℕ) (all : List Field) → Holds cap all kept before → Holds cap (all ++ field ∷ []) more after
no_room field kept more None after room is fits e cap all h = cc
no_room field kept more (Some r) (Some l) room is fits e cap all h = cc
no_room field kept more (Some r) None room is fits e cap all h =
    let same : r ≡ room = cc in
    let total = total_more all field in
    elim (cases_lt room (field_size field)) [
      | inl less ↦ omega (arith, total, h.1, same)
      | inr fit ↦ absurd (fits fit)
    ]

-- a representation more
pub fields_then : (table next last : Table) (a b : List ℕ) (fields : List Field) (field : Field) → AreFields table a fields next → Represents next b field last → AreFields table (a ++ b) (fields ++ field ∷ []) last
fields_then table next last a b [] field p r = (b, [], last, ap (λ o. o ++ b) p.0 ∙ sym (append-nil b), subst (λ t. Represents t b field last) p.1 r, (refl, refl))
fields_then table next last a b (first ∷ fields) field p r =
    (p.0, p.1 ++ b, p.2, ap (λ o. o ++ b) p.3 ∙ append_assoc p.0 p.1 b, p.4, fields_then p.2 next last p.1 b fields field p.5 r)

pub within_rest : (octets : List ℕ) (start used : ℕ) → used ≤ length (take (length octets - start) (drop start octets)) → used ≤ length octets - start
within_rest octets start used h = simp (ap length (take_rest octets start), length-drop) at h
