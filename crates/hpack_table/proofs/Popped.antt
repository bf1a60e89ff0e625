-- The oldest field, which is taken out of a ring.
use Rattle.std.proofs.Common.{◌≡◌, ℕ, zero, suc, ◌+◌, ◌-◌, ◌≤◌, List, [], ◌∷◌, ◌++◌, length, take, slice_get, Option, Some, None, refl, ap, sym, ◌∙◌, arith}
use Rattle.std.proofs.lemmas.List.{length-append, take_all}
use Rattle.std.proofs.lemmas.Option.{slice_get-get_or}
use Rattle.std.specs.Prelude.{MatchOption}
use Rattle.circular_buffer.specs.Buffer.{last_item}
use Rattle.model.specs.Messages.{Field}

no_last : (fields : List Field) → None ≡ last_item fields → fields ≡ []
no_last [] e = refl
no_last (field ∷ fields) e =
    let last = slice_get-get_or (field ∷ fields) (length fields) field (omega arith) in
    let at : length (field ∷ fields) - 1 ≡ length fields = omega arith in
    let clash : ◌≡◌ {A = Option Field} None (Some _) = e ∙ ap (slice_get (field ∷ fields)) at ∙ last in cc

last_split : (fields : List Field) (count : ℕ) (oldest : Field) → suc count ≡ length fields → Some oldest ≡ slice_get fields count → fields ≡ take count fields ++ oldest ∷ []
last_split [] count oldest all e = absurd (omega arith)
last_split (field ∷ []) zero oldest all e = cc
last_split (field ∷ []) (suc count) oldest all e = absurd (omega arith)
last_split (field ∷ next ∷ fields) zero oldest all e = absurd (omega arith)
last_split (field ∷ next ∷ fields) (suc count) oldest all e = ap (λ rest. field ∷ rest) (last_split (next ∷ fields) count oldest (omega arith) e)

pub popped : (oldest : Option Field) (old new : List Field) → oldest ≡ last_item old → new ≡ take (length old - 1) old → MatchOption oldest ((old ≡ []) × (new ≡ [])) (λ field. old ≡ new ++ field ∷ [])
popped None old new last rest =
    let none = no_last old last in
    (none, rest ∙ ap (λ (fields : List Field). take (length fields - 1) fields) none)
popped (Some oldest) [] new last rest = cc
popped (Some oldest) (field ∷ fields) new last rest = last_split (field ∷ fields) (length (field ∷ fields) - 1) oldest (omega arith) last ∙ ap (λ front. front ++ oldest ∷ []) (sym rest)

-- where the newest takes the place of the oldest, all that were there have room with it
pub turned : (capacity : ℕ) (field oldest : Field) (old rest new : List Field) → old ≡ rest ++ oldest ∷ [] → length old ≤ capacity → new ≡ take capacity (field ∷ rest)
    → field ∷ old ≡ new ++ oldest ∷ []
turned capacity field oldest old rest new is within kept =
    let parts : length old ≡ length rest + 1 = ap length is ∙ length-append rest (oldest ∷ []) in
    let all : take capacity (field ∷ rest) ≡ field ∷ rest = take_all capacity (field ∷ rest) (omega (arith, parts, within)) in
    ap (λ fields. field ∷ fields) is ∙ ap (λ front. front ++ oldest ∷ []) (sym (kept ∙ all))
