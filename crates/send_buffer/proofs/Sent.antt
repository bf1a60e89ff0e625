-- Octets of a body of which some were sent.
use Rattle.std.proofs.Common.{◌≡◌, ◌⊎◌, inl, inr, ℕ, zero, suc, ◌<◌, Bool, true, false, ◌&&◌, ◌==◌, List, [], ◌∷◌, take, drop, length, Option, Some, None, is_some, min, length-drop, refl, sym, ◌∙◌, ap, subst, arith}
use Rattle.std.proofs.lemmas.Bool.{ne_eqb}
use lib.Seq.{length-take-le, take-nil}
use Rattle.std.proofs.lemmas.List.{length-take}
use Rattle.model.specs.Octets.{is_empty}
use Rattle.model.specs.Messages.{Field}
use Rattle.model.specs.ResponseHeads.{Head}
use Rattle.model.specs.Deliveries.{End}
use Rattle.h1_reader.specs.HeadSizes.{CanTrail}
use Rattle.theory_responses.specs.Outbox.{first_end, is_plain, Outbox, Part, can_go, part_of, left, rest_of}
use Rattle.theory_responses.specs.Outbox.Outbox.{Before, Behind, Over}
use Rattle.theory_responses.specs.Outbox.Part.{Early, Final, Octets, Trailing}
use Rattle.send_buffer.specs.Views.{end_in, IsHead, AreOctets, AreNoTrailers, HasNoOctets}

pub goes_on : (windows : Bool) (whole : End) (body : List ℕ) → is_empty body ≡ false → can_go windows (Behind body whole) ≡ windows
goes_on windows whole [] some = absurd (true_isnt some)
  where
    true_isnt : true ≡ false → ⊥
    true_isnt same = cc
goes_on windows whole (octet ∷ body) some = refl

pub goes_at_end : (windows : Bool) (whole : End) (body : List ℕ) → is_empty body ≡ true → can_go windows (Behind body whole) ≡ is_some whole
goes_at_end windows whole [] none = refl
goes_at_end windows whole (octet ∷ body) none = absurd (false_isnt none)
  where
    false_isnt : false ≡ true → ⊥
    false_isnt same = cc

-- nothing but an end without trailers is plain
pub not_plain : (trailers : List Field) → CanTrail trailers → is_plain (Some trailers) ≡ false
not_plain [] can = absurd (can.some refl)
not_plain (field ∷ fields) can = refl

-- trailers that are some aren't plain, and none are
pub plain_is : (trailers : List Field) → is_plain (Some trailers) ≡ (length trailers == 0)
plain_is [] = refl
plain_is (field ∷ fields) = sym (ne_eqb (suc (length fields)) 0 (λ e. absurd (omega (arith, e))))

pub some_end : (whole : Option End) → is_some (end_in whole) ≡ is_some whole
some_end None = refl
some_end (Some trailers) = refl

-- the first end stays
pub first_stays : (old new now : Option End) → is_some old ≡ true → now ≡ old → end_in now ≡ first_end (end_in old) (end_in new)
first_stays None new now some is = let clash : false ≡ true = some in cc
first_stays (Some trailers) new now some is = ap end_in is

pub first_comes : (old new now : Option End) → is_some old ≡ false → now ≡ new → end_in now ≡ first_end (end_in old) (end_in new)
first_comes None new now none is = ap end_in is
first_comes (Some trailers) new now none is = let clash : true ≡ false = none in cc

-- trailers go behind all octets
pub trailers_next : (most : ℕ) (body : List ℕ) (trailers : List Field) → CanTrail trailers → is_empty body ≡ true → Some (Trailing trailers) ≡ part_of most (Behind body (Some trailers))
trailers_next most [] [] can none = absurd (can.some refl)
trailers_next most [] (field ∷ fields) can none = refl
trailers_next most (octet ∷ body) trailers can none = let clash : false ≡ true = none in cc

-- where more octets are left than may go, the next part is those, without the end
pub some_left : (most : ℕ) (body : List ℕ) (whole : End) → most < length body → Some (Octets (take most body) false) ≡ part_of most (Behind body whole)
some_left most [] whole more = absurd (omega (arith, more))
some_left most (octet ∷ body) whole more = ap (λ b. Some (Octets (take most (octet ∷ body)) b)) (sym (ap (λ b. is_plain whole && b) (left_over most (octet ∷ body) more) ∙ and_false (is_plain whole)))
  where
    left_over : (count : ℕ) (octets : List ℕ) → count < length octets → is_empty (drop count octets) ≡ false
    left_over count [] beyond = absurd (omega (arith, beyond))
    left_over zero (first ∷ octets) beyond = refl
    left_over (suc count) (first ∷ octets) beyond = left_over count octets (omega (arith, beyond))

    and_false : (b : Bool) → (b && false) ≡ false
    and_false true = refl
    and_false false = refl

-- where no more are left, it is those that are, with the end if that is known and has no trailers
pub all_left : (most : ℕ) (body : List ℕ) (whole : End) → (most < length body → ⊥) → is_empty body ≡ false → Some (Octets (take most body) (is_plain whole)) ≡ part_of most (Behind body whole)
all_left most [] whole few some = let clash : true ≡ false = some in cc
all_left most (octet ∷ body) whole few some = ap (λ b. Some (Octets (take most (octet ∷ body)) b)) (sym (ap (λ b. is_plain whole && b) (none_over most (octet ∷ body) few) ∙ and_true (is_plain whole)))
  where
    none_over : (count : ℕ) (octets : List ℕ) → (count < length octets → ⊥) → is_empty (drop count octets) ≡ true
    none_over zero [] short = refl
    none_over (suc count) [] short = refl
    none_over zero (first ∷ octets) short = absurd (short (omega arith))
    none_over (suc count) (first ∷ octets) short = none_over count octets (λ less. short (omega (arith, less)))

    and_true : (b : Bool) → (b && true) ≡ b
    and_true true = refl
    and_true false = refl

-- the end alone, without trailers
pub end_alone : (most : ℕ) (body : List ℕ) → is_empty body ≡ true → Some (Octets (take most body) true) ≡ part_of most (Behind body (Some []))
end_alone most [] none = ap (λ octets. Some (Octets octets true)) (take-nil most)
end_alone most (octet ∷ body) none = let clash : false ≡ true = none in cc

-- what is left behind those
pub left_some : (most : ℕ) (body : List ℕ) (whole : End) (part : Part) → most < length body → part_of most (Behind body whole) ≡ Some part → Behind (drop most body) whole ≡ left (Behind body whole) part
left_some most body whole part more is =
    let next : Some (Octets (take most body) false) ≡ Some part = some_left most body whole more ∙ is in
    let count : length (take most body) ≡ most = length-take-le most body (omega (arith, more)) in
    subst (λ p. Behind (drop most body) whole ≡ left (Behind body whole) p) (some_same next)
    (ap (λ n. Behind (drop n body) whole) (sym count))
  where
    some_same : {x y : Part} → Some x ≡ Some y → x ≡ y
    some_same same = cc

-- nothing is left behind all of what is whole and has no trailers
pub left_all : (most : ℕ) (body : List ℕ) (part : Part) → (most < length body → ⊥) → part_of most (Behind body (Some [])) ≡ Some part → Over ≡ left (Behind body (Some [])) part
left_all most body part few is = by body few is
  where
    some_same : {x y : Part} → Some x ≡ Some y → x ≡ y
    some_same same = cc

    by : (os : List ℕ) → (most < length os → ⊥) → part_of most (Behind os (Some [])) ≡ Some part → Over ≡ left (Behind os (Some [])) part
    by [] short e = subst (λ p. Over ≡ left (Behind [] (Some [])) p) (some_same e) refl
    by (octet ∷ os) short e = subst (λ p. Over ≡ left (Behind (octet ∷ os) (Some [])) p) (some_same (all_left most (octet ∷ os) (Some []) short refl ∙ e)) refl

pub left_plain : (most : ℕ) (body : List ℕ) (whole : End) (part : Part) → (most < length body → ⊥) → is_plain whole ≡ true → part_of most (Behind body whole) ≡ Some part → Over ≡ left (Behind body whole) part
left_plain most body None part few plain is = let clash : false ≡ true = plain in cc
left_plain most body (Some []) part few plain is = left_all most body part few is
left_plain most body (Some (field ∷ fields)) part few plain is = let clash : false ≡ true = plain in cc

nil_of : (xs : List ℕ) → length xs ≡ 0 → xs ≡ []
nil_of [] e = refl
nil_of (x ∷ xs) e = absurd (omega (arith, e))

-- no octets are left behind all of what isn't, or has trailers
pub left_none : (most : ℕ) (body : List ℕ) (whole : End) (part : Part) → (most < length body → ⊥) → is_plain whole ≡ false → part_of most (Behind body whole) ≡ Some part → AreOctets part → Behind [] whole ≡ left (Behind body whole) part
left_none most [] None part few on is octets = let clash : ◌≡◌ {A = Option Part} None (Some part) = is in cc
left_none most [] (Some []) part few on is octets = let clash : true ≡ false = on in cc
left_none most [] (Some (field ∷ fields)) part few on is octets = absurd (subst AreOctets (sym (let same : Trailing (field ∷ fields) ≡ part = cc in same)) octets)
left_none most (octet ∷ body) whole part few on is octets =
    subst (λ p. Behind [] whole ≡ left (Behind (octet ∷ body) whole) p) (some_same (all_left most (octet ∷ body) whole few refl ∙ is))
    (subst (λ b. Behind [] whole ≡ left (Behind (octet ∷ body) whole) (Octets (take most (octet ∷ body)) b)) (sym on)
    (ap (λ os. Behind os whole) (sym (gone (octet ∷ body) few))))
  where
    some_same : {x y : Part} → Some x ≡ Some y → x ≡ y
    some_same same = cc

    gone : (os : List ℕ) → (most < length os → ⊥) → drop (length (take most os)) os ≡ []
    gone os short = let count : length (take most os) ≡ min most (length os) = length-take most os in nil_of (drop (length (take most os)) os) (let size = length-drop (length (take most os)) os in omega (arith, count, size, short))

-- octets are next where some wait, or where the response is whole without trailers
pub more_are_next : (most : ℕ) (body : List ℕ) (whole : End) → most < length body → HasNoOctets (part_of most (Behind body whole)) → ⊥
more_are_next most [] whole more others = absurd (omega (arith, more))
more_are_next most (octet ∷ body) whole more others = others

pub plain_is_next : (most : ℕ) (body : List ℕ) (whole : End) → is_plain whole ≡ true → HasNoOctets (part_of most (Behind body whole)) → ⊥
plain_is_next most [] None plain others = let clash : false ≡ true = plain in cc
plain_is_next most [] (Some []) plain others = others
plain_is_next most [] (Some (field ∷ fields)) plain others = let clash : false ≡ true = plain in cc
plain_is_next most (octet ∷ body) whole plain others = others

-- none wait where they aren't next
pub none_wait : (most : ℕ) (body : List ℕ) (whole : End) → HasNoOctets (part_of most (Behind body whole)) → Behind [] whole ≡ Behind body whole
none_wait most [] whole others = refl
none_wait most (octet ∷ body) whole others = absurd others

-- what is left behind an interim head
pub took_early : (box : Outbox) (old new : List Head) (first : Head) (head : Option Head) (body : List ℕ) (whole : End) → box ≡ Before old head body whole → old ≡ first ∷ new → (part : Part) × (part_of 1 box ≡ Some part) × IsHead first part × (Before new head body whole ≡ left box part)
took_early box old new first head body whole is front =
    subst (λ b. (part : Part) × (part_of 1 b ≡ Some part) × IsHead first part × (Before new head body whole ≡ left b part)) (sym (is ∙ ap (λ hs. Before hs head body whole) front)) (Early first, refl, refl, refl)

-- what is left behind a final head
pub took_final : (box : Outbox) (old : List Head) (head : Head) (body : List ℕ) (whole : End) (now : Outbox) → box ≡ Before old (Some head) body whole → old ≡ [] → now ≡ rest_of body whole (is_plain whole && is_empty body) → (part : Part) × (part_of 1 box ≡ Some part) × IsHead head part × (now ≡ left box part)
took_final box old head body whole now is none left_is =
    subst (λ b. (part : Part) × (part_of 1 b ≡ Some part) × IsHead head part × (now ≡ left b part)) (sym (is ∙ ap (λ hs. Before hs (Some head) body whole) none)) (Final head (is_plain whole && is_empty body), refl, refl, left_is)

-- trailers aren't next before octets, nor where there are none
pub octets_first : (body : List ℕ) (whole : End) → is_empty body ≡ false → (part : Part) → part_of 1 (Behind body whole) ≡ Some part → AreNoTrailers part
octets_first [] whole some part is = let clash : true ≡ false = some in cc
octets_first (octet ∷ body) whole some part is = subst AreNoTrailers (let same : Octets (take 1 (octet ∷ body)) (is_plain whole && is_empty (drop 1 (octet ∷ body))) ≡ part = cc in same) tt

pub none_at_end : (body : List ℕ) (whole : Option End) → is_empty body ≡ true → (whole ≡ None) ⊎ (whole ≡ Some None) → (part : Part) → part_of 1 (Behind body (end_in whole)) ≡ Some part → AreNoTrailers part
none_at_end (octet ∷ body) whole none which part is = let clash : false ≡ true = none in cc
none_at_end [] whole none (inl unknown) part is = let clash : ◌≡◌ {A = Option Part} None (Some part) = sym (ap (λ w. part_of 1 (Behind [] (end_in w))) unknown) ∙ is in cc
none_at_end [] whole none (inr bare) part is = subst AreNoTrailers (let same : Octets [] true ≡ part = some_same (sym (ap (λ w. part_of 1 (Behind [] (end_in w))) bare) ∙ is) in same) tt
  where
    some_same : {x y : Part} → Some x ≡ Some y → x ≡ y
    some_same same = cc
