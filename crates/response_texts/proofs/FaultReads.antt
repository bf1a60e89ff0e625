-- Which fault the parser's answer is, and what is read of a front in reach is read of the whole text.
use Rattle.std.proofs.Common.{◌≡◌, ℕ, ◌+◌, ◌-◌, ◌<◌, ◌≤◌, Bool, List, [], ◌∷◌, ◌++◌, length, take, drop, map, sym, ap, ◌∙◌, subst, append_assoc, length-append, length-take-le, refl, inl, inr, arith}
use Rattle.std.specs.Prelude.{None, codes}
use Rattle.std.proofs.lemmas.Bool.{cases_lt}
use Rattle.std.proofs.lemmas.List.{append-nil, take_all, take-append-drop}
use Rattle.std.proofs.Math.Seq.{take-append_seam}
use Rattle.httparse.specs.Grammar.{HasNoResponse, MayBecomeResponse, NeverHasResponse, HasNoSection, MayBecomeSection, NeverHasSection, status_code, print_section}
use Rattle.httparse.specs.declared.spans.HeaderSpan.{HeaderSpan}
use Rattle.httparse.specs.declared.spans.ResponseSpans.{ResponseSpans}
use Rattle.httparse.specs.Spans.{IsResponseOf, IsResponseWithin, IsSectionOf, IsSectionWithin}
use Rattle.model.specs.Messages.{Field}
use Rattle.model.specs.Http1.{values_of}
use Rattle.model.specs.ResponseHeads.{framing_for, framing_of}
use Rattle.response_texts.specs.Heads.{field_from, framing_fault}
use Rattle.response_texts.specs.SectionFaults.{in_reach, codings, IsUnframed, IsRefusedFor, IsRefusedHead, IsLongHead, HeadFault, AreManyTrailers, TrailerFault}
use Rattle.response_texts.specs.declared.fault.ResponseFault.{ResponseFault}
use Rattle.response_texts.specs.declared.fault.ResponseFault.TheVariants as fault
use Rattle.response_texts.proofs.HeadLemmas.{front_is, count_is, meant_at}

-- ---- heads in reach

-- a short text is in reach
pub reached : (text : List ℕ) → length text ≤ 16384 → in_reach text ≡ text
reached text short = take_all 16384 text short

pub never_head : (to_head : Bool) (text : List ℕ) → length text ≤ 16384 → NeverHasResponse text → HeadFault fault.Head to_head 0 text
never_head to_head text short never = inl (subst NeverHasResponse (sym (reached text short)) never)

-- a whole head that the parser found is refused
pub refused : (fault : ResponseFault) (to_head : Bool) (text : List ℕ) (spans : List HeaderSpan) (found : ResponseSpans) → (of : IsResponseOf text spans found) → IsResponseWithin text spans found → length text ≤ 16384
    → IsRefusedFor fault to_head of.0 → IsRefusedHead fault to_head text
refused fault to_head text spans found of within short r =
    let fits : length (take found.len text) ≡ found.len = length-take-le found.len text within.section.len_fits in
    let inside : found.len ≤ length text = within.section.len_fits in
    record {
      head_text = take found.len text;
      past = drop found.len text;
      spelled = of.0;
      is = sym (take-append-drop found.len text);
      reads = front_is text spans found of.0 of.1;
      is_short = omega arith;
      refused = r;
    }

pub crowded : (to_head : Bool) (text : List ℕ) (spans : List HeaderSpan) (found : ResponseSpans) → (of : IsResponseOf text spans found) → IsResponseWithin text spans found → length text ≤ 16384
    → 100 < found.headers → HeadFault fault.Head to_head 0 text
crowded to_head text spans found of within short many =
    let count : found.headers ≡ length of.0.fields = count_is text spans found.headers of.0.fields within.section.count_fits of.1.fields in
    inr (refused fault.Head to_head text spans found of within short (inl (omega arith)))

pub low : (to_head : Bool) (text : List ℕ) (spans : List HeaderSpan) (found : ResponseSpans) → (of : IsResponseOf text spans found) → IsResponseWithin text spans found → length text ≤ 16384
    → found.code < 100 → HeadFault fault.Head to_head 0 text
low to_head text spans found of within short less =
    let code : found.code ≡ status_code of.0 = of.1.code in
    inr (refused fault.Head to_head text spans found of within short (inr (omega arith)))

pub upgraded : (to_head : Bool) (text : List ℕ) (spans : List HeaderSpan) (found : ResponseSpans) → (of : IsResponseOf text spans found) → IsResponseWithin text spans found → length text ≤ 16384
    → found.headers ≤ 100 → found.code ≡ 101 → HeadFault fault.Upgrade to_head 0 text
upgraded to_head text spans found of within short few is =
    let count : found.headers ≡ length of.0.fields = count_is text spans found.headers of.0.fields within.section.count_fits of.1.fields in
    refused fault.Upgrade to_head text spans found of within short (omega arith, sym of.1.code ∙ is)

-- the lines of framing say nothing, and there are such codings
by_codings : (to_head : Bool) (text : List ℕ) (spans : List HeaderSpan) (found : ResponseSpans) → (of : IsResponseOf text spans found) → IsResponseWithin text spans found → length text ≤ 16384
    → IsUnframed to_head of.0 → (values : List (List ℕ)) → codings of.0 ≡ values → HeadFault (framing_fault values) to_head 0 text
by_codings to_head text spans found of within short un [] e = refused fault.Length to_head text spans found of within short (un, e)
by_codings to_head text spans found of within short un (value ∷ values) e =
    refused fault.Coding to_head text spans found of within short (un, λ none. absurd (some (sym none ∙ e)))
  where
    some : [] ≡ value ∷ values → ⊥
    some n = let sizes : 0 ≡ length (value ∷ values) = ap length n in absurd (omega arith)

pub unframed : (to_head : Bool) (text : List ℕ) (spans : List HeaderSpan) (found : ResponseSpans) (fields : List Field) (fault : ResponseFault) → (of : IsResponseOf text spans found) → IsResponseWithin text spans found
    → length text ≤ 16384 → fields ≡ map (field_from text) (take found.headers spans) → found.headers ≤ 100 → 200 ≤ found.code → framing_for to_head found.version found.code fields ≡ None
    → fault ≡ framing_fault (values_of (codes "transfer-encoding") fields) → HeadFault fault to_head 0 text
unframed to_head text spans found fields fault of within short is few high none which =
    let lines = is ∙ meant_at text spans found.headers of.0.fields of.1.fields in
    let code : found.code ≡ status_code of.0 = of.1.code in
    let count : found.headers ≡ length of.0.fields = count_is text spans found.headers of.0.fields within.section.count_fits of.1.fields in
    let here : framing_of to_head of.0 ≡ None =
    sym (ap (λ (fs : List Field). framing_for to_head of.0.minor (status_code of.0) fs) lines) ∙ ap (λ n. framing_for to_head of.0.minor n fields) (sym code)
    ∙ ap (λ n. framing_for to_head n found.code fields) (sym of.1.version) ∙ none in
    let un : IsUnframed to_head of.0 = record { has_few = omega arith; is_final = omega arith; unframed = here } in
    subst (λ (f : ResponseFault). HeadFault f to_head 0 text) (sym which)
    (by_codings to_head text spans found of within short un (values_of (codes "transfer-encoding") fields) (sym (ap (values_of (codes "transfer-encoding")) lines)))

-- ---- trailers in reach

pub never_trailers : (text : List ℕ) → length text ≤ 16384 → NeverHasSection text → TrailerFault fault.Chunk text
never_trailers text short never = inl (subst NeverHasSection (sym (reached text short)) never)

pub many_trailers : (text : List ℕ) (spans : List HeaderSpan) (used count : ℕ) → IsSectionWithin text spans used count → IsSectionOf text 0 spans (used, count) → length text ≤ 16384 → 100 < count → TrailerFault fault.Chunk text
many_trailers text spans used count within of short more =
    let counted : count ≡ length of.0 = count_is text spans count of.0 within.count_fits of.2.fields_are in
    let fits : used ≤ length text = within.len_fits in
    let front : length (take used text) ≡ used = length-take-le used text fits in
    let len : used ≡ length (print_section of.0 of.1) = omega (arith, of.2.len_is) in
    let is : take used text ≡ print_section of.0 of.1 ++ [] =
    ap (take used) of.2.reads.1 ∙ ap (λ n. take n (print_section of.0 of.1 ++ drop used text)) len ∙ take-append_seam (print_section of.0 of.1) (drop used text)
    ∙ sym (append-nil (print_section of.0 of.1)) in
    inr (record {
      trailers = take used text;
      past = drop used text;
      lines = of.0;
      last = of.1;
      is = sym (take-append-drop used text);
      reads = (of.2.reads.0, is);
      are_short = omega arith;
      many = omega arith;
    })

-- ---- a front in reach

-- The text is what is in reach of a whole, behind which this stands.
pub record IsReach (whole text more : List ℕ) : Type 0 where
  pub is : whole ≡ text ++ more
  pub front : in_reach whole ≡ text
  pub short : length text ≤ 16384

no_octets : (xs : List ℕ) → length xs ≡ 0 → xs ≡ []
no_octets [] e = refl
no_octets (x ∷ xs) e = absurd (omega arith)

-- what was held, and as many octets as are in reach
pub reach : (held octets text : List ℕ) (before taken : ℕ) → before ≡ length held → before ≤ 16384 → taken ≤ length octets → taken ≤ 16384 - before → (taken < length octets → taken ≡ 16384 - before)
    → text ≡ held ++ take taken octets → IsReach (held ++ octets) text (drop taken octets)
reach held octets text before taken is low few less full whole =
    let lengths : length (held ++ take taken octets) ≡ length held + length (take taken octets) = length-append held (take taken octets) in
    let counted : length (take taken octets) ≡ taken = length-take-le taken octets few in
    let all : length text ≡ length (held ++ take taken octets) = ap length whole in
    let cut : held ++ octets ≡ text ++ drop taken octets =
    ap (λ (o : List ℕ). held ++ o) (sym (take-append-drop taken octets)) ∙ sym (append_assoc held (take taken octets) (drop taken octets)) ∙ ap (λ (o : List ℕ). o ++ drop taken octets) (sym whole) in
    record { is = cut; front = ap in_reach cut ∙ front lengths counted all; short = omega arith }
  where
    front : length (held ++ take taken octets) ≡ length held + length (take taken octets) → length (take taken octets) ≡ taken → length text ≡ length (held ++ take taken octets)
        → in_reach (text ++ drop taken octets) ≡ text
    front lengths counted all = elim (cases_lt taken (length octets)) [
      | inl p ↦ (
          let sum : taken ≡ 16384 - before = full p in
          let size : length text ≡ 16384 = omega arith in
          ap (λ n. take n (text ++ drop taken octets)) (sym size) ∙ take-append_seam text (drop taken octets)
          )
      | inr p ↦ (
          let none : length (text ++ drop taken octets) ≡ length text + length (drop taken octets) = length-append text (drop taken octets) in
          let rest : length (take taken octets ++ drop taken octets) ≡ length (take taken octets) + length (drop taken octets) = length-append (take taken octets) (drop taken octets) in
          let there : length (take taken octets ++ drop taken octets) ≡ length octets = ap length (take-append-drop taken octets) in
          let small : length (text ++ drop taken octets) ≤ 16384 = omega arith in
          let nothing : length (drop taken octets) ≡ 0 = omega arith in
          reached (text ++ drop taken octets) small ∙ ap (λ (o : List ℕ). text ++ o) (no_octets (drop taken octets) nothing) ∙ append-nil text
          )
    ]

-- a head that is refused is refused whatever follows
refused_longer : (f : ResponseFault) (to_head : Bool) (whole text more : List ℕ) → whole ≡ text ++ more → IsRefusedHead f to_head text → IsRefusedHead f to_head whole
refused_longer f to_head whole text more e r = record {
  head_text = r.head_text;
  past = r.past ++ more;
  spelled = r.spelled;
  is = e ∙ ap (λ (o : List ℕ). o ++ more) r.is ∙ append_assoc r.head_text r.past more;
  reads = r.reads;
  is_short = r.is_short;
  refused = r.refused;
}

not_long : (whole text more : List ℕ) → IsReach whole text more → IsLongHead text → ⊥
not_long whole text more at long =
    let short : length text ≤ 16384 = at.short in
    let longer : 16384 < length text = long.longer in
    absurd (omega arith)

-- the fault of what is in reach is that of the whole text
pub head_in_whole : (f : ResponseFault) (to_head : Bool) (whole text more : List ℕ) → IsReach whole text more → HeadFault f to_head 0 text → HeadFault f to_head 0 whole
head_in_whole fault.Head to_head whole text more at (inl never) = inl (subst NeverHasResponse (reached text at.short ∙ sym at.front) never)
head_in_whole fault.Head to_head whole text more at (inr r) = inr (refused_longer fault.Head to_head whole text more at.is r)
head_in_whole fault.TooLong to_head whole text more at (inl long) = absurd (not_long whole text more at long)
head_in_whole fault.TooLong to_head whole text more at (inr ninth) = let many : 8 ≤ 0 = ninth.many in absurd (omega arith)
head_in_whole fault.Length to_head whole text more at r = refused_longer fault.Length to_head whole text more at.is r
head_in_whole fault.Coding to_head whole text more at r = refused_longer fault.Coding to_head whole text more at.is r
head_in_whole fault.Upgrade to_head whole text more at r = refused_longer fault.Upgrade to_head whole text more at.is r
head_in_whole fault.Chunk to_head whole text more at r = r
head_in_whole fault.Memory to_head whole text more at r = r

pub long_head : (to_head : Bool) (whole text more : List ℕ) → IsReach whole text more → 16384 < length whole → HasNoResponse text → MayBecomeResponse text → HeadFault fault.TooLong to_head 0 whole
long_head to_head whole text more at longer none may =
    inl (record { longer = longer; no_head = subst HasNoResponse (sym at.front) none; may_become = subst MayBecomeResponse (sym at.front) may })

many_longer : (whole text more : List ℕ) → whole ≡ text ++ more → AreManyTrailers text → AreManyTrailers whole
many_longer whole text more e m = record {
  trailers = m.trailers;
  past = m.past ++ more;
  lines = m.lines;
  last = m.last;
  is = e ∙ ap (λ (o : List ℕ). o ++ more) m.is ∙ append_assoc m.trailers m.past more;
  reads = m.reads;
  are_short = m.are_short;
  many = m.many;
}

pub trailers_in_whole : (f : ResponseFault) (whole text more : List ℕ) → IsReach whole text more → TrailerFault f text → TrailerFault f whole
trailers_in_whole fault.Chunk whole text more at (inl never) = inl (subst NeverHasSection (reached text at.short ∙ sym at.front) never)
trailers_in_whole fault.Chunk whole text more at (inr m) = inr (many_longer whole text more at.is m)
trailers_in_whole fault.TooLong whole text more at long =
    let short : length text ≤ 16384 = at.short in
    let longer : 16384 < length text = long.longer in
    absurd (omega arith)
trailers_in_whole fault.Head whole text more at r = r
trailers_in_whole fault.Length whole text more at r = r
trailers_in_whole fault.Coding whole text more at r = r
trailers_in_whole fault.Upgrade whole text more at r = r
trailers_in_whole fault.Memory whole text more at r = r

pub long_trailers : (whole text more : List ℕ) → IsReach whole text more → 16384 < length whole → HasNoSection text → MayBecomeSection text → TrailerFault fault.TooLong whole
long_trailers whole text more at longer none may =
    record { longer = longer; no_trailers = subst HasNoSection (sym at.front) none; may_become = subst MayBecomeSection (sym at.front) may }
