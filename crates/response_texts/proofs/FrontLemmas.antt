-- Heads that octets end behind others.
use Rattle.std.proofs.Common.{zero, suc, ◌≡◌, ℕ, ◌+◌, ◌-◌, ◌<◌, ◌≤◌, Bool, true, List, [], ◌∷◌, refl, ◌++◌, length, take, drop, sym, ap, ◌∙◌, subst, append_assoc, length-take-le, length-append, inl, inr, arith}
use Rattle.std.specs.Prelude.{None}
use Rattle.std.specs.Char.{is_ascii_digit}
use Rattle.std.proofs.lemmas.List.Elements.{All-cons, All-nil}
use Rattle.std.proofs.lemmas.List.{take-append-le, take-append-drop, take_all}
use Rattle.std.proofs.lemmas.Bool.{cases_lt}  -- `cases_lt` is `lt_or_ge` in other libraries, and gives their `le_total`
use Rattle.std.proofs.Math.Seq.{take-append_seam}
use Rattle.httparse.specs.Grammar as grammar
use Rattle.httparse.specs.Grammar.{ReadsResponse, HasNoResponse, MayBecomeResponse}
use Rattle.model.proofs.ResponseHeadReadings.{Spelled, spelled_reads}
use Rattle.response_texts.specs.Heads.{HasNoHead}
use Rattle.response_texts.proofs.HeadLemmas.{none_taken}

-- a front that isn't longer than a text begins the text
pub front_of_longer : (t x front past : List ℕ) → t ++ x ≡ front ++ past → length front ≤ length t → front ++ drop (length front) t ≡ t
front_of_longer t x front past e h =
    let same : take (length front) t ≡ front = sym (take-append-le (length front) t x h) ∙ ap (take (length front)) e ∙ take-append_seam front past in
    ap (λ (o : List ℕ). o ++ drop (length front) t) (sym same) ∙ take-append-drop (length front) t

-- what has no head in its first 16,384 octets has none that is taken
pub none_so_long : (to_head : Bool) (t x : List ℕ) → HasNoResponse t → 16384 ≤ length t → HasNoHead to_head (t ++ x)
none_so_long to_head t x none long =
    none_taken to_head (t ++ x) (λ more front past k e p.
    let whole : t ++ (x ++ more) ≡ front ++ past = sym (append_assoc t x more) ∙ e in
    let short : length front ≤ 16384 = p.is_short in
    let fits : length front ≤ length t = omega arith in
    let there : front ++ drop (length front) t ≡ t = front_of_longer t (x ++ more) front past whole fits in
    none k (drop (length front) t) (subst (λ (o : List ℕ). ReadsResponse o k (drop (length front) t)) there (spelled_reads front (drop (length front) t) k p.reads)))

-- no head is known of more octets, so none of fewer is
pub none_longer : (to_head : Bool) (t x : List ℕ) → HasNoHead to_head t → HasNoHead to_head (t ++ x)
none_longer to_head t x none = record {
  no_interim = λ more front past head e p. none.no_interim (x ++ more) front past head (sym (append_assoc t x more) ∙ e) p;
  no_final = λ more front past head framing e p. none.no_final (x ++ more) front past head framing (sym (append_assoc t x more) ∙ e) p;
}

below : (a b : ℕ) → (b ≤ a → ⊥) → a < b
below a b h = elim (cases_lt a b) [ inl p ↦ p | inr p ↦ absurd (h p) ]

-- what has a property ends behind octets that begin with nothing that has it
ends_behind : (P : List ℕ → Type 0) (held octets : List ℕ) (used : ℕ) → ((front rest : List ℕ) → P front → held ≡ front ++ rest → ⊥) → P (take used (held ++ octets)) → length held < used
ends_behind P held octets used none p =
    below (length held) used (λ h.
    let front : take used (held ++ octets) ≡ take used held = take-append-le used held octets h in
    none (take used held) (drop used held) (subst P front p) (sym (take-append-drop used held)))

-- what is taken of two texts is the first and a front of the second
pub taken_behind : (held octets : List ℕ) (used : ℕ) → length held ≤ used → take used (held ++ octets) ≡ held ++ take (used - length held) octets
taken_behind [] octets used h = ap (λ n. take n octets) (omega arith)
taken_behind (o ∷ held) octets zero h = absurd (omega arith)
taken_behind (o ∷ held) octets (suc used) h =
    let same : suc used - length (o ∷ held) ≡ used - length held = omega arith in
    ap (λ (t : List ℕ). o ∷ t) (taken_behind held octets used (omega arith)) ∙ ap (λ n. o ∷ (held ++ take n octets)) (sym same)

-- nothing begins with no head
pub none_in_nothing : HasNoResponse []
unfolding grammar.print_response
none_in_nothing h rest p =
    let e : 0 ≡ length (grammar.print_response h) + length rest = ap length p.1 ∙ length-append (grammar.print_response h) rest in
    let some : 0 < length (grammar.print_response h) = simp length-append (omega arith) in
    absurd (omega arith)

-- nothing is the beginning of a head
pub nothing_may_become : MayBecomeResponse []
nothing_may_become =
    let h : grammar.ResponseHead = record { blank = []; minor = 1; digits = 50 ∷ 48 ∷ 48 ∷ []; reason = None; line_end = grammar.LineEnd.lf; fields = []; last = grammar.LineEnd.lf } in
    let P : ℕ → Type 0 = λ digit. is_ascii_digit digit ≡ true in
    let low : 1 ≤ 1 = omega arith in
    let digits = All-cons P 50 (48 ∷ 48 ∷ []) refl (All-cons P 48 (48 ∷ []) refl (All-cons P 48 [] refl (All-nil P))) in (
      grammar.print_response h ++ [],
      h,
      (record { minor = low; digits = (refl, digits); reason = All-nil (λ octet. grammar.is_value_byte octet ≡ true); fields = All-nil grammar.IsField }, refl),
    )

pub nothing_is_short : length {A = ℕ} [] ≤ 16384
nothing_is_short = omega arith

-- a front of a front
pub taken_of_taken : (octets : List ℕ) (n m : ℕ) → n ≤ m → take n (take m octets) ≡ take n octets
taken_of_taken octets n m h =
    let cut : take m octets ++ drop m octets ≡ octets = take-append-drop m octets in
    elim (cases_lt m (length octets)) [
      | inl p ↦ let fits : length (take m octets) ≡ m = length-take-le m octets (omega arith) in
          let low : n ≤ length (take m octets) = omega arith in
          sym (take-append-le n (take m octets) (drop m octets) low) ∙ ap (take n) cut
      | inr p ↦ ap (take n) (take_all m octets p)
    ]

-- where a head ends that was not whole before
pub record EndsIn (held octets text : List ℕ) (before used : ℕ) : Type 0 where
  pub more : before < used
  pub fits : used - before ≤ length octets
  pub is : take used text ≡ held ++ take (used - before) octets

pub ends_any : (P : List ℕ → Type 0) (held octets text : List ℕ) (before taken used : ℕ) → ((front rest : List ℕ) → P front → held ≡ front ++ rest → ⊥) → before ≡ length held
    → taken ≤ length octets → text ≡ held ++ take taken octets → used ≤ length text → P (take used text) → EndsIn held octets text before used
ends_any P held octets text before taken used none is few whole fits p =
    let lengths : length (held ++ take taken octets) ≡ length held + length (take taken octets) = length-append held (take taken octets) in
    let counted : length (take taken octets) ≡ taken = length-take-le taken octets few in
    let all : length text ≡ length (held ++ take taken octets) = ap length whole in
    let there : P (take used (held ++ take taken octets)) = subst (λ (o : List ℕ). P (take used o)) whole p in
    let more : length held < used = ends_behind P held (take taken octets) used none there in
    let short : used - length held ≤ taken = omega arith in
    let cut : take used text ≡ held ++ take (used - length held) octets =
    ap (take used) whole ∙ taken_behind held (take taken octets) used (omega arith) ∙ ap (λ (o : List ℕ). held ++ o) (taken_of_taken octets (used - length held) taken short) in
    record {
      more = omega arith;
      fits = omega arith;
      is = cut ∙ ap (λ n. held ++ take (used - n) octets) (sym is);
    }

pub ends_in : (held octets text : List ℕ) (before taken used : ℕ) (k : grammar.ResponseHead) → HasNoResponse held → before ≡ length held → taken ≤ length octets
    → text ≡ held ++ take taken octets → used ≤ length text → Spelled (take used text) k → EndsIn held octets text before used
ends_in held octets text before taken used k none is few whole fits p =
    ends_any (λ front. Spelled front k) held octets text before taken used
    (λ front rest q e. none k rest (subst (λ (o : List ℕ). ReadsResponse o k rest) (sym e) (spelled_reads front rest k q))) is few whole fits p

-- where a head ends behind nothing
pub record EndsThere (octets text : List ℕ) (used : ℕ) : Type 0 where
  pub more : 0 < used
  pub fits : used ≤ length octets
  pub is : take used text ≡ take used octets

pub ends_there : (octets text : List ℕ) (taken used : ℕ) (k : grammar.ResponseHead) → taken ≤ length octets → text ≡ take taken octets → used ≤ length text → Spelled (take used text) k → EndsThere octets text used
ends_there octets text taken used k few whole fits p =
    let ends = ends_in [] octets text 0 taken used k none_in_nothing refl few whole fits p in
    let all : used - 0 ≡ used = omega arith in
    let within : used - 0 ≤ length octets = ends.fits in
    record { more = ends.more; fits = omega arith; is = ends.is ∙ ap (λ n. take n octets) all }
