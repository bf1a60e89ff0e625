-- The order of pseudo-fields.
use Rattle.std.proofs.Common.{◌≡◌, ◌<◌, Bool, true, false, List, [], ◌∷◌, ◌++◌, length, get_or, filter, refl, sym, ap, ◌∙◌, inl, inr, arith}
use Rattle.std.specs.Prelude.{not, ◌&&◌, MatchBool}
use Rattle.std.specs.List.{list_all}
use Rattle.std.proofs.lemmas.Bool.{false≢true, cases_Bool, not_from_true, cond-true, cond-false, and_parts, and_from, not-true, not_from_false}
use Rattle.model.specs.Messages.{Field}
use Rattle.model.specs.Http2.{is_pseudo, pseudo_fields, regular_fields}
use Rattle.model.proofs.Http1Texts.{filter_all}
use Rattle.model.proofs.Http2Sends.{kept_pass}

abbrev pub StandFirst : List Field → Type 0
StandFirst fields = fields ≡ pseudo_fields fields ++ regular_fields fields

-- fields that all fail a test leave none that pass it
pub none_pass : (test : Field → Bool) (fields : List Field) → list_all (λ field. not (test field)) fields ≡ true → filter test fields ≡ []
none_pass test [] p = refl
none_pass test (field ∷ fields) p =
    let parts = and_parts (not (test field)) _ p in
    cond-false (test field) (field ∷ filter test fields) (filter test fields) (not-true _ parts.0) ∙ none_pass test fields parts.1

pub all_fail : (test : Field → Bool) (fields : List Field) → filter test fields ≡ [] → list_all (λ field. not (test field)) fields ≡ true
all_fail test [] e = refl
all_fail test (field ∷ fields) e =
    elim (cases_Bool (test field)) [
      | inl p ↦ let none : field ∷ filter test fields ≡ [] = sym (cond-true (test field) (field ∷ filter test fields) (filter test fields) p) ∙ e in cc
      | inr p ↦ and_from (not (test field)) _ (not_from_false _ p)
          (all_fail test fields (sym (cond-false (test field) (field ∷ filter test fields) (filter test fields) p) ∙ e))
    ]

-- a list that begins with a field that fails, and is the passing ones and others, has no passing one
first_fails : (test : Field → Bool) (field : Field) (fields kept others : List Field) → test field ≡ false → list_all test kept ≡ true → field ∷ fields ≡ kept ++ others → kept ≡ []
first_fails test field fields [] others p q e = refl
first_fails test field fields (first ∷ kept) others p q e =
    let same : field ≡ first = cc in
    absurd (false≢true (sym p ∙ ap test same ∙ (and_parts (test first) (list_all test kept) q).0))

pub regular_first : (field : Field) (fields : List Field) → is_pseudo field ≡ false → StandFirst (field ∷ fields) → list_all (λ f. not (is_pseudo f)) (field ∷ fields) ≡ true
regular_first field fields p e =
    all_fail is_pseudo (field ∷ fields) (first_fails is_pseudo field fields (pseudo_fields (field ∷ fields)) (regular_fields (field ∷ fields)) p (kept_pass is_pseudo (field ∷ fields)) e)

pub all_regular : (fields : List Field) → list_all (λ f. not (is_pseudo f)) fields ≡ true → StandFirst fields
all_regular fields p =
    sym (ap (λ (front : List Field). front ++ regular_fields fields) (none_pass is_pseudo fields p) ∙ filter_all (λ f. not (is_pseudo f)) fields p)

-- behind a pseudo-field the order is that of the rest
pub pseudo_next : (field : Field) (fields : List Field) → is_pseudo field ≡ true → (StandFirst fields → StandFirst (field ∷ fields)) × (StandFirst (field ∷ fields) → StandFirst fields)
pseudo_next field fields p =
    let front : pseudo_fields (field ∷ fields) ≡ field ∷ pseudo_fields fields = cond-true (is_pseudo field) (field ∷ pseudo_fields fields) (pseudo_fields fields) p in
    let rest : regular_fields (field ∷ fields) ≡ regular_fields fields = cond-false (not (is_pseudo field)) (field ∷ regular_fields fields) (regular_fields fields) (not_from_true _ p) in (
      λ e. ap (λ (fs : List Field). field ∷ fs) e ∙ sym (ap (λ (fs : List Field). fs ++ regular_fields (field ∷ fields)) front ∙ ap (λ (fs : List Field). (field ∷ pseudo_fields fields) ++ fs) rest),
      λ e. let whole : field ∷ fields ≡ field ∷ (pseudo_fields fields ++ regular_fields fields) =
          e ∙ ap (λ (fs : List Field). fs ++ regular_fields (field ∷ fields)) front ∙ ap (λ (fs : List Field). (field ∷ pseudo_fields fields) ++ fs) rest in
          cc (whole),
    )

pub record SameOrder (rest head : List Field) : Type 0 where
  pub to : StandFirst rest → StandFirst head
  pub from : StandFirst head → StandFirst rest

pub same_order_next : (field : Field) (fields head : List Field) → is_pseudo field ≡ true → SameOrder (field ∷ fields) head → SameOrder fields head
same_order_next field fields head p same =
    let step = pseudo_next field fields p in
    record { to = λ e. same.to (step.0 e); from = λ e. step.1 (same.from e) }

pub order_of_rest : (b : Bool) (field : Field) (fields head : List Field) → is_pseudo field ≡ false → b ≡ list_all (λ f. not (is_pseudo f)) (field ∷ fields) → SameOrder (field ∷ fields) head → MatchBool b (StandFirst head) (StandFirst head → ⊥)
order_of_rest true field fields head p e same = same.to (all_regular (field ∷ fields) (sym e))
order_of_rest false field fields head p e same = λ q. false≢true (e ∙ regular_first field fields p (same.from q))

pub order_at : (b : Bool) (first : Field) (rest head : List Field) → 0 < length rest → first ≡ get_or rest 0 first → is_pseudo first ≡ false
    → b ≡ list_all (λ f. not (is_pseudo f)) rest → SameOrder rest head → MatchBool b (StandFirst head) (StandFirst head → ⊥)
order_at b first [] head some is p e same = absurd (omega arith)
order_at b first (field ∷ fields) head some is p e same = order_of_rest b field fields head (ap is_pseudo (sym is) ∙ p) e same
