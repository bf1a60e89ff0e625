-- What is told of all streams is so where it is so of each that was opened.
use Rattle.std.proofs.Common.{◌≡◌, ℕ, Bool, true, false, ◌==◌, ◌&&◌, ◌||◌, List, [], ◌∷◌, sym, ap, ◌∙◌, subst, inl, inr}
use Rattle.std.specs.Prelude.{is_none, not}
use Rattle.std.specs.List.{list_any, list_all}
use Rattle.std.proofs.lemmas.Bool.{cases_Bool, and_parts}
use Rattle.std.proofs.lemmas.Bool.Decides.{eqb_tells}
use Rattle.model.specs.Tapes.{Entry, is_closed}
use Rattle.model.specs.Known.{Known}
use Rattle.model.specs.Lifetimes.{opened, is_opened, is_over}
use Rattle.model.specs.Courses.{cause}
use Rattle.model.specs.ErrorClause.{must_end}
use Rattle.theory_requests.specs.Told.{Told, IsTold, is_served}

-- the id is one of these
abbrev pub is_one : List ℕ → ℕ → Bool
is_one ids stream = list_any (λ id. id == stream) ids

-- just these streams are served, and the connection goes on
abbrev pub serving : List ℕ → Told
serving ids = record { served = is_one ids; ends = false; closed = false }

-- Each of these streams is served just where it is one of those.
abbrev pub AreServed : Known → List Entry → List ℕ → List ℕ → Type 0
AreServed known t ids [] = Unit {0}
AreServed known t ids (id ∷ others) = (is_one ids id ≡ is_served known id t) × AreServed known t ids others

-- what holds of each holds of one of them
served_one : (known : Known) (t : List Entry) (ids others : List ℕ) (stream : ℕ) → AreServed known t ids others → is_one others stream ≡ true → is_one ids stream ≡ is_served known stream t
served_one known t ids [] stream all is = absurd (cc)
served_one known t ids (id ∷ others) stream all is = elim (eqb_tells id stream) [
  | inl same ↦ subst (λ n. is_one ids n ≡ is_served known n t) same.1 all.0
  | inr apart ↦ served_one known t ids others stream all.1 (sym (ap (λ b. b || is_one others stream) apart.0) ∙ is)
]

-- one of some that were opened was opened
opened_one : (t : List Entry) (ids : List ℕ) (stream : ℕ) → list_all (λ id. is_opened id t) ids ≡ true → is_one ids stream ≡ true → is_opened stream t ≡ true
opened_one t [] stream all is = absurd (cc)
opened_one t (id ∷ ids) stream all is =
    let parts = and_parts (is_opened id t) (list_all (λ id. is_opened id t) ids) all in
    elim (eqb_tells id stream) [
      | inl same ↦ sym (ap (λ n. is_opened n t) same.1) ∙ parts.0
      | inr apart ↦ opened_one t ids stream parts.1 (sym (ap (λ b. b || is_one ids stream) apart.0) ∙ is)
    ]

pub told_by : (known : Known) (t : List Entry) (ids : List ℕ) → AreServed known t ids (opened t) → list_all (λ id. is_opened id t) ids ≡ true → must_end known t ≡ false → is_closed t ≡ false → IsTold known t (serving ids)
told_by known t ids all were goes_on open_yet = record { served = served; ends = sym goes_on; closed = sym open_yet }
  where
    none : (stream : ℕ) → is_opened stream t ≡ false → is_one ids stream ≡ false
    none stream shut = elim (cases_Bool (is_one ids stream)) [
      | inl is ↦ absurd (let clash : true ≡ false = sym (opened_one t ids stream were is) ∙ shut in cc)
      | inr not_one ↦ not_one
    ]

    served : (stream : ℕ) → is_one ids stream ≡ is_served known stream t
    served stream = elim (cases_Bool (is_opened stream t)) [
      | inl is ↦ served_one known t ids (opened t) stream all is
      | inr shut ↦ none stream shut ∙ sym (ap (λ b. b && not (is_over stream t) && is_none (cause known stream t)) shut)
    ]
