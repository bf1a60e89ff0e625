-- The row of a stream whose upstream's answer failed, and those of the others.
use Rattle.std.proofs.Common.{◌≡◌, ℕ, Bool, true, false, not, ◌&&◌, ◌||◌, ◌==◌, List, [], ◌∷◌, Some, None, refl, ◌∙◌, ap, subst, inl, inr, if◌then◌else◌, length, ◌%◌, arith}
use Rattle.std.specs.Prelude.{is_none, nat_lt}
use Rattle.std.specs.List.{list_any, list_all}
use Rattle.std.proofs.lemmas.Bool.{eqb-true, and_parts, le-ltb}
use Rattle.std.proofs.lemmas.Bool.Decides.{eqb_tells}
use Rattle.model.specs.Causes.Cause.{BadAnswer}
use Rattle.model.specs.Courses.{first_of_both}
use Rattle.model.specs.Lifetimes.{may_open}
use Rattle.model.specs.Limits.{most_streams}
use Rattle.theory_errors.specs.Summary.{Stream as Kept}
use Rattle.theory_errors.specs.Judging.{is_over_in}
use Rattle.theory_errors.specs.Rows.{Row, find, kept_in, slot_of}
use Rattle.theory_errors.specs.Rows.Slot.{Live, Over}
use Rattle.streams.specs.Asked.{has, is_active}
use Rattle.streams.specs.Sending.{failed, is_served}
use Rattle.connection_state.specs.Sending.{with_kept}
use Rattle.refinement.proofs.Resets.{find_own, find_other, has_same, active_same}

-- the rows where the answer for a stream failed
abbrev pub failed_rows_of : List Row → ℕ → List Row
failed_rows_of rows id = with_kept id (failed (find rows id)) rows

module _ (rows : List Row) (id : ℕ) (active : is_active rows id ≡ true) where
  abbrev before : Kept
  before = find rows id

  -- the rows behind the failure
  abbrev pub failed_rows : List Row
  failed_rows = with_kept id (failed before) rows

  pub there : has rows id ≡ true
  there = (and_parts (has rows id) (not (is_over_in before)) active).0

  goes_on : is_over_in before ≡ false
  goes_on = by (is_over_in before) (and_parts (has rows id) (not (is_over_in before)) active).1
    where
      by : (b : Bool) → not b ≡ true → b ≡ false
      by false is = refl
      by true is = let no : false ≡ true = is in cc

  pub find_failed : find failed_rows id ≡ failed before
  find_failed = find_own id (slot_of (failed before)) rows there ∙ ap (λ b. kept_in (if b then Over (failed before).reset_by_gateway else Live (failed before))) goes_on

  -- the stream is active still, and the others are as they were
  pub active_then : (other : ℕ) → is_active failed_rows other ≡ is_active rows other
  active_then other = elim (eqb_tells id other) [
    | inl is ↦ subst (λ n. is_active failed_rows n ≡ is_active rows n) is.1
        (ap (λ b. b && not (is_over_in (find failed_rows id))) (has_same id id (slot_of (failed before)) rows) ∙ ap (λ (k : Kept). has rows id && not (is_over_in k)) find_failed)
    | inr apart ↦ active_same id other (slot_of (failed before)) rows apart.0
  ]

  pub ended_then : (other : ℕ) → (find failed_rows other).ended_by_client ≡ (find rows other).ended_by_client
  ended_then other = elim (eqb_tells id other) [
    | inl is ↦ subst (λ n. (find failed_rows n).ended_by_client ≡ (find rows n).ended_by_client) is.1 (ap (λ (k : Kept). k.ended_by_client) find_failed)
    | inr apart ↦ ap (λ (k : Kept). k.ended_by_client) (find_other id other (slot_of (failed before)) rows apart.0)
  ]

  pub served_other : (other : ℕ) → (id == other) ≡ false → is_served failed_rows other ≡ is_served rows other
  served_other other apart =
      ap (λ b. b && is_none (find failed_rows other).outline.cause) (active_then other)
      ∙ ap (λ (k : Kept). is_active rows other && is_none k.outline.cause) (find_other id other (slot_of (failed before)) rows apart)

  module _ (no_cause : before.outline.cause ≡ None) where
    pub cause_then : (find failed_rows id).outline.cause ≡ Some BadAnswer
    cause_then = ap (λ (k : Kept). k.outline.cause) find_failed ∙ ap (λ c. first_of_both c (Some BadAnswer)) no_cause

    -- the stream isn't served any more
    pub not_served : is_served failed_rows id ≡ false
    not_served = ap (λ c. is_active failed_rows id && is_none c) cause_then ∙ by (is_active failed_rows id)
      where
        by : (b : Bool) → (b && false) ≡ false
        by true = refl
        by false = refl

-- ---- a stream that was opened can't be opened again

and_false : (b : Bool) → (b && false) ≡ false
and_false true = refl
and_false false = refl

not_below_itself : (n : ℕ) → nat_lt n n ≡ false
not_below_itself n = le-ltb n n (omega arith)

not_above : (id : ℕ) (ids : List ℕ) → list_any (λ other. other == id) ids ≡ true → list_all (λ other. nat_lt other id) ids ≡ false
not_above id [] is = let no : false ≡ true = is in cc
not_above id (x ∷ xs) is = one (x == id) refl is (not_above id xs)
  where
    one : (b : Bool) → (x == id) ≡ b → (b || list_any (λ other. other == id) xs) ≡ true → (list_any (λ other. other == id) xs ≡ true → list_all (λ other. nat_lt other id) xs ≡ false) → (nat_lt x id && list_all (λ other. nat_lt other id) xs) ≡ false
    one true same has_it rest = ap (λ b. b && list_all (λ other. nat_lt other id) xs) (ap (λ n. nat_lt n id) (eqb-true x id same) ∙ not_below_itself id)
    one false apart has_it rest = ap (λ b. nat_lt x id && b) (rest has_it) ∙ and_false (nat_lt x id)

pub opened_once : (drained : Bool) (ids : List ℕ) (id : ℕ) → list_any (λ other. other == id) ids ≡ true → may_open drained ids id ≡ false
opened_once drained ids id there =
    let above : list_all (λ other. nat_lt other id) ids ≡ false = not_above id ids there in
    by (id % 2 == 1) (list_all (λ other. nat_lt other id) ids) (not drained && nat_lt (length ids) most_streams) above
  where
    by : (a b c : Bool) → b ≡ false → (a && b && c) ≡ false
    by true true c is = let no : true ≡ false = is in cc
    by true false c is = refl
    by false b c is = refl
