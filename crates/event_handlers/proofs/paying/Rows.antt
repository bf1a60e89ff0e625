-- Rows behind octets that are given back on one stream: nothing but its room changes.
use Rattle.std.proofs.Common.{◌≡◌, ℕ, suc, Bool, true, false, not, ◌&&◌, ◌||◌, ◌==◌, List, [], ◌∷◌, length, filter, refl, sym, ◌∙◌, ap, inl, inr, if◌then◌else◌, arith}
use Rattle.std.specs.Prelude.{is_none}
use Rattle.std.specs.List.{list_any}
use Rattle.std.proofs.lemmas.Bool.{and_parts, not-true, ne_eqb, eqb-true}
use Rattle.std.proofs.lemmas.Bool.Decides.{eqb_tells}
use Rattle.model.specs.Lifetimes.{may_open}
use Rattle.model.specs.Limits.{most_streams}
use Rattle.model.proofs.OpenedLaws.{not_opened}
use Rattle.theory_errors.specs.Summary.{Stream as Kept}
use Rattle.theory_errors.specs.Judging.{is_over_in}
use Rattle.theory_errors.specs.Rows.{Row, Slot, ids_of, find, kept_in, slot_of}
use Rattle.theory_errors.specs.Rows.Slot.{Live, Over}
use Rattle.theory_responses.proofs.Listing.{filter_same}
use Rattle.streams.specs.Asked.{with_slot, changed, has, is_active}
use Rattle.streams.specs.Sending.{given_back, is_served}
use Rattle.streams.proofs.Changes.{same_ids}
use Rattle.connection_state.specs.Sending.{with_kept}
use Rattle.refinement.specs.View.{View}
use Rattle.refinement.specs.Rest.{GoesOn}

-- ---- one row changes

-- what is found of its stream, and of the others
find_own : (id : ℕ) (slot : Slot) (rows : List Row) → has rows id ≡ true → find (changed id slot rows) id ≡ kept_in slot
find_own id slot [] there = absurd (let no : false ≡ true = there in cc)
find_own id slot (row ∷ rows) there = by (row.id == id) refl there (λ rest. find_own id slot rows rest)
  where
    by : (b : Bool) → (row.id == id) ≡ b → (b || has rows id) ≡ true → (has rows id ≡ true → find (changed id slot rows) id ≡ kept_in slot) → (if (with_slot id slot row).id == id then kept_in (with_slot id slot row).slot else find (changed id slot rows) id) ≡ kept_in slot
    by true own there more =
        ap (λ b. let r : Row = if b then record { id = row.id; slot = slot } else row in if r.id == id then kept_in r.slot else find (changed id slot rows) id) own
        ∙ ap (λ b. if b then kept_in slot else find (changed id slot rows) id) own
    by false apart there more =
        ap (λ b. let r : Row = if b then record { id = row.id; slot = slot } else row in if r.id == id then kept_in r.slot else find (changed id slot rows) id) apart
        ∙ ap (λ b. if b then kept_in row.slot else find (changed id slot rows) id) apart
        ∙ more there

find_beside : (id other : ℕ) (slot : Slot) (rows : List Row) → (id ≡ other → ⊥) → find (changed id slot rows) other ≡ find rows other
find_beside id other slot [] apart = refl
find_beside id other slot (row ∷ rows) apart = elim (eqb_tells row.id id) [
  | inl own ↦
      ap (λ b. let r : Row = if b then record { id = row.id; slot = slot } else row in if r.id == other then kept_in r.slot else find (changed id slot rows) other) own.0
      ∙ ap (λ b. if b then kept_in slot else find (changed id slot rows) other) (ne_eqb row.id other (λ same. apart (sym own.1 ∙ same)))
      ∙ find_beside id other slot rows apart
      ∙ sym (ap (λ b. if b then kept_in row.slot else find rows other) (ne_eqb row.id other (λ same. apart (sym own.1 ∙ same))))
  | inr away ↦
      ap (λ b. let r : Row = if b then record { id = row.id; slot = slot } else row in if r.id == other then kept_in r.slot else find (changed id slot rows) other) away.0
      ∙ ap (λ k. if row.id == other then kept_in row.slot else k) (find_beside id other slot rows apart)
]

-- ---- octets are given back on an active stream

module _ (rows : List Row) (id count : ℕ) (live : is_active rows id ≡ true) where
  abbrev given : List Row
  given = with_kept id (given_back count (find rows id)) rows

  found : find given id ≡ given_back count (find rows id)
  found =
      let parts = and_parts (has rows id) (not (is_over_in (find rows id))) live in
      find_own id (slot_of (given_back count (find rows id))) rows parts.0
      ∙ ap (λ b. kept_in (if b then Over (find rows id).reset_by_gateway else Live (given_back count (find rows id)))) (not-true (is_over_in (find rows id)) parts.1)

  -- whatever doesn't look at the room stays
  pub stays : {A : Type 0} (look : Kept → A) → ((k : Kept) → look (given_back count k) ≡ look k) → (other : ℕ) → look (find given other) ≡ look (find rows other)
  stays look same other = elim (eqb_tells id other) [
    | inl own ↦ ap (λ n. look (find given n)) (sym own.1) ∙ ap look found ∙ same (find rows id) ∙ ap (λ n. look (find rows n)) own.1
    | inr apart ↦ ap look (find_beside id other (slot_of (given_back count (find rows id))) rows apart.1)
  ]

  pub has_stays : (other : ℕ) → has given other ≡ has rows other
  has_stays other = ap (λ (ids : List ℕ). list_any (λ n. n == other) ids) (same_ids id (slot_of (given_back count (find rows id))) rows)

  pub active_stays : (other : ℕ) → is_active given other ≡ is_active rows other
  active_stays other = ap (λ b. b && not (is_over_in (find given other))) (has_stays other) ∙ ap (λ b. has rows other && not b) (stays is_over_in (λ k. refl) other)

  pub served_stays : (other : ℕ) → is_served given other ≡ is_served rows other
  served_stays other = ap (λ b. b && is_none (find given other).outline.cause) (active_stays other) ∙ ap (λ b. is_active rows other && b) (stays (λ k. is_none k.outline.cause) (λ k. refl) other)

  -- whether none may be opened and none is active
  pub exhausted_stays : (drained : Bool) (most : ℕ) → ((drained || length (ids_of given) == most) && length (filter (λ n. not (is_over_in (find given n))) (ids_of given)) == 0) ≡ ((drained || length (ids_of rows) == most) && length (filter (λ n. not (is_over_in (find rows n))) (ids_of rows)) == 0)
  exhausted_stays drained most =
      ap (λ (ids : List ℕ). (drained || length ids == most) && length (filter (λ n. not (is_over_in (find given n))) ids) == 0) (same_ids id (slot_of (given_back count (find rows id))) rows)
      ∙ ap (λ (ids : List ℕ). (drained || length (ids_of rows) == most) && length ids == 0) (filter_same (λ n. not (is_over_in (find given n))) (λ n. not (is_over_in (find rows n))) (λ n. ap not (stays is_over_in (λ k. refl) n)) (ids_of rows))

-- a stream that was opened isn't to be opened
pub not_to_open : (drained : Bool) (ids : List ℕ) (id : ℕ) → list_any (λ other. other == id) ids ≡ true → may_open drained ids id ≡ false
not_to_open drained ids id there = by (may_open drained ids id) refl
  where
    by : (b : Bool) → may_open drained ids id ≡ b → may_open drained ids id ≡ false
    by true may = absurd (let no : false ≡ true = sym (not_opened drained ids id may) ∙ there in cc)
    by false none = none

-- where a test passes one, some are left
some_left : (test : ℕ → Bool) (ids : List ℕ) (id : ℕ) → list_any (λ other. other == id) ids ≡ true → test id ≡ true → (length (filter test ids) == 0) ≡ false
some_left test [] id there passes = absurd (let no : false ≡ true = there in cc)
some_left test (x ∷ ids) id there passes = by (x == id) refl (test x) refl there (λ rest. some_left test ids id rest passes)
  where
    above : (xs : List ℕ) → (length (x ∷ xs) == 0) ≡ false
    above xs = ne_eqb (length (x ∷ xs)) 0 (λ same. let none : suc (length xs) ≡ 0 = same in omega (arith, none))

    by : (own : Bool) → (x == id) ≡ own → (b : Bool) → test x ≡ b → (own || list_any (λ other. other == id) ids) ≡ true → (list_any (λ other. other == id) ids ≡ true → (length (filter test ids) == 0) ≡ false) → (length (filter test (x ∷ ids)) == 0) ≡ false
    by own is true keeps there more = ap (λ b. length (if b then x ∷ filter test ids else filter test ids) == 0) keeps ∙ above (filter test ids)
    by true is false fails there more = absurd (let clash : true ≡ false = sym passes ∙ ap test (sym (eqb-true x id is)) ∙ fails in cc)
    by false is false fails there more = ap (λ b. length (if b then x ∷ filter test ids else filter test ids) == 0) fails ∙ more there

-- While a stream is active the connection isn't to end.
pub active_goes_on : (kept : View) (id : ℕ) → is_active kept.inbound.rows id ≡ true → GoesOn kept
active_goes_on kept id live =
    let parts = and_parts (has kept.inbound.rows id) (not (is_over_in (find kept.inbound.rows id))) live in
    ap (λ b. (kept.inbound.drained || length (ids_of kept.inbound.rows) == most_streams) && b) (some_left (λ n. not (is_over_in (find kept.inbound.rows n))) (ids_of kept.inbound.rows) id parts.0 parts.1)
    ∙ none (kept.inbound.drained || length (ids_of kept.inbound.rows) == most_streams)
  where
    none : (b : Bool) → (b && false) ≡ false
    none true = refl
    none false = refl
