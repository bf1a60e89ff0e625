-- Rows of streams where what is kept of one changes.
use Rattle.std.proofs.Common.{◌≡◌, ℕ, Bool, true, false, not, ◌&&◌, ◌||◌, ◌==◌, if◌then◌else◌, List, [], ◌∷◌, refl, sym, ◌∙◌, ap}
use Rattle.std.proofs.lemmas.Bool.{eqb-true}
use Rattle.std.specs.List.{list_any}
use Rattle.theory_errors.specs.Summary.{Stream as Kept}
use Rattle.theory_errors.specs.Judging.{is_over_in}
use Rattle.theory_errors.specs.Rows.{Row, Slot, find, kept_in, slot_of}
use Rattle.theory_errors.specs.Rows.Slot.{Live, Over}
use Rattle.streams.specs.Asked.{has, is_active, changed}
use Rattle.streams.proofs.Changes.{same_ids}
use Rattle.streams.proofs.Asked.{closed_is_over}

-- a test that fails
pub not_flip : (b : Bool) → not b ≡ true → b ≡ false
not_flip true e = absurd (let clash : false ≡ true = e in cc)
not_flip false e = refl

-- the same streams were opened
pub has_same : (id : ℕ) (slot : Slot) (rows : List Row) (other : ℕ) → has (changed id slot rows) other ≡ has rows other
has_same id slot rows other = ap (λ (ids : List ℕ). list_any (λ n. n == other) ids) (same_ids id slot rows)

-- what is kept of another stream stays
pub found_other : (id : ℕ) (slot : Slot) (rows : List Row) (other : ℕ) → (id == other) ≡ false → find (changed id slot rows) other ≡ find rows other
found_other id slot [] other apart = refl
found_other id slot (row ∷ rows) other apart = by (row.id == id) refl (found_other id slot rows other apart)
  where
    by : (b : Bool) → (row.id == id) ≡ b → find (changed id slot rows) other ≡ find rows other
        → (if (if b then record { id = row.id; slot = slot } else row).id == other then kept_in (if b then record { id = row.id; slot = slot } else row).slot else find (changed id slot rows) other) ≡ (if row.id == other then kept_in row.slot else find rows other)
    by true same rest =
        let elsewhere : (row.id == other) ≡ false = ap (λ n. n == other) (eqb-true row.id id same) ∙ apart in
        ap (λ b. if b then kept_in slot else find (changed id slot rows) other) elsewhere ∙ rest ∙ sym (ap (λ b. if b then kept_in row.slot else find rows other) elsewhere)
    by false same rest = ap (λ (k : Kept). if row.id == other then kept_in row.slot else k) rest

-- this is kept of the stream that changes
pub found_own : (id : ℕ) (slot : Slot) (rows : List Row) → has rows id ≡ true → find (changed id slot rows) id ≡ kept_in slot
found_own id slot [] there = absurd (let no : false ≡ true = there in cc)
found_own id slot (row ∷ rows) there = by (row.id == id) refl there (found_own id slot rows)
  where
    by : (b : Bool) → (row.id == id) ≡ b → (b || has rows id) ≡ true → (has rows id ≡ true → find (changed id slot rows) id ≡ kept_in slot)
        → (if (if b then record { id = row.id; slot = slot } else row).id == id then kept_in (if b then record { id = row.id; slot = slot } else row).slot else find (changed id slot rows) id) ≡ kept_in slot
    by true same there rest = ap (λ b. if b then kept_in slot else find (changed id slot rows) id) same
    by false same there rest = ap (λ b. if b then kept_in row.slot else find (changed id slot rows) id) same ∙ rest there

-- whether a stream is over is told by its slot
pub over_told : (kept : Kept) → is_over_in (kept_in (slot_of kept)) ≡ is_over_in kept
over_told kept = by (is_over_in kept) refl
  where
    by : (b : Bool) → is_over_in kept ≡ b → is_over_in (kept_in (if b then Over kept.reset_by_gateway else Live kept)) ≡ is_over_in kept
    by true over = closed_is_over kept.reset_by_gateway ∙ sym over
    by false over = refl

-- whether another stream is active stays
pub active_other : (id : ℕ) (slot : Slot) (rows : List Row) (other : ℕ) → (id == other) ≡ false → is_active (changed id slot rows) other ≡ is_active rows other
active_other id slot rows other apart =
    ap (λ b. b && not (is_over_in (find (changed id slot rows) other))) (has_same id slot rows other)
    ∙ ap (λ (k : Kept). has rows other && not (is_over_in k)) (found_other id slot rows other apart)

-- the stream that changes is active where its slot isn't over
pub active_own : (id : ℕ) (slot : Slot) (rows : List Row) → has rows id ≡ true → is_active (changed id slot rows) id ≡ not (is_over_in (kept_in slot))
active_own id slot rows there =
    ap (λ b. b && not (is_over_in (find (changed id slot rows) id))) (has_same id slot rows id ∙ there)
    ∙ ap (λ (k : Kept). not (is_over_in k)) (found_own id slot rows there)
