-- Sending windows of streams that aren't active.
use Rattle.std.proofs.Common.{◌≡◌, ℕ, ◌||◌, ◌&&◌, not, if◌then◌else◌, true, false, List, [], ◌∷◌, pos, ◌+ℤ◌, refl, sym, ap, ◌∙◌, inl, inr, arith}
use Rattle.std.proofs.lemmas.Int.{ints}
use Rattle.std.proofs.lemmas.Bool.Decides.{eqb_tells}
use Rattle.theory_errors.specs.Judging.{is_over_in, window_in}
use Rattle.theory_errors.specs.Rows.{Row, Slot, find, kept_in}
use Rattle.theory_errors.specs.Rows.Slot.{Live, Over}
use Rattle.theory_errors.specs.Tidy.{AreKept, IsTidy}
use Rattle.streams.specs.Asked.{has, is_active}

-- nothing was granted to one, as far as it is kept, and nothing sent on it
pub no_balance : (rows : List Row) (id : ℕ) → AreKept rows → is_active rows id ≡ false → (find rows id).balance ≡ pos 0
no_balance [] id kept over = refl
no_balance (row ∷ rows) id kept over = elim (eqb_tells row.id id) [
  | inl same ↦
      ap (λ b. (if b then kept_in row.slot else find rows id).balance) same.0
      ∙ its row.slot kept.0.tidy (sym (ap (λ b. (b || has rows id) && not (is_over_in (if b then kept_in row.slot else find rows id))) same.0) ∙ over)
  | inr apart ↦
      ap (λ b. (if b then kept_in row.slot else find rows id).balance) apart.0
      ∙ no_balance rows id kept.2 (sym (ap (λ b. (b || has rows id) && not (is_over_in (if b then kept_in row.slot else find rows id))) apart.0) ∙ over)
]
  where
    its : (slot : Slot) → IsTidy slot → not (is_over_in (kept_in slot)) ≡ false → (kept_in slot).balance ≡ pos 0
    its (Live kept) tidy e = absurd (let no : true ≡ false = sym (ap not tidy.0) ∙ e in cc)
    its (Over by_us) tidy e = refl

-- so its window is as large as windows are at first
pub no_window : (first : ℕ) (rows : List Row) (id : ℕ) → AreKept rows → is_active rows id ≡ false → window_in first (find rows id) ≡ pos first
no_window first rows id kept over = ap (λ b. pos first +ℤ b) (no_balance rows id kept over) ∙ omega (arith, ints)
