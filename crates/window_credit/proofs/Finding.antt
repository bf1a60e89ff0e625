-- What a search by halves finds among streams whose ids rise.
use Rattle.std.proofs.Common.{◌≡◌, ℕ, ◌<◌, ◌≤◌, List, length, Result, Ok, Err, sym, ap, inl, inr, arith}
use Rattle.std.specs.Prelude.{None, IfSome, IfNone}
use Rattle.std.specs.Result.{result_ok}
use Rattle.std.proofs.lemmas.Bool.{cases_lt}
use Rattle.std.specs.List.Sorted.{IsSearchInRange, IsBinarySearchResult, IsNonDecreasingBy}
use Rattle.std.specs.Ordering.{nat_cmp, ordering_index}
use Rattle.std.proofs.lemmas.Cmp.{ranked}
use Rattle.std.proofs.lemmas.List.Sorted.{IsNonDecreasingBy-from_default}
use Rattle.std.proofs.lemmas.Bool.Decides.{nat_tests}
use Rattle.window_credit.specs.Sides.{Side, opened, find}
use Rattle.window_credit.specs.Places.{at, AreRising, IsAt}
use Rattle.window_credit.proofs.Rising.{rises, find_none}

module _ (sides : List Side) (rising : AreRising sides) (id : ℕ) where
  -- ids don't fall
  not_below : (i j : ℕ) → i ≤ j → j < length sides → (at sides i).id ≤ (at sides j).id
  not_below i j le within = grind (arith, rises sides i j rising, λ (same : i ≡ j). ap (λ n. (at sides n).id) same)

  -- so the comparisons with an id rise, as a binary search asks
  comparisons_rise : IsNonDecreasingBy (λ (side : Side). ordering_index (nat_cmp side.id id)) sides
  comparisons_rise = IsNonDecreasingBy-from_default (λ (side : Side). ordering_index (nat_cmp side.id id)) sides (opened 0 0 0 0) (λ i j le within.
      let ids_rise : (at sides i).id ≤ (at sides j).id = not_below i j le within in
      grind (arith, nat_tests))

  -- a binary search by the id ends at its stream, or says that there is none
  pub searched : (r : Result ℕ ℕ) → IsSearchInRange r (length sides) → IsBinarySearchResult (λ (side : Side). nat_cmp side.id id) sides r → record { found : IfSome (result_ok r) (IsAt sides id); absent : IfNone (result_ok r) (find id sides ≡ None) }
  searched (Ok place) in_range equal = record { found = record { within = in_range; has_id = ranked _ id _ (sym (equal (opened 0 0 0 0))) }; absent = tt }
  searched (Err place) in_range parted = record {
    found = tt;
    absent = find_none id sides (λ i within same. elim (cases_lt i place) [
      | inl before ↦ (let less : (at sides i).id < id = ranked _ id _ (sym ((parted comparisons_rise).0 i (opened 0 0 0 0) (omega arith) before)) in omega (arith, less, same))
      | inr from ↦ (let more : id < (at sides i).id = ranked _ id _ (sym ((parted comparisons_rise).1 i (opened 0 0 0 0) from within)) in omega (arith, more, same))
    ]);
  }
