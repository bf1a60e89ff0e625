-- What a search by halves finds among streams whose ids rise.
use Rattle.std.proofs.Common.{◌≡◌, ℕ, ◌+◌, ◌<◌, ◌≤◌, List, length, take, drop, true, false, Result, Ok, Err, sym, ap, ◌∙◌, subst, inl, inr, arith, get_or, length-drop}
use lib.Seq.{length-take-le}
use Rattle.std.specs.Prelude.{None, nat_le, nat_lt, IfSome, IfNone}
use Rattle.std.proofs.lemmas.List.{get_or_default, get_or-take, get_or-drop}
use Rattle.std.proofs.lemmas.List.Elements.{recursion_from_All}
use Rattle.std.specs.Result.{result_ok}
use Rattle.std.proofs.lemmas.Bool.{cases_lt}
use Rattle.std.specs.List.Sorted.{IsSearchInRange, IsBinarySearchResult, IsNonDecreasingBy, IsPartitionedBy, IsPartitionPoint}
use Rattle.std.specs.Ordering.{nat_cmp, ordering_index}
use Rattle.std.proofs.lemmas.Cmp.{ranked}
use Rattle.std.proofs.lemmas.List.Sorted.{IsNonDecreasingBy-from_default}
use Rattle.std.proofs.lemmas.Bool.Decides.{nat_tests}
use Rattle.theory_responses.specs.State.{Kept, blank, find}
use Rattle.send_queue.specs.Places.{at, AreRising, IsAt, IsSplit, IsSplitBelow}
use Rattle.send_queue.proofs.Rising.{rises, find_none}

module _ (ks : List Kept) (rising : AreRising ks) (id : ℕ) where
  -- ids don't fall
  not_below : (i j : ℕ) → i ≤ j → j < length ks → (at ks i).id ≤ (at ks j).id
  not_below i j le within = grind (arith, rises ks i j rising, λ (same : i ≡ j). ap (λ n. (at ks n).id) same)

  -- so the comparisons with an id rise, as a binary search asks
  comparisons_rise : IsNonDecreasingBy (λ (k : Kept). ordering_index (nat_cmp k.id id)) ks
  comparisons_rise = IsNonDecreasingBy-from_default (λ (k : Kept). ordering_index (nat_cmp k.id id)) ks (blank 0) (λ i j le within.
      let ids_rise : (at ks i).id ≤ (at ks j).id = not_below i j le within in
      grind (arith, nat_tests))

  -- a binary search by the id ends at its stream, or says that there is none
  pub searched : (r : Result ℕ ℕ) → IsSearchInRange r (length ks) → IsBinarySearchResult (λ (k : Kept). nat_cmp k.id id) ks r → record { found : IfSome (result_ok r) (IsAt ks id); absent : IfNone (result_ok r) (find id ks ≡ None) }
  searched (Ok place) in_range equal = record { found = record { within = in_range; has_id = ranked _ id _ (sym (equal (blank 0))) }; absent = tt }
  searched (Err place) in_range parted = record {
    found = tt;
    absent = find_none id ks (λ i within same. elim (cases_lt i place) [
      | inl before ↦ (let less : (at ks i).id < id = ranked _ id _ (sym ((parted comparisons_rise).0 i (blank 0) (omega arith) before)) in omega (arith, less, same))
      | inr from ↦ (let more : id < (at ks i).id = ranked _ id _ (sym ((parted comparisons_rise).1 i (blank 0) from within)) in omega (arith, more, same))
    ]);
  }

  -- ids up to one come before those above it
  pub parted : IsPartitionedBy (λ (k : Kept). nat_le k.id id) ks
  parted i j d le within upto =
      let at_i : get_or ks i d ≡ at ks i = get_or_default ks i d (blank 0) (omega (arith, le, within)) in
      let at_j : get_or ks j d ≡ at ks j = get_or_default ks j d (blank 0) within in
      let low : nat_le (at ks j).id id ≡ true = sym (ap (λ (k : Kept). nat_le k.id id) at_j) ∙ upto in
      let ids_rise : (at ks i).id ≤ (at ks j).id = not_below i j le within in
      ap (λ (k : Kept). nat_le k.id id) at_i ∙ grind (arith, nat_tests)

  -- so a search by halves parts them
  pub splits : (place : ℕ) → place ≤ length ks → IsPartitionPoint (λ (k : Kept). nat_le k.id id ≡ true) (λ (k : Kept). nat_le k.id id ≡ false) ks place → IsSplit ks id place
  splits place in_range parts = record {
    within = in_range;
    upto = recursion_from_All (λ (k : Kept). k.id ≤ id) (take place ks) (λ i d within.
        let lt : i < place = omega (arith, within, length-take-le place ks in_range) in
        let low : nat_le (get_or ks i d).id id ≡ true = parts.0 i d (omega arith) lt in
        let le : (get_or ks i d).id ≤ id = grind (arith, nat_tests) in
        subst (λ (k : Kept). k.id ≤ id) (sym (get_or-take place ks i d lt)) le);
    above = recursion_from_All (λ (k : Kept). id < k.id) (drop place ks) (λ i d within.
        let high : nat_le (get_or ks (place + i) d).id id ≡ false = parts.1 (place + i) d (omega arith) (omega (arith, within, length-drop place ks)) in
        let lt : id < (get_or ks (place + i) d).id = grind (arith, nat_tests) in
        subst (λ (k : Kept). id < k.id) (sym (get_or-drop place ks i d)) lt);
  }

  -- ids below one come before those that aren't
  pub parted_below : IsPartitionedBy (λ (k : Kept). nat_lt k.id id) ks
  parted_below i j d le within upto =
      let at_i : get_or ks i d ≡ at ks i = get_or_default ks i d (blank 0) (omega (arith, le, within)) in
      let at_j : get_or ks j d ≡ at ks j = get_or_default ks j d (blank 0) within in
      let low : nat_lt (at ks j).id id ≡ true = sym (ap (λ (k : Kept). nat_lt k.id id) at_j) ∙ upto in
      let ids_rise : (at ks i).id ≤ (at ks j).id = not_below i j le within in
      ap (λ (k : Kept). nat_lt k.id id) at_i ∙ grind (arith, nat_tests)

  -- so a search by halves parts them
  pub splits_below : (place : ℕ) → place ≤ length ks → IsPartitionPoint (λ (k : Kept). nat_lt k.id id ≡ true) (λ (k : Kept). nat_lt k.id id ≡ false) ks place → IsSplitBelow ks id place
  splits_below place in_range parts = record {
    within = in_range;
    below = recursion_from_All (λ (k : Kept). k.id < id) (take place ks) (λ i d within.
        let lt : i < place = omega (arith, within, length-take-le place ks in_range) in
        let low : nat_lt (get_or ks i d).id id ≡ true = parts.0 i d (omega arith) lt in
        let le : (get_or ks i d).id < id = grind (arith, nat_tests) in
        subst (λ (k : Kept). k.id < id) (sym (get_or-take place ks i d lt)) le);
    from = recursion_from_All (λ (k : Kept). id ≤ k.id) (drop place ks) (λ i d within.
        let high : nat_lt (get_or ks (place + i) d).id id ≡ false = parts.1 (place + i) d (omega arith) (omega (arith, within, length-drop place ks)) in
        let le : id ≤ (get_or ks (place + i) d).id = grind (arith, nat_tests) in
        subst (λ (k : Kept). id ≤ k.id) (sym (get_or-drop place ks i d)) le);
  }
