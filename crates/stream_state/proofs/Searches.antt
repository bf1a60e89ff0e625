-- What a search finds among records whose ids rise.
use Rattle.std.proofs.Common.{◌≡◌, ℕ, zero, suc, ◌-◌, ◌<◌, ◌≤◌, ◌≢◌, List, [], ◌∷◌, length, get_or, map, true, false, Bool, Some, None, Result, Ok, Err, IfOk, IfErr, refl, sym, ap, ◌∙◌, subst, inl, inr, arith, ◌||◌}
use Rattle.std.specs.Prelude.{Option, ◌==◌, if◌then◌else◌, max, fold}
use Rattle.std.proofs.lemmas.List.{get_or_default, length-map}
use Rattle.std.proofs.lemmas.Bool.{cases_lt}
use Rattle.std.specs.List.Sorted.{IsSearchInRange, IsBinarySearchResult, IsNonDecreasingBy}
use Rattle.std.specs.Ordering.{nat_cmp, ordering_index}
use Rattle.std.proofs.lemmas.Cmp.{ranked}
use Rattle.std.proofs.lemmas.List.Sorted.{IsNonDecreasingBy-from_default}
use Rattle.std.proofs.lemmas.Bool.Decides.{nat_tests}
use Rattle.model.specs.StreamStates.{StreamState, Standing, state_of, is_above, opened_or, unopened, standing}
use Rattle.model.specs.Limits.{most_streams}
use Rattle.model.specs.StreamStates.Standing.{WholeConnection, Opened}
use Rattle.stream_state.specs.declared.records.Record.{Record}
use Rattle.stream_state.specs.Views.{state_in, highest_in}
use Rattle.stream_state.specs.Records.{stream_in, streams_in, absent, id_at, IsRising, IsAt, IsGap}

module _ (rs : List Record) (rising : IsRising rs) (id : ℕ) where
  -- the comparisons with the id rise along the records, as a binary search asks
  comparisons_rise : IsNonDecreasingBy (λ r. ordering_index (nat_cmp r.id id)) rs
  comparisons_rise = IsNonDecreasingBy-from_default (λ r. ordering_index (nat_cmp r.id id)) rs absent (λ i j le in_range.
      let ids_rise : id_at rs i ≤ id_at rs j = grind (arith, rising i j, λ (same : i ≡ j). ap (id_at rs) same) in
      grind (arith, nat_tests))

  -- a binary search by the id ends at its record, or at the gap for it
  pub searched : (r : Result ℕ ℕ) → IsSearchInRange r (length rs) → IsBinarySearchResult (λ r. nat_cmp r.id id) rs r → record { found : IfOk r (IsAt rs id); absent : IfErr r (IsGap rs id) }
  searched (Ok at) in_range equal = record { found = record { within = in_range; has_id = ranked _ id _ (sym (equal absent)) }; absent = tt }
  searched (Err at) in_range parted = record {
    found = tt;
    absent = record {
      within = in_range;
      lower_before = λ j lt. ranked _ id _ (sym ((parted comparisons_rise).0 j absent (omega arith) lt));
      higher_after = λ j le lt. ranked _ id _ (sym ((parted comparisons_rise).1 j absent le lt));
    };
  }

-- the state of an id that no record has isn't known
pub state_of_none : (rs : List Record) (id : ℕ) → ((i : ℕ) → i < length rs → id_at rs i ≢ id) → state_of id (streams_in rs) ≡ None
state_of_none [] id none = refl
state_of_none (r ∷ rs) id none = grind (arith, nat_tests, none 0 (omega arith), state_of_none rs id (λ i lt. none (suc i) (omega arith)))

-- the first record with the id tells its state
pub state_of_first : (rs : List Record) (id i : ℕ) → i < length rs → id_at rs i ≡ id → ((j : ℕ) → j < i → id_at rs j ≢ id) → state_of id (streams_in rs) ≡ Some (state_in (get_or rs i absent).state)
state_of_first [] id i lt is none = absurd (omega arith)
state_of_first (r ∷ rs) id zero lt is none = grind (arith, nat_tests, is)
state_of_first (r ∷ rs) id (suc i) lt is none = grind (arith, nat_tests, none 0 (omega arith), state_of_first rs id i (omega arith) is (λ j l. none (suc j) (omega arith)))

-- in a gap no record has the id
pub state_in_gap : (rs : List Record) (id place : ℕ) → IsGap rs id place → state_of id (streams_in rs) ≡ None
state_in_gap rs id place gap = state_of_none rs id (λ i lt same. grind (arith, gap.lower_before i, gap.higher_after i))

pub state_at : (rs : List Record) (id place : ℕ) → IsRising rs → IsAt rs id place → state_of id (streams_in rs) ≡ Some (state_in (get_or rs place absent).state)
state_at rs id place rising at = state_of_first rs id place at.within at.has_id (λ j lt same. omega (arith, rising j place lt at.within, at.has_id))

-- an id is above all records where each is lower
pub above_all : (rs : List Record) (id : ℕ) → ((i : ℕ) → i < length rs → id_at rs i < id) → is_above id (streams_in rs) ≡ true
above_all [] id lower = refl
above_all (r ∷ rs) id lower = grind (arith, nat_tests, lower 0 (omega arith), above_all rs id (λ i lt. lower (suc i) (omega arith)))

-- and not where one is higher
pub not_above : (rs : List Record) (id i : ℕ) → i < length rs → id < id_at rs i → is_above id (streams_in rs) ≡ false
not_above [] id i lt higher = absurd (omega arith)
not_above (r ∷ rs) id zero lt higher = grind (arith, nat_tests, higher)
not_above (r ∷ rs) id (suc i) lt higher = grind (arith, nat_tests, not_above rs id i (omega arith) higher)

-- a record that is read at a place, whatever stands for one past the end
pub read : (rs : List Record) (place : ℕ) (r : Record) → place < length rs → r ≡ get_or rs place r → get_or rs place absent ≡ r
read rs place r lt e = get_or_default rs place absent r lt ∙ sym e

opened_case : (whole : Bool) (known : Option StreamState) (otherwise : Standing) (state : StreamState) → whole ≡ false → known ≡ Some state → (if whole then WholeConnection else opened_or known otherwise) ≡ Opened state
opened_case true known otherwise state e f = absurd (cc)
opened_case false None otherwise state e f = absurd (cc)
opened_case false (Some other) otherwise state e f = cc

unopened_case : (whole : Bool) (known : Option StreamState) (otherwise : Standing) → whole ≡ false → known ≡ None → (if whole then WholeConnection else opened_or known otherwise) ≡ otherwise
unopened_case true known otherwise e f = absurd (cc)
unopened_case false None otherwise e f = refl
unopened_case false (Some other) otherwise e f = absurd (cc)

not_zero : (id : ℕ) → (id ≡ 0 → ⊥) → (id == 0) ≡ false
not_zero id ne = grind (arith, nat_tests)

-- the standing of an id that has a record
pub standing_at : (drained : Bool) (rs : List Record) (id place : ℕ) (r : Record) → IsRising rs → (id ≡ 0 → ⊥) → IsAt rs id place → r ≡ get_or rs place r → Opened (state_in r.state) ≡ standing drained (streams_in rs) id
standing_at drained rs id place r rising ne at e =
    let known = state_at rs id place rising at ∙ ap (λ (x : Record). Some (state_in x.state)) (read rs place r at.within e) in
    sym (opened_case (id == 0) (state_of id (streams_in rs)) (unopened (is_above id (streams_in rs)) (drained || length (streams_in rs) == most_streams) id) (state_in r.state) (not_zero id ne) known)

-- an id without a record is above all just where its gap is at the end
above_in_gap : (rs : List Record) (id place : ℕ) → IsGap rs id place → is_above id (streams_in rs) ≡ (place == length rs)
above_in_gap rs id place gap = elim (cases_lt place (length rs)) [
  | inl inside ↦
      let differs : (place == length rs) ≡ false = grind (arith, nat_tests) in
      not_above rs id place inside (gap.higher_after place (omega arith) inside) ∙ sym differs
  | inr past ↦
      let same : (place == length rs) ≡ true = grind (arith, nat_tests, gap.within) in
      above_all rs id (λ i lt. gap.lower_before i (omega arith)) ∙ sym same
]

-- and its standing is that of one that wasn't opened
pub standing_in_gap : (drained : Bool) (rs : List Record) (id place : ℕ) → (id ≡ 0 → ⊥) → IsGap rs id place → unopened (place == length rs) (drained || length rs == most_streams) id ≡ standing drained (streams_in rs) id
standing_in_gap drained rs id place ne gap =
    let above = above_in_gap rs id place gap in
    let count = length-map rs stream_in in
    rw (← above, ← count) (sym (unopened_case (id == 0) (state_of id (streams_in rs)) (unopened (is_above id (streams_in rs)) (drained || length (streams_in rs) == most_streams) id) (not_zero id ne) (state_in_gap rs id place gap)))

-- the greatest of rising ids from a least number on is the last of them
highest_from : (r : Record) (rs : List Record) (least : ℕ) → IsRising (r ∷ rs) → least ≤ r.id → fold max least (map (λ stream. stream.id) (streams_in (r ∷ rs))) ≡ id_at (r ∷ rs) (length rs)
highest_from r [] least rising le = grind (arith, nat_tests)
highest_from r (s ∷ rs) least rising le =
    let above : r.id ≡ max least r.id = grind (arith, nat_tests) in
    let up : r.id < s.id = rising 0 1 (omega arith) (omega arith) in
    let rest = highest_from s rs r.id (λ i j lt within. rising (suc i) (suc j) (omega arith) (omega arith)) (omega arith) in
    subst (λ (n : ℕ). fold max n (map (λ stream. stream.id) (streams_in (s ∷ rs))) ≡ id_at (s ∷ rs) (length rs)) above rest

pub highest_is_last : (rs : List Record) → IsRising rs → 0 < length rs → id_at rs (length rs - 1) ≡ highest_in (streams_in rs)
highest_is_last [] rising some = absurd (omega arith)
highest_is_last (r ∷ rs) rising some = let last : length (r ∷ rs) - 1 ≡ length rs = omega arith in rw last (sym (highest_from r rs 0 rising (omega arith)))
