-- What a change and an opening do to records.
use Rattle.std.proofs.Common.{◌≡◌, ℕ, zero, suc, ◌+◌, ◌<◌, ◌≤◌, ◌≢◌, List, [], ◌∷◌, ◌++◌, length, get_or, set, true, false, Bool, refl, ap, subst, arith, length-append, length-set, inl, inr}
use Rattle.std.proofs.lemmas.List.{map-set, map-append, get_or-map, length-map, get_or_append_left}
use Rattle.std.proofs.Math.Seq.{get_or-append_seam}
use Rattle.std.proofs.lemmas.Bool.{cases_lt}
use Rattle.std.proofs.lemmas.List.Sums.{sum_by-set, sum_by_push}
use Rattle.std.proofs.lemmas.Grind.{common_steps}
use Rattle.std.specs.Prelude.{cond, ◌&&◌, nat_lt}
use Rattle.std.specs.List.{sum_by}
use Rattle.std.proofs.lemmas.Bool.{ltb-true}
use Rattle.std.proofs.lemmas.Bool.Decides.{nat_tests}
use Rattle.model.specs.StreamStates.{OpenedStream, Change, is_active, active_count, after, changed, is_above}
use Rattle.model.specs.Limits.{most_streams}
use Rattle.stream_state.specs.declared.records.Record.{Record}
use Rattle.stream_state.specs.declared.states.State.{State}
use Rattle.stream_state.specs.declared.states.State.TheVariants.{Open, Closed}
use Rattle.stream_state.specs.Views.{state_in, counted}
use Rattle.stream_state.specs.Records.{stream_in, streams_in, absent, id_at, IsRising, IsAt, IsGap, IsKept}

-- a change of an id that no record has changes nothing
pub unchanged : (rs : List Record) (change : Change) (id : ℕ) → ((i : ℕ) → i < length rs → id_at rs i ≢ id) → changed change id (streams_in rs) ≡ streams_in rs
unchanged [] change id none = refl
unchanged (r ∷ rs) change id none = grind (arith, nat_tests, none 0 (omega arith), unchanged rs change id (λ i lt. none (suc i) (omega arith)))

pub unchanged_in_gap : (rs : List Record) (change : Change) (id place : ℕ) → IsGap rs id place → changed change id (streams_in rs) ≡ streams_in rs
unchanged_in_gap rs change id place gap = unchanged rs change id (λ i lt same. grind (arith, gap.lower_before i, gap.higher_after i))

-- a change of the one record that has the id changes that record
changed_one : (rs : List Record) (change : Change) (id place : ℕ) (state : State) → place < length rs → id_at rs place ≡ id → ((i : ℕ) → i < place → id_at rs i ≢ id) → ((i : ℕ) → place < i → i < length rs → id_at rs i ≢ id) → state_in state ≡ after change (state_in (get_or rs place absent).state) → streams_in (set rs place (record { id = id; state = state })) ≡ changed change id (streams_in rs)
changed_one [] change id place state lt is before behind e = absurd (omega arith)
changed_one (r ∷ rs) change id zero state lt is before behind e =
    let rest = unchanged rs change id (λ i l. behind (suc i) (omega arith) (omega arith)) in
    grind (arith, nat_tests, is, e, rest)
changed_one (r ∷ rs) change id (suc place) state lt is before behind e =
    let rest = changed_one rs change id place state (omega arith) is (λ i l. before (suc i) (omega arith)) (λ i l m. behind (suc i) (omega arith) (omega arith)) e in
    grind (arith, nat_tests, before 0 (omega arith), rest)

pub changed_at : (rs : List Record) (change : Change) (id place : ℕ) (state : State) → IsRising rs → IsAt rs id place → state_in state ≡ after change (state_in (get_or rs place absent).state) → streams_in (set rs place (record { id = id; state = state })) ≡ changed change id (streams_in rs)
changed_at rs change id place state rising at e =
    changed_one rs change id place state at.within at.has_id (λ i lt same. omega (arith, rising i place lt at.within, at.has_id)) (λ i lt within same. omega (arith, rising place i lt within, at.has_id)) e

-- the count behind a change of one record
pub count_set : (rs : List Record) (place : ℕ) (r : Record) → place < length rs → active_count (streams_in (set rs place r)) + counted (get_or rs place absent).state ≡ active_count (streams_in rs) + counted r.state
count_set rs place r lt =
    let one : OpenedStream → ℕ = λ s. cond (is_active s.state) 1 0 in
    let within : place < length (streams_in rs) = rw length-map lt in
    let there = get_or-map stream_in rs place absent (stream_in absent) lt in
    rw (map-set stream_in rs place r) (subst (λ (s : OpenedStream). sum_by one (set (streams_in rs) place (stream_in r)) + one s ≡ sum_by one (streams_in rs) + one (stream_in r)) there (sum_by-set one (streams_in rs) place (stream_in r) (stream_in absent) within))

-- a record's stream is counted
pub is_counted : (rs : List Record) (place : ℕ) → place < length rs → counted (get_or rs place absent).state ≤ active_count (streams_in rs)
is_counted rs place lt = omega (arith, count_set rs place (record { id = 0; state = Closed }) lt)

-- the records stay in order, with the right count
pub kept_set : (rs : List Record) (active count id place : ℕ) (state : State) → IsKept rs active → IsAt rs id place → count + counted (get_or rs place absent).state ≡ active + counted state → IsKept (set rs place (record { id = id; state = state })) count
kept_set rs active count id place state kept at e = record {
  rising = λ i j lt within. grind (arith, common_steps, kept.rising i j, kept.rising i place, kept.rising place j, at.within, at.has_id);
  few = rw length-set kept.few;
  counted = omega (arith, count_set rs place (record { id = id; state = state }) at.within, e, kept.counted);
}

both : (a b : Bool) → (a && b) ≡ true → (a ≡ true) × (b ≡ true)
both true b e = (refl, e)
both false b e = absurd (cc)

-- each record is lower than an id that is above all
pub lower_each : (rs : List Record) (id : ℕ) → is_above id (streams_in rs) ≡ true → (i : ℕ) → i < length rs → id_at rs i < id
lower_each [] id above i lt = absurd (omega arith)
lower_each (r ∷ rs) id above zero lt = ltb-true r.id id (both (nat_lt r.id id) (is_above id (streams_in rs)) above).0
lower_each (r ∷ rs) id above (suc i) lt = lower_each rs id (both (nat_lt r.id id) (is_above id (streams_in rs)) above).1 i (omega arith)

-- a record with a higher id keeps the order
rising_push : (rs : List Record) (new : Record) → IsRising rs → ((i : ℕ) → i < length rs → id_at rs i < new.id) → IsRising (rs ++ new ∷ [])
rising_push rs new rising lower i j lt within =
    elim (cases_lt j (length rs)) [
      | inl inside ↦
          let at_i = ap (λ (r : Record). r.id) (get_or_append_left rs (new ∷ []) absent i (omega arith)) in
          let at_j = ap (λ (r : Record). r.id) (get_or_append_left rs (new ∷ []) absent j inside) in
          omega (arith, at_i, at_j, rising i j lt inside)
      | inr past ↦
          let is_last : j ≡ length rs = omega (arith, length-append rs (new ∷ [])) in
          let at_i = ap (λ (r : Record). r.id) (get_or_append_left rs (new ∷ []) absent i (omega arith)) in
          let at_last = ap (λ (r : Record). r.id) (get_or-append_seam rs new [] absent) in
          rw is_last (omega (arith, at_i, at_last, lower i (omega arith)))
    ]

pub kept_push : (rs : List Record) (active id : ℕ) → IsKept rs active → is_above id (streams_in rs) ≡ true → length (streams_in rs) < most_streams → IsKept (rs ++ record { id = id; state = Open } ∷ []) (active + 1)
kept_push rs active id kept above few =
    let one : OpenedStream → ℕ = λ s. cond (is_active s.state) 1 0 in
    let new : Record = record { id = id; state = Open } in
    let short : length rs < most_streams = rw (← length-map rs stream_in) few in
    record {
      rising = rising_push rs new kept.rising (lower_each rs id above);
      few = simp length-append (omega arith);
      counted = rw (map-append stream_in rs (new ∷ []), sum_by_push one (streams_in rs) (stream_in new)) (ap (λ n. n + 1) kept.counted);
    }

-- The same of a record that was read at the place.
module _ (rs : List Record) (id place : ℕ) (r : Record) (at : IsAt rs id place) (is_read : get_or rs place absent ≡ r) where
  pub read_counted : (active : ℕ) → IsKept rs active → counted r.state ≤ active
  read_counted active kept = rw kept.counted (subst (λ (x : Record). counted x.state ≤ active_count (streams_in rs)) is_read (is_counted rs place at.within))

  pub read_kept : (active count : ℕ) (state : State) → IsKept rs active → count + counted r.state ≡ active + counted state → IsKept (set rs place (record { id = id; state = state })) count
  read_kept active count state kept e = kept_set rs active count id place state kept at (rw is_read e)

  pub read_changed : (change : Change) (state : State) → IsRising rs → state_in state ≡ after change (state_in r.state) → streams_in (set rs place (record { id = id; state = state })) ≡ changed change id (streams_in rs)
  read_changed change state rising e = changed_at rs change id place state rising at (rw is_read e)
