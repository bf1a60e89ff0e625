-- A stream more, above all that were opened.
use Rattle.std.proofs.Common.{◌≡◌, ℕ, ◌+◌, ◌<◌, ◌≤◌, ◌==◌, if◌then◌else◌, List, [], ◌∷◌, ◌++◌, length, map, true, false, Bool, Some, None, refl, sym, ap, ◌∙◌, subst, inl, inr, arith, cond, ◌||◌}
use Rattle.std.specs.Prelude.{Option, nat_lt, reverse}
use Rattle.std.specs.List.{list_all, AllByRecursion}
use Rattle.std.proofs.lemmas.Bool.{cases_lt, cases_eq, and_parts, ltb-true}
use Rattle.std.proofs.lemmas.List.{length-append, get_or_append_left, get_or_push, map-append, reverse-append}
use Rattle.std.proofs.lemmas.List.Elements.{All-from_recursion}
use Rattle.std.proofs.lemmas.List.Sums.{sum_by_push}
use Rattle.model.specs.Limits.{most_streams}
use Rattle.theory_errors.specs.Summary.{Stream as Kept}
use Rattle.theory_errors.specs.Rows as rows
use Rattle.theory_errors.specs.Rows.{Row, ids_of}
use Rattle.theory_errors.specs.Tidy.{IsTidy, AreKept, is_above_all}
use Rattle.streams.specs.declared.entries.StreamEntry.{StreamEntry}
use Rattle.streams.specs.declared.entries.Slot.{Slot}
use Rattle.streams.specs.declared.entries.Slot.TheVariants.{Live, Over}
use Rattle.streams.specs.declared.records.StreamRecord.{StreamRecord}
use Rattle.streams.specs.Records.{record_at, slot_with, slot_in, row_in, rows_in, absent, at, id_at, IsHeld, IsStored, is_live, AreHeld}
use Rattle.streams.proofs.Lists.{mapped_same, all_back}
use Rattle.streams.proofs.Asked.{count_rows, above_ids}
use Rattle.std.proofs.lemmas.List.{length-map}
use Rattle.model.specs.StreamStates.{Standing, state_of, opened_or, unopened, is_above}
use Rattle.model.specs.StreamStates.Standing.{WholeConnection, Idle}
use Rattle.theory_errors.specs.Judging.{state_in}
use Rattle.theory_errors.specs.Rows.{find}
use Rattle.stream_state.specs.Views.{verdict_in}
use Rattle.stream_state.specs.declared.verdicts.Verdict.{Verdict as Answer}
use Rattle.stream_state.specs.declared.verdicts.Verdict.TheVariants as answer
use Rattle.stream_state.proofs.Openings.{opens_idle, refuses_idle, idle_openable}
use Rattle.streams.specs.Asked.{opened_in, standing, verdict, active_in, MayOpen, AllowsOpening}

-- each row is lower than an id above all
each_lower : (all : List Row) (id : ℕ) → is_above_all id all ≡ true → AllByRecursion (λ (row : Row). row.id < id) all
each_lower [] id above = tt
each_lower (row ∷ all) id above =
    let parts = and_parts (nat_lt row.id id) (list_all (λ other. nat_lt other id) (ids_of all)) above in (ltb-true row.id id parts.0, each_lower all id parts.1)

module _ (es : List StreamEntry) (rs made : List (Option StreamRecord)) (id key : ℕ) (live : Kept) (h : AreHeld es rs) (stored : IsStored rs made key (record { id = id; live = live })) (of_stream : (id == 0) ≡ false) (above : is_above_all id (rows_in es rs) ≡ true) (few : length (rows_in es rs) < most_streams) (tidy : IsTidy (rows.Slot.Live live)) where
  -- the new entry and its record
  abbrev e : StreamEntry
  e = record { id = id; slot = Live key }

  abbrev r : StreamRecord
  r = record { id = id; live = live }

  -- the key was vacant
  not_vacant : (other : ℕ) (x : StreamRecord) → record_at rs other ≡ Some x → other ≡ key → ⊥
  not_vacant other x there same = let no : None ≡ Some x = sym stored.vacant ∙ ap (record_at rs) (sym same) ∙ there in cc

  lower : (i : ℕ) → i < length es → id_at es i < id
  lower i lt = all_back (λ (row : Row). row.id < id) (row_in rs) es absent (All-from_recursion (λ (row : Row). row.id < id) (rows_in es rs) (each_lower (rows_in es rs) id above)) i lt

  before : (i : ℕ) → i < length es → at (es ++ e ∷ []) i ≡ at es i
  before i lt = get_or_append_left es (e ∷ []) absent i lt

  last : at (es ++ e ∷ []) (length es) ≡ e
  last = get_or_push es e absent (length es) refl

  slot_same : (i : ℕ) → i < length es → (s : Slot) → IsHeld rs (id_at es i) s → slot_in made s ≡ slot_in rs s
  slot_same i lt (Live other) held = ap slot_with (stored.same other (not_vacant other held.0 held.1))
  slot_same i lt (Over by_us) held = refl

  held_same : (i : ℕ) → i < length es → (s : Slot) → IsHeld rs (id_at es i) s → IsHeld made (id_at es i) s
  held_same i lt (Live other) held = (held.0, stored.same other (not_vacant other held.0 held.1) ∙ held.1, held.2)
  held_same i lt (Over by_us) held = tt

  pub opened_rows : rows_in (es ++ e ∷ []) made ≡ record { id = id; slot = rows.Slot.Live live } ∷ rows_in es rs
  opened_rows =
      let f : StreamEntry → Row = row_in made in
      let old : map f es ≡ map (row_in rs) es = mapped_same f (row_in rs) es es absent absent refl (λ i lt. ap (λ (s : rows.Slot). record { id = id_at es i; slot = s }) (slot_same i lt (at es i).slot (h.held i lt))) in
      ap reverse (map-append f es (e ∷ []))
      ∙ reverse-append (map f es) (f e ∷ [])
      ∙ ap (λ (xs : List Row). f e ∷ reverse xs) old
      ∙ ap (λ (o : Option StreamRecord). record { id = id; slot = slot_with o } ∷ rows_in es rs) stored.there

  count_es : length (es ++ e ∷ []) ≡ length es + 1
  count_es = length-append es (e ∷ [])

  pub opened_held : AreHeld (es ++ e ∷ []) made
  opened_held = record {
    rising = λ i j lt within. elim (cases_lt j (length es)) [
      | inl inside ↦
          let at_i = ap (λ (x : StreamEntry). x.id) (before i (omega (arith, lt, inside))) in
          let at_j = ap (λ (x : StreamEntry). x.id) (before j inside) in
          omega (arith, at_i, at_j, h.rising i j lt inside)
      | inr past ↦
          let is_last : j ≡ length es = omega (arith, within, past, count_es) in
          let at_i = ap (λ (x : StreamEntry). x.id) (before i (omega (arith, lt, is_last))) in
          let at_j : id_at (es ++ e ∷ []) j ≡ id = ap (λ (k : ℕ). id_at (es ++ e ∷ []) k) is_last ∙ ap (λ (x : StreamEntry). x.id) last in
          omega (arith, at_i, at_j, lower i (omega (arith, lt, is_last)))
    ];
    few = omega (arith, count_es, few, count_rows es rs);
    kept = subst AreKept (sym opened_rows) (record { tidy = tidy; of_stream = of_stream }, above, h.kept);
    held = λ i within. elim (cases_lt i (length es)) [
      | inl inside ↦ subst (λ (x : StreamEntry). IsHeld made x.id x.slot) (sym (before i inside)) (held_same i inside (at es i).slot (h.held i inside))
      | inr past ↦
          let is_last : i ≡ length es = omega (arith, within, past, count_es) in
          subst (λ (x : StreamEntry). IsHeld made x.id x.slot) (sym (ap (at (es ++ e ∷ [])) is_last ∙ last)) (r, stored.there, refl)
    ];
    owned = λ other x there. elim (cases_eq other key) [
      | inl same ↦
          let one : Some r ≡ Some x = sym stored.there ∙ ap (record_at made) (sym same) ∙ there in
          (length es, record { within = omega (arith, count_es); has_key = ap (λ (y : StreamEntry). y.slot) last ∙ ap Live (sym same); has_id = ap (λ (y : StreamEntry). y.id) last ∙ ap (λ (o : Option StreamRecord). id_or o) one })
      | inr apart ↦
          let own = h.owned other x (sym (stored.same other apart) ∙ there) in (
            own.0,
            record {
              within = omega (arith, own.1.within, count_es);
              has_key = ap (λ (y : StreamEntry). y.slot) (before own.0 own.1.within) ∙ own.1.has_key;
              has_id = ap (λ (y : StreamEntry). y.id) (before own.0 own.1.within) ∙ own.1.has_id;
            },
          )
    ];
    counted = omega (arith, stored.counted, sum_by_push (λ (x : StreamEntry). cond (is_live x.slot) 1 0) es e, h.counted);
  }
    where
      id_or : Option StreamRecord → ℕ
      id_or (Some x) = x.id
      id_or None = 0

-- ---- which verdicts say that a stream may be opened

-- what stands idle isn't the whole connection
idle_stream : (whole : Bool) (otherwise : Standing) → (if whole then WholeConnection else otherwise) ≡ Idle → whole ≡ false
idle_stream true otherwise e = absurd (cc)
idle_stream false otherwise e = refl

pub idle_may_open : (drained : Bool) (all : List Row) (id : ℕ) → length all ≤ most_streams → standing drained all id ≡ Idle → MayOpen all id
idle_may_open drained all id few idle =
    let count : length (opened_in all) ≡ length all = length-map (ids_of all) (λ (i : ℕ). record { id = i; state = state_in (find all i) }) ∙ length-map all (λ (row : Row). row.id) in
    let may = idle_openable drained (opened_in all) id (omega (arith, count, few)) idle in
    record {
      of_stream = idle_stream (id == 0) (opened_or (state_of id (opened_in all)) (unopened (is_above id (opened_in all)) (drained || length (opened_in all) == most_streams) id)) idle;
      above = sym (above_ids (find all) (ids_of all) id) ∙ may.above;
      few = omega (arith, count, may.few);
    }

pub allows : (drained : Bool) (all : List Row) (id kind : ℕ) (a : Answer) → length all ≤ most_streams → verdict_in a ≡ verdict drained all id kind → AllowsOpening a all id
allows drained all id kind answer.Open few e = idle_may_open drained all id few (opens_idle (length (active_in all)) (standing drained all id) kind (sym e))
allows drained all id kind (answer.Stream code) few e = λ refused. idle_may_open drained all id few (refuses_idle (length (active_in all)) (standing drained all id) kind code (sym e) refused)
allows drained all id kind answer.Pass few e = tt
allows drained all id kind answer.Discard few e = tt
allows drained all id kind (answer.Connection code) few e = tt
