-- What is asked of the rows, from the entries and the records.
use Rattle.std.proofs.Common.{◌≡◌, ℕ, ◌+◌, ◌-◌, ◌<◌, ◌==◌, ◌||◌, ◌&&◌, if◌then◌else◌, List, [], ◌∷◌, length, get_or, Contains, map, filter, max, fold, true, false, Bool, not, Some, None, refl, sym, ap, ◌∙◌, subst, inl, inr, arith, cond}
use Rattle.std.specs.Prelude.{Option, nat_lt, IfNone}
use Rattle.std.specs.List.{list_any, list_all, count_by, AllByRecursion}
use Rattle.std.proofs.lemmas.Bool.{cases_lt, cases_Bool, eq-eqb, ne_eqb, and_parts, or_parts, ltb-true}
use Rattle.std.proofs.lemmas.Bool.Decides.{nat_tests, eqb_tells}
use Rattle.std.proofs.lemmas.List.{length-map, length-reverse, get_or_default, get_or-reverse, get_or-map}
use Rattle.std.proofs.lemmas.List.Elements.{All-from_recursion, recursion_from_All}
use Rattle.std.proofs.lemmas.List.Sums.{sum_by-cons}
use Rattle.model.specs.StreamStates.{StreamState, state_of, is_above, opened_or, unopened}
use Rattle.model.specs.Limits.{most_streams}
use Rattle.model.specs.StreamStates.Standing.{WholeConnection, Opened}
use Rattle.model.specs.WindowsOnTape.{is_past}
use Rattle.theory_errors.specs.Summary.{Stream as Kept}
use Rattle.theory_errors.specs.Judging.{state_in, is_over_in, window_in}
use Rattle.theory_errors.specs.Rows as rows
use Rattle.theory_errors.specs.Rows.{Row, over_kept, find, kept_in, ids_of}
use Rattle.theory_errors.specs.Owing.{highest_in}
use Rattle.theory_errors.specs.Tidy.{IsTidy, AreKept}
use Rattle.streams.specs.declared.entries.StreamEntry.{StreamEntry}
use Rattle.streams.specs.declared.entries.Slot.{Slot}
use Rattle.streams.specs.declared.entries.Slot.TheVariants.{Live, Over}
use Rattle.streams.specs.declared.records.StreamRecord.{StreamRecord}
use Rattle.streams.specs.Asked.{opened_in, standing, active_in, has, is_active, shifts_past, IsLive}
use Rattle.slab.specs.Slab.{Slab, entries}
use Rattle.slab.proofs.SlabLemmas.{Contains-cons, Contains-cons_cases, Contains-entries}
use Rattle.streams.specs.Records.{record_at, is_shifted_past, slot_with, slot_in, row_in, rows_in, absent, at, id_at, IsAt, IsGap, IsHeld, is_live, count_records, AreHeld}
use Rattle.streams.proofs.Lists.{all_turned, all_back, count-reverse, count_mapped}
use Rattle.streams.proofs.Searches.{IsFound, all_found, found_at, none_in_gap, above_all}

-- ---- active streams

-- each row holds what it should
each_tidy : (rows : List Row) → AreKept rows → AllByRecursion (λ (row : Row). IsTidy row.slot) rows
each_tidy [] kept = tt
each_tidy (row ∷ rows) kept = (kept.0.tidy, each_tidy rows kept.2)

pub tidy_at : (es : List StreamEntry) (rs : List (Option StreamRecord)) (place : ℕ) → AreKept (rows_in es rs) → place < length es → IsTidy (slot_in rs (at es place).slot)
tidy_at es rs place kept lt = all_back (λ (row : Row). IsTidy row.slot) (row_in rs) es absent (All-from_recursion (λ (row : Row). IsTidy row.slot) (rows_in es rs) (each_tidy (rows_in es rs) kept)) place lt

-- what was closed is over
pub closed_is_over : (by_us : Bool) → is_over_in (over_kept by_us) ≡ true
closed_is_over true = refl
closed_is_over false = refl

-- an entry that is read at a place
pub read_at : (es : List StreamEntry) (place : ℕ) (e : StreamEntry) → place < length es → e ≡ get_or es place e → at es place ≡ e
read_at es place e lt is = get_or_default es place absent e lt ∙ sym is

module _ (es : List StreamEntry) (rs : List (Option StreamRecord)) (id place : ℕ) (kept : AreKept (rows_in es rs)) (is : IsAt es id place) where
  -- the row at a place is its stream's
  pub has_at : has (rows_in es rs) id ≡ true
  has_at = ap (has (rows_in es rs)) (sym is.has_id) ∙ (found_at es rs place kept is.within).0

  pub find_at : find (rows_in es rs) id ≡ kept_in (slot_in rs (at es place).slot)
  find_at = ap (find (rows_in es rs)) (sym is.has_id) ∙ (found_at es rs place kept is.within).1

  -- an active stream has its record
  pub live_here : (key : ℕ) (live : Kept) → (at es place).slot ≡ Live key → record_at rs key ≡ Some (record { id = id; live = live }) → IsLive (rows_in es rs) id live
  live_here key live slot found =
      let there : slot_in rs (at es place).slot ≡ rows.Slot.Live live = ap (slot_in rs) slot ∙ ap slot_with found in
      record {
        has_row = has_at;
        found = find_at ∙ ap kept_in there;
        goes_on = (subst IsTidy there (tidy_at es rs place kept is.within)).0;
      }

  -- it has one
  pub held_here : (key : ℕ) → (at es place).slot ≡ Live key → IsHeld rs (id_at es place) (at es place).slot → (live : Kept) × (record_at rs key ≡ Some (record { id = id; live = live }))
  held_here key slot held =
      let there : IsHeld rs (id_at es place) (Live key) = subst (λ (s : Slot). IsHeld rs (id_at es place) s) slot held in
      (there.0.live, there.1 ∙ ap (λ (n : ℕ). Some (record { id = n; live = there.0.live })) (there.2 ∙ is.has_id))

  -- one that is over isn't active
  pub over_here : (by_us : Bool) → (at es place).slot ≡ Over by_us → is_active (rows_in es rs) id ≡ false
  over_here by_us slot =
      ap (λ (k : Kept). has (rows_in es rs) id && not (is_over_in k)) (find_at ∙ ap (λ (s : Slot). kept_in (slot_in rs s)) slot)
      ∙ ap (λ b. has (rows_in es rs) id && not b) (closed_is_over by_us)
      ∙ none (has (rows_in es rs) id)
    where
      none : (b : Bool) → (b && false) ≡ false
      none true = refl
      none false = refl

-- what follows of nothing
pub if_none : {X P Q : Type 0} (r : Option X) → IfNone r P → (P → Q) → IfNone r Q
if_none None is then_so = then_so is
if_none (Some x) is then_so = tt

-- nor is one that wasn't opened
pub none_here : (es : List StreamEntry) (rs : List (Option StreamRecord)) (id place : ℕ) → IsGap es id place → is_active (rows_in es rs) id ≡ false
none_here es rs id place gap = ap (λ b. b && not (is_over_in (find (rows_in es rs) id))) (none_in_gap es rs id place gap)

-- ---- standings

-- the state of a stream among those that were opened
pub state_found : (f : ℕ → Kept) (ids : List ℕ) (id : ℕ) → list_any (λ other. other == id) ids ≡ true → state_of id (map (λ (i : ℕ). record { id = i; state = state_in (f i) }) ids) ≡ Some (state_in (f id))
state_found f [] id has = absurd (let no : false ≡ true = has in cc)
state_found f (other ∷ ids) id has = elim (eqb_tells other id) [
  | inl same ↦ ap (λ b. if b then Some (state_in (f other)) else state_of id (map (λ (i : ℕ). record { id = i; state = state_in (f i) }) ids)) same.0 ∙ ap (λ n. Some (state_in (f n))) same.1
  | inr apart ↦ ap (λ b. if b then Some (state_in (f other)) else state_of id (map (λ (i : ℕ). record { id = i; state = state_in (f i) }) ids)) apart.0 ∙ state_found f ids id (sym (ap (λ b. b || list_any (λ other. other == id) ids) apart.0) ∙ has)
]

-- there is none of one that wasn't
pub state_none : (f : ℕ → Kept) (ids : List ℕ) (id : ℕ) → list_any (λ other. other == id) ids ≡ false → state_of id (map (λ (i : ℕ). record { id = i; state = state_in (f i) }) ids) ≡ None
state_none f [] id none = refl
state_none f (other ∷ ids) id none = elim (eqb_tells other id) [
  | inl same ↦ absurd (let no : true ≡ false = sym (ap (λ b. b || list_any (λ other. other == id) ids) same.0) ∙ none in cc)
  | inr apart ↦ ap (λ b. if b then Some (state_in (f other)) else state_of id (map (λ (i : ℕ). record { id = i; state = state_in (f i) }) ids)) apart.0 ∙ state_none f ids id (sym (ap (λ b. b || list_any (λ other. other == id) ids) apart.0) ∙ none)
]

-- an id is above all streams just where it is above all ids
pub above_ids : (f : ℕ → Kept) (ids : List ℕ) (id : ℕ) → is_above id (map (λ (i : ℕ). record { id = i; state = state_in (f i) }) ids) ≡ list_all (λ other. nat_lt other id) ids
above_ids f [] id = refl
above_ids f (other ∷ ids) id = ap (λ b. nat_lt other id && b) (above_ids f ids id)

-- one of the rows is higher, so that the id isn't above all
not_above : (rows : List Row) (id high : ℕ) → has rows high ≡ true → id < high → list_all (λ other. nat_lt other id) (ids_of rows) ≡ false
not_above [] id high there lt = absurd (let no : false ≡ true = there in cc)
not_above (row ∷ rows) id high there lt = elim (eqb_tells row.id high) [
  | inl same ↦
      let higher : id < row.id = omega (arith, same.1, lt) in
      let over : nat_lt row.id id ≡ false = grind (arith, nat_tests) in
      ap (λ b. b && list_all (λ other. nat_lt other id) (ids_of rows)) over
  | inr apart ↦
      let rest : list_all (λ other. nat_lt other id) (ids_of rows) ≡ false = not_above rows id high (sym (ap (λ b. b || has rows high) apart.0) ∙ there) lt in
      ap (λ b. nat_lt row.id id && b) rest ∙ none (nat_lt row.id id)
]
  where
    none : (b : Bool) → (b && false) ≡ false
    none true = refl
    none false = refl

-- the rows are as many as the entries
pub count_rows : (es : List StreamEntry) (rs : List (Option StreamRecord)) → length (rows_in es rs) ≡ length es
count_rows es rs = length-reverse (map (row_in rs) es) ∙ length-map es (row_in rs)

count_opened : (es : List StreamEntry) (rs : List (Option StreamRecord)) → length (opened_in (rows_in es rs)) ≡ length es
count_opened es rs = length-map (ids_of (rows_in es rs)) (λ (i : ℕ). record { id = i; state = state_in (find (rows_in es rs) i) }) ∙ length-map (rows_in es rs) (λ (row : Row). row.id) ∙ count_rows es rs

-- an id is above all just where its gap is at the end
above_in_gap : (es : List StreamEntry) (rs : List (Option StreamRecord)) (id place : ℕ) → AreKept (rows_in es rs) → IsGap es id place → list_all (λ other. nat_lt other id) (ids_of (rows_in es rs)) ≡ (place == length es)
above_in_gap es rs id place kept gap = elim (cases_lt place (length es)) [
  | inl inside ↦
      not_above (rows_in es rs) id (id_at es place) (found_at es rs place kept inside).0 (gap.higher_after place (omega arith) inside)
      ∙ sym (ne_eqb place (length es) (λ same. omega (arith, same, inside)))
  | inr past ↦
      above_all (rows_in es rs) id (all_turned (λ (row : Row). nat_lt row.id id ≡ true) (row_in rs) es absent (λ i lt. let low : id_at es i < id = gap.lower_before i (omega (arith, lt, past)) in grind (arith, nat_tests)))
      ∙ sym (eq-eqb place (length es) (omega (arith, past, gap.within)))
]

not_zero : (id : ℕ) → (id ≡ 0 → ⊥) → (id == 0) ≡ false
not_zero id ne = ne_eqb id 0 ne

-- the standing of an id that has an entry
pub standing_at : (drained : Bool) (es : List StreamEntry) (rs : List (Option StreamRecord)) (id place : ℕ) → AreKept (rows_in es rs) → (id ≡ 0 → ⊥) → IsAt es id place → Opened (state_in (kept_in (slot_in rs (at es place).slot))) ≡ standing drained (rows_in es rs) id
standing_at drained es rs id place kept ne is =
    let f : ℕ → Kept = find (rows_in es rs) in
    let above : Bool = is_above id (opened_in (rows_in es rs)) in
    let full : Bool = drained || length (opened_in (rows_in es rs)) == most_streams in
    sym (
    ap (λ b. if b then WholeConnection else opened_or (state_of id (opened_in (rows_in es rs))) (unopened above full id)) (not_zero id ne)
    ∙ ap (λ (x : Option StreamState). opened_or x (unopened above full id)) (state_found f (ids_of (rows_in es rs)) id (has_at es rs id place kept is))
    ∙ ap (λ (k : Kept). Opened (state_in k)) (find_at es rs id place kept is)
    )

-- the standing of one that has none
pub standing_in_gap : (drained : Bool) (es : List StreamEntry) (rs : List (Option StreamRecord)) (id place : ℕ) → AreKept (rows_in es rs) → (id ≡ 0 → ⊥) → IsGap es id place → unopened (place == length es) (drained || length es == most_streams) id ≡ standing drained (rows_in es rs) id
standing_in_gap drained es rs id place kept ne gap =
    let f : ℕ → Kept = find (rows_in es rs) in
    let above : Bool = is_above id (opened_in (rows_in es rs)) in
    let full : Bool = drained || length (opened_in (rows_in es rs)) == most_streams in
    sym (
    ap (λ b. if b then WholeConnection else opened_or (state_of id (opened_in (rows_in es rs))) (unopened above full id)) (not_zero id ne)
    ∙ ap (λ (x : Option StreamState). opened_or x (unopened above full id)) (state_none f (ids_of (rows_in es rs)) id (none_in_gap es rs id place gap))
    ∙ ap (λ b. unopened b full id) (above_ids f (ids_of (rows_in es rs)) id ∙ above_in_gap es rs id place kept gap)
    ∙ ap (λ n. unopened (place == length es) (drained || n == most_streams) id) (count_opened es rs)
    )

-- ---- how many are active

-- as many ids are active as rows
count_ids : (f : ℕ → Kept) (rows : List Row) → AllByRecursion (λ (row : Row). f row.id ≡ kept_in row.slot) rows → length (filter (λ id. not (is_over_in (f id))) (ids_of rows)) ≡ count_by (λ (row : Row). not (is_over_in (kept_in row.slot))) rows
count_ids f [] told = refl
count_ids f (row ∷ rows) told =
    ap (λ b. length (cond b (row.id ∷ filter (λ id. not (is_over_in (f id))) (ids_of rows)) (filter (λ id. not (is_over_in (f id))) (ids_of rows)))) (ap (λ (k : Kept). not (is_over_in k)) told.0)
    ∙ counted (not (is_over_in (kept_in row.slot)))
    ∙ ap (λ n. cond (not (is_over_in (kept_in row.slot))) 1 0 + n) (count_ids f rows told.1)
    ∙ sym (sum_by-cons (λ (row : Row). cond (not (is_over_in (kept_in row.slot))) 1 0) row rows)
  where
    counted : (b : Bool) → length (cond b (row.id ∷ filter (λ id. not (is_over_in (f id))) (ids_of rows)) (filter (λ id. not (is_over_in (f id))) (ids_of rows))) ≡ cond b 1 0 + length (filter (λ id. not (is_over_in (f id))) (ids_of rows))
    counted true = omega arith
    counted false = omega arith

pub found_only : (rows others : List Row) → AllByRecursion (IsFound rows) others → AllByRecursion (λ (row : Row). find rows row.id ≡ kept_in row.slot) others
found_only rows [] is = tt
found_only rows (other ∷ others) is = (is.0.1, found_only rows others is.1)

-- the row of an entry is active just where the entry is
active_at : (rs : List (Option StreamRecord)) (id : ℕ) (slot : Slot) → IsHeld rs id slot → IsTidy (slot_in rs slot) → not (is_over_in (kept_in (slot_in rs slot))) ≡ is_live slot
active_at rs id (Live key) held tidy =
    let there : slot_with (record_at rs key) ≡ rows.Slot.Live held.0.live = ap slot_with held.1 in
    ap (λ (s : rows.Slot). not (is_over_in (kept_in s))) there ∙ ap not (subst IsTidy there tidy).0
active_at rs id (Over by_us) held tidy = ap not (closed_is_over by_us)

pub active_is : (es : List StreamEntry) (rs : List (Option StreamRecord)) → AreHeld es rs → count_records rs ≡ length (active_in (rows_in es rs))
active_is es rs h =
    let all : List Row = rows_in es rs in
    h.counted ∙ sym (
    count_ids (find all) all (found_only all all (recursion_from_All (IsFound all) all (all_found all h.kept)))
    ∙ count-reverse (λ (row : Row). not (is_over_in (kept_in row.slot))) (map (row_in rs) es)
    ∙ count_mapped (λ (entry : StreamEntry). is_live entry.slot) (λ (row : Row). not (is_over_in (kept_in row.slot))) (row_in rs) es absent (λ i lt. active_at rs (id_at es i) (at es i).slot (h.held i lt) (tidy_at es rs i h.kept lt))
    )

-- ---- the highest id

-- an id above all others is the greatest
highest_from : (n : ℕ) (ids : List ℕ) → list_all (λ other. nat_lt other n) ids ≡ true → fold max n ids ≡ n
highest_from n [] above = refl
highest_from n (id ∷ ids) above =
    let parts = and_parts (nat_lt id n) (list_all (λ other. nat_lt other n) ids) above in
    let low : id < n = ltb-true id n parts.0 in
    let stays : max n id ≡ n = omega arith in
    ap (λ m. fold max m ids) stays ∙ highest_from n ids parts.1

-- a row for a place where there is none
abbrev no_row : Row
no_row = record { id = 0; slot = rows.Slot.Over false }

-- the newest row has the highest id
highest_first : (rows : List Row) → AreKept rows → highest_in (ids_of rows) ≡ (get_or rows 0 no_row).id
highest_first [] kept = refl
highest_first (row ∷ rows) kept =
    let first : max 0 row.id ≡ row.id = omega arith in ap (λ m. fold max m (ids_of rows)) first ∙ highest_from row.id (ids_of rows) kept.1

pub highest_is_last : (es : List StreamEntry) (rs : List (Option StreamRecord)) → AreKept (rows_in es rs) → id_at es (length es - 1) ≡ highest_in (ids_of (rows_in es rs))
highest_is_last [] rs kept = refl
highest_is_last (e ∷ es) rs kept =
    let all : List StreamEntry = e ∷ es in
    let some : 0 < length (map (row_in rs) all) = omega arith in
    let within : length all - 1 < length all = omega arith in
    let places : length (map (row_in rs) all) - 1 - 0 ≡ length all - 1 = omega (arith, length-map all (row_in rs)) in
    sym (
    highest_first (rows_in all rs) kept
    ∙ ap (λ (row : Row). row.id) (get_or-reverse (map (row_in rs) all) 0 no_row some ∙ ap (λ n. get_or (map (row_in rs) all) n no_row) places ∙ get_or-map (row_in rs) all (length all - 1) absent no_row within)
    )

-- ---- windows

-- one that passes a test is among them
some_passes : {X : Type 0} (p : X → Bool) (xs : List X) → list_any p xs ≡ true → (x : X) × Contains xs x × (p x ≡ true)
some_passes p [] any = absurd (let no : false ≡ true = any in cc)
some_passes p (x ∷ xs) any = elim (cases_Bool (p x)) [
  | inl here ↦ (x, (0, omega arith, refl), here)
  | inr not_here ↦ let later = some_passes p xs (sym (ap (λ b. b || list_any p xs) not_here) ∙ any) in (later.0, Contains-cons x later.0 xs later.1, later.2)
]

-- where none passes it, one that is among them doesn't
none_passes : {X : Type 0} (p : X → Bool) (xs : List X) (x : X) → list_any p xs ≡ false → Contains xs x → p x ≡ false
none_passes p [] x none there = absurd (omega (arith, there.1))
none_passes p (y ∷ xs) x none there = elim (Contains-cons_cases y x xs there) [
  | inl same ↦ ap p (sym same) ∙ (or_parts (p y) (list_any p xs) none).0
  | inr later ↦ none_passes p xs x (or_parts (p y) (list_any p xs) none).1 later
]

-- an id that is kept and passes a test
any_kept : (keep test : ℕ → Bool) (ids : List ℕ) (id : ℕ) → list_any (λ other. other == id) ids ≡ true → keep id ≡ true → test id ≡ true → list_any test (filter keep ids) ≡ true
any_kept keep test [] id has kept passes = absurd (let no : false ≡ true = has in cc)
any_kept keep test (other ∷ ids) id has kept passes = elim (eqb_tells other id) [
  | inl same ↦
      ap (λ b. list_any test (cond b (other ∷ filter keep ids) (filter keep ids))) (ap keep same.1 ∙ kept)
      ∙ ap (λ b. b || list_any test (filter keep ids)) (ap test same.1 ∙ passes)
  | inr apart ↦ more (keep other) (any_kept keep test ids id (sym (ap (λ b. b || list_any (λ o. o == id) ids) apart.0) ∙ has) kept passes)
]
  where
    or_true : (b : Bool) → (b || true) ≡ true
    or_true true = refl
    or_true false = refl

    more : (b : Bool) → list_any test (filter keep ids) ≡ true → list_any test (cond b (other ∷ filter keep ids) (filter keep ids)) ≡ true
    more true later = ap (λ b. test other || b) later ∙ or_true (test other)
    more false later = later

-- none that is kept passes it
none_kept : (keep test : ℕ → Bool) (rows : List Row) → AllByRecursion (λ (row : Row). keep row.id ≡ true → test row.id ≡ false) rows → list_any test (filter keep (ids_of rows)) ≡ false
none_kept keep test [] none = refl
none_kept keep test (row ∷ rows) none = cases (keep row.id) refl (none_kept keep test rows none.1)
  where
    cases : (b : Bool) → keep row.id ≡ b → list_any test (filter keep (ids_of rows)) ≡ false → list_any test (cond b (row.id ∷ filter keep (ids_of rows)) (filter keep (ids_of rows))) ≡ false
    cases true is rest = ap (λ b. b || list_any test (filter keep (ids_of rows))) (none.0 is) ∙ rest
    cases false is rest = rest

module _ (es : List StreamEntry) (rs : List (Option StreamRecord)) (first : ℕ) (h : AreHeld es rs) where
  -- a slab with these records
  abbrev slab : Slab StreamRecord
  slab = record { slots = rs; vacant_key = 0; capacity = 0 }

  -- a record, at its key, whose window is past
  abbrev past : ℕ × StreamRecord → Bool
  past entry = is_shifted_past first entry.1

  -- a record whose window is past is an active stream's
  one_is : list_any past (entries slab) ≡ true → shifts_past first (rows_in es rs) ≡ true
  one_is any =
      let found = some_passes past (entries slab) any in
      with_owner found.0.0 found.0.1 ((Contains-entries slab found.0.0 found.0.1).0 found.1) found.2
    where
      with_owner : (key : ℕ) (r : StreamRecord) → record_at rs key ≡ Some r → is_past (window_in first r.live) ≡ true → shifts_past first (rows_in es rs) ≡ true
      with_owner key r there is =
          let own = h.owned key r there in
          let place : IsAt es r.id own.0 = record { within = own.1.within; has_id = own.1.has_id } in
          let live = live_here es rs r.id own.0 h.kept place key r.live own.1.has_key there in
          any_kept (λ id. not (is_over_in (find (rows_in es rs) id))) (λ id. is_past (window_in first (find (rows_in es rs) id))) (ids_of (rows_in es rs)) r.id live.has_row
          (ap (λ (k : Kept). not (is_over_in k)) live.found ∙ ap not live.goes_on)
          (ap (λ (k : Kept). is_past (window_in first k)) live.found ∙ is)

  -- where none is, no active stream's is
  none_is : list_any past (entries slab) ≡ false → shifts_past first (rows_in es rs) ≡ false
  none_is none = none_kept (λ id. not (is_over_in (find (rows_in es rs) id))) (λ id. is_past (window_in first (find (rows_in es rs) id))) (rows_in es rs)
      (recursion_from_All (λ (row : Row). not (is_over_in (find (rows_in es rs) row.id)) ≡ true → is_past (window_in first (find (rows_in es rs) row.id)) ≡ false) (rows_in es rs)
      (all_turned (λ (row : Row). not (is_over_in (find (rows_in es rs) row.id)) ≡ true → is_past (window_in first (find (rows_in es rs) row.id)) ≡ false) (row_in rs) es absent (λ i lt. by_slot i lt (at es i).slot refl (h.held i lt))))
    where
      by_slot : (i : ℕ) → i < length es → (s : Slot) → (at es i).slot ≡ s → IsHeld rs (id_at es i) (at es i).slot → not (is_over_in (find (rows_in es rs) (id_at es i))) ≡ true → is_past (window_in first (find (rows_in es rs) (id_at es i))) ≡ false
      by_slot i lt (Live key) slot held keeps =
          let place : IsAt es (id_at es i) i = record { within = lt; has_id = refl } in
          let own = held_here es rs (id_at es i) i h.kept place key slot held in
          let live = live_here es rs (id_at es i) i h.kept place key own.0 slot own.1 in
          let r : StreamRecord = record { id = id_at es i; live = own.0 } in
          ap (λ (k : Kept). is_past (window_in first k)) live.found
          ∙ none_passes past (entries slab) (key, r) none ((Contains-entries slab key r).1 own.1)
      by_slot i lt (Over by_us) slot held keeps =
          let place : IsAt es (id_at es i) i = record { within = lt; has_id = refl } in
          let found = find_at es rs (id_at es i) i h.kept place ∙ ap (λ (s : Slot). kept_in (slot_in rs s)) slot in
          let over : not (is_over_in (find (rows_in es rs) (id_at es i))) ≡ false = ap (λ (k : Kept). not (is_over_in k)) found ∙ ap not (closed_is_over by_us) in
          absurd (let no : true ≡ false = sym keeps ∙ over in cc)

  -- The records tell whether a first size is too large.
  pub shifts_told : list_any past (entries slab) ≡ shifts_past first (rows_in es rs)
  shifts_told = elim (cases_Bool (list_any past (entries slab))) [ inl is ↦ is ∙ sym (one_is is) | inr none ↦ none ∙ sym (none_is none) ]
