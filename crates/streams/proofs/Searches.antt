-- What a search finds among entries whose ids rise, and what the rows tell of it.
use Rattle.std.proofs.Common.{◌≡◌, ℕ, ◌<◌, ◌≤◌, ◌==◌, ◌||◌, ◌&&◌, if◌then◌else◌, List, [], ◌∷◌, length, true, false, Result, Ok, Err, IfOk, IfErr, refl, sym, ap, ◌∙◌, inl, inr, arith}
use Rattle.std.specs.Prelude.{nat_lt, Option}
use Rattle.std.specs.List.{All, list_any, list_all}
use Rattle.std.proofs.lemmas.Bool.{cases_lt, eq-eqb, ne_eqb}
use Rattle.std.specs.List.Sorted.{IsSearchInRange, IsBinarySearchResult, IsNonDecreasingBy}
use Rattle.std.specs.Ordering.{nat_cmp, ordering_index}
use Rattle.std.proofs.lemmas.Cmp.{ranked}
use Rattle.std.proofs.lemmas.List.Sorted.{IsNonDecreasingBy-from_default}
use Rattle.std.proofs.lemmas.List.Elements.{All-head, All-tail, All-from_recursion}
use Rattle.std.specs.List.{AllByRecursion}
use Rattle.std.proofs.lemmas.Bool.Decides.{nat_tests, eqb_tells}
use Rattle.theory_errors.specs.Rows.{Row, find, kept_in, ids_of}
use Rattle.theory_errors.specs.Tidy.{AreKept}
use Rattle.theory_errors.proofs.Tidy.{stands_once}
use Rattle.streams.specs.declared.entries.StreamEntry.{StreamEntry}
use Rattle.streams.specs.declared.records.StreamRecord.{StreamRecord}
use Rattle.streams.specs.Asked.{has}
use Rattle.streams.specs.Records.{absent, at, id_at, row_in, rows_in, IsRising, IsAt, IsGap}
use Rattle.streams.proofs.Lists.{all_turned, all_back}

module _ (es : List StreamEntry) (rising : IsRising es) (id : ℕ) where
  -- the comparisons with the id rise along the entries, as a binary search asks
  comparisons_rise : IsNonDecreasingBy (λ (e : StreamEntry). ordering_index (nat_cmp e.id id)) es
  comparisons_rise = IsNonDecreasingBy-from_default (λ (e : StreamEntry). ordering_index (nat_cmp e.id id)) es absent (λ i j le in_range.
      let ids_rise : id_at es i ≤ id_at es j = grind (arith, rising i j, λ (same : i ≡ j). ap (id_at es) same) in
      grind (arith, nat_tests))

  -- a binary search by the id ends at its entry, or at the gap for it
  pub searched : (r : Result ℕ ℕ) → IsSearchInRange r (length es) → IsBinarySearchResult (λ (e : StreamEntry). nat_cmp e.id id) es r → record { found : IfOk r (IsAt es id); absent : IfErr r (IsGap es id) }
  searched (Ok place) in_range equal = record { found = record { within = in_range; has_id = ranked _ id _ (sym (equal absent)) }; absent = tt }
  searched (Err place) in_range parted = record {
    found = tt;
    absent = record {
      within = in_range;
      lower_before = λ j lt. ranked _ id _ (sym ((parted comparisons_rise).0 j absent (omega arith) lt));
      higher_after = λ j le lt. ranked _ id _ (sym ((parted comparisons_rise).1 j absent le lt));
    };
  }

-- the entry with an id is the only one
pub only_one : (es : List StreamEntry) (id place i : ℕ) → IsRising es → IsAt es id place → i < length es → id_at es i ≡ id → i ≡ place
only_one es id place i rising is lt same = elim (cases_lt i place) [
  | inl below ↦ absurd (omega (arith, rising i place below is.within, is.has_id, same))
  | inr from ↦ elim (cases_lt place i) [
    | inl above ↦ absurd (omega (arith, rising place i above lt, is.has_id, same))
    | inr upto ↦ omega (arith, from, upto)
  ]
]

-- ---- rows

-- what a row tells is found
abbrev pub IsFound : List Row → Row → Type 0
IsFound rows row = (has rows row.id ≡ true) × (find rows row.id ≡ kept_in row.slot)

-- what is found of another row is found with one more that has another id
found_more : (row : Row) (rows : List Row) (other : Row) → list_any (λ id. id == row.id) (ids_of rows) ≡ false → IsFound rows other → IsFound (row ∷ rows) other
found_more row rows other once is = elim (eqb_tells row.id other.id) [
  | inl same ↦ absurd (let no : false ≡ true = sym once ∙ ap (λ n. list_any (λ id. id == n) (ids_of rows)) same.1 ∙ is.0 in cc)
  | inr apart ↦ (ap (λ b. b || has rows other.id) apart.0 ∙ is.0, ap (λ b. if b then kept_in row.slot else find rows other.id) apart.0 ∙ is.1)
]

each_more : (row : Row) (rows others : List Row) → list_any (λ id. id == row.id) (ids_of rows) ≡ false → AllByRecursion (IsFound rows) others → AllByRecursion (IsFound (row ∷ rows)) others
each_more row rows [] once is = tt
each_more row rows (other ∷ others) once is = (found_more row rows other once is.0, each_more row rows others once is.1)

-- What each row tells is found, where ids rise.
each_found : (rows : List Row) → AreKept rows → AllByRecursion (IsFound rows) rows
each_found [] kept = tt
each_found (row ∷ rows) kept =
    let own : (row.id == row.id) ≡ true = eq-eqb row.id row.id refl in (
      (ap (λ b. b || has rows row.id) own, ap (λ b. if b then kept_in row.slot else find rows row.id) own),
      each_more row rows rows (stands_once row rows kept) (each_found rows kept.2),
    )

pub all_found : (rows : List Row) → AreKept rows → All (IsFound rows) rows
all_found rows kept = All-from_recursion (IsFound rows) rows (each_found rows kept)

-- no id is found where no row has it
pub has_none : (rows : List Row) (id : ℕ) → All (λ (row : Row). (row.id == id) ≡ false) rows → has rows id ≡ false
has_none [] id none = refl
has_none (row ∷ rows) id none = ap (λ b. b || has rows id) (All-head (λ (row : Row). (row.id == id) ≡ false) row rows none) ∙ has_none rows id (All-tail (λ (row : Row). (row.id == id) ≡ false) row rows none)

-- an id is above all where each row is lower
pub above_all : (rows : List Row) (id : ℕ) → All (λ (row : Row). nat_lt row.id id ≡ true) rows → list_all (λ other. nat_lt other id) (ids_of rows) ≡ true
above_all [] id lower = refl
above_all (row ∷ rows) id lower = ap (λ b. b && list_all (λ other. nat_lt other id) (ids_of rows)) (All-head (λ (row : Row). nat_lt row.id id ≡ true) row rows lower) ∙ above_all rows id (All-tail (λ (row : Row). nat_lt row.id id ≡ true) row rows lower)

module _ (es : List StreamEntry) (rs : List (Option StreamRecord)) where
  -- the row of the entry at a place is found
  pub found_at : (place : ℕ) → AreKept (rows_in es rs) → place < length es → IsFound (rows_in es rs) (row_in rs (at es place))
  found_at place kept lt = all_back (IsFound (rows_in es rs)) (row_in rs) es absent (all_found (rows_in es rs) kept) place lt

  -- no row has an id for which there is a gap
  pub none_in_gap : (id place : ℕ) → IsGap es id place → has (rows_in es rs) id ≡ false
  none_in_gap id place gap = has_none (rows_in es rs) id (all_turned (λ (row : Row). (row.id == id) ≡ false) (row_in rs) es absent (λ i lt. ne_eqb (id_at es i) id (λ same. grind (arith, gap.lower_before i, gap.higher_after i))))
