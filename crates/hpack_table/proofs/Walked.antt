-- The static table, whose names stand in runs that begin where their slots say.
use Rattle.std.proofs.Common.{◌≡◌, ℕ, zero, suc, ◌+◌, ◌<◌, ◌≤◌, Bool, true, false, ◌&&◌, ◌||◌, not, nat_eq, nat_lt, nat_le, List, [], ◌∷◌, get_or, slice_get, Option, Some, refl, ap, sym, ◌∙◌, subst, inl, inr, arith, eqb-true, leb-true, le-leb, lt-ltb}
use Rattle.std.proofs.lemmas.Bool.{cases_lt}
use Rattle.std.proofs.lemmas.Option.{slice_get-get_or, slice_get_within}
use Rattle.model.specs.Messages.{Field}
use Rattle.model.specs.Tables.{field_of, look_up, static_table}
use Rattle.model.proofs.HuffmanLemmas.{and_left, and_right}
use Rattle.hpack_table.specs.Finding.{FindsBoth, FindsName, HasNone, HasNoName}
use Rattle.hpack_table.specs.Searching.{HasNotName, IsStartOf, slot_of, static_alone}
use Rattle.hpack_table.proofs.Looked.{entries, get_front}
use Rattle.hpack_table.proofs.Searched.{alone_within}
use Rattle.hpack_table.specs.declared.static_table.TheConstants.{STARTS}

abbrev same : List ℕ → List ℕ → Bool
same [] [] = true
same [] (y ∷ ys) = false
same (x ∷ xs) [] = false
same (x ∷ xs) (y ∷ ys) = nat_eq x y && same xs ys

same_is : (xs ys : List ℕ) → same xs ys ≡ true → xs ≡ ys
same_is [] [] e = refl
same_is [] (y ∷ ys) e = cc
same_is (x ∷ xs) [] e = cc
same_is (x ∷ xs) (y ∷ ys) e =
    let head : x ≡ y = eqb-true x y (and_left (nat_eq x y) (same xs ys) e) in
    let rest : xs ≡ ys = same_is xs ys (and_right (nat_eq x y) (same xs ys) e) in
    cc

-- of the entries that begin at a first place, those from a place on and before another one have a name
abbrev are_named : List ℕ → ℕ → ℕ → ℕ → List Field → Bool
are_named name from to first [] = true
are_named name from to first (entry ∷ entries) = (not (nat_le from first && nat_lt first to) || same entry.name name) && are_named name from to (suc first) entries

or_right : (a b : Bool) → a ≡ true → (not a || b) ≡ true → b ≡ true
or_right true b h e = e
or_right false b h e = cc

and_both : (a b : Bool) → a ≡ true → b ≡ true → (a && b) ≡ true
and_both true b h e = e
and_both false b h e = cc

named_at : (name : List ℕ) (from to first : ℕ) (entries : List Field) (place : ℕ) (entry : Field) → are_named name from to first entries ≡ true → from ≤ place + first → place + first < to → slice_get entries place ≡ Some entry → entry.name ≡ name
named_at name from to first [] place entry e low high g = cc
named_at name from to first (x ∷ fields) zero entry e low high g =
    let is : x ≡ entry = cc in
    let within : (nat_le from first && nat_lt first to) ≡ true = and_both (nat_le from first) (nat_lt first to) (le-leb from first (omega (arith, low))) (lt-ltb first to (omega (arith, high))) in
    let here = and_left (not (nat_le from first && nat_lt first to) || same x.name name) (are_named name from to (suc first) fields) e in
    ap (λ (f : Field). f.name) (sym is) ∙ same_is x.name name (or_right (nat_le from first && nat_lt first to) (same x.name name) within here)
named_at name from to first (x ∷ fields) (suc place) entry e low high g =
    let far : suc place + first ≡ place + suc first = omega arith in
    named_at name from to (suc first) fields place entry (and_right (not (nat_le from first && nat_lt first to) || same x.name name) (are_named name from to (suc first) fields) e)
    (subst (λ p. from ≤ p) far low) (subst (λ p. p < to) far high) g

-- where the slot of a name says that its entries begin
abbrev start_at : List ℕ → ℕ
start_at name = get_or STARTS (slot_of name) 0

-- each entry stands in a run of its name
abbrev are_runs : ℕ → List Field → Bool
are_runs place [] = true
are_runs place (entry ∷ entries) = nat_le (start_at entry.name) place && (are_named entry.name (start_at entry.name) place 0 static_table && are_runs (suc place) entries)

runs_hold : are_runs 0 static_table ≡ true
unfolding static_table
runs_hold = refl

record IsInRun (place : ℕ) (entry : Field) : Type 0 where
  pub begins : start_at entry.name ≤ place
  pub named : are_named entry.name (start_at entry.name) place 0 static_table ≡ true

run_at : (first : ℕ) (fields : List Field) (place : ℕ) (entry : Field) → are_runs first fields ≡ true → slice_get fields place ≡ Some entry → IsInRun (place + first) entry
run_at first [] place entry e g = cc
run_at first (x ∷ fields) zero entry e g =
    let is : x ≡ entry = cc in
    let rest = and_right (nat_le (start_at x.name) first) (are_named x.name (start_at x.name) first 0 static_table && are_runs (suc first) fields) e in
    let none : 0 + first ≡ first = omega arith in
    let run : IsInRun first x = record {
      begins = leb-true (start_at x.name) first (and_left (nat_le (start_at x.name) first) (are_named x.name (start_at x.name) first 0 static_table && are_runs (suc first) fields) e);
      named = and_left (are_named x.name (start_at x.name) first 0 static_table) (are_runs (suc first) fields) rest;
    } in
    subst (λ p. IsInRun p entry) (sym none) (subst (IsInRun first) is run)
run_at first (x ∷ fields) (suc place) entry e g =
    let rest = and_right (nat_le (start_at x.name) first) (are_named x.name (start_at x.name) first 0 static_table && are_runs (suc first) fields) e in
    let far : place + suc first ≡ suc place + first = omega arith in
    subst (λ p. IsInRun p entry) far (run_at (suc first) fields place entry (and_right (are_named x.name (start_at x.name) first 0 static_table) (are_runs (suc first) fields) rest) g)

pub static_within : (place : ℕ) (entry : Field) → slice_get static_table place ≡ Some entry → place < 61
static_within place entry e = let within = slice_get_within static_table place entry e in omega (arith, within, entries)

in_run : (place : ℕ) (entry : Field) → slice_get static_table place ≡ Some entry → IsInRun place entry
in_run place entry e = let none : place + 0 ≡ place = omega arith in subst (λ p. IsInRun p entry) none (run_at 0 static_table place entry runs_hold e)

pub has_start : (name : List ℕ) (result : ℕ) → result ≡ start_at name → IsStartOf name result
has_start name result is = record {
  none = λ other less entry e same_name.
      let begins : start_at name ≤ other = subst (λ n. start_at n ≤ other) same_name (in_run other entry e).begins in
      omega (arith, less, begins, is);
  together = λ other later low order without entry e same_name.
      let within = static_within later entry e in
      let there = slice_get-get_or static_table other (field_of [] []) (omega (arith, entries, within, order)) in
      let run = in_run later entry e in
      let begins : start_at entry.name ≡ result = ap start_at same_name ∙ sym is in
      elim (cases_lt other later) [
        | inl less ↦ (let none : other + 0 ≡ other = omega arith in
            without _ there (named_at entry.name (start_at entry.name) later 0 static_table other _ run.named (omega (arith, low, begins)) (omega (arith, less)) there ∙ same_name))
        | inr past ↦ (let at : later ≡ other = omega (arith, order, past) in without entry (subst (λ p. slice_get static_table p ≡ Some entry) at e) same_name)
      ];
}

pub look_at : (place : ℕ) (entry : Field) → slice_get static_table place ≡ Some entry → look_up static_alone (place + 1) ≡ Some entry
look_at place entry g =
    let within = static_within place entry g in
    let far : place + 1 ≡ suc place = omega arith in
    rw far (get_front static_table [] place (omega (arith, entries, within)) ∙ g)

-- an entry by its index is one by its place
record StandsAt (index : ℕ) (entry : Field) : Type 0 where
  pub place : ℕ
  pub is : index ≡ place + 1
  pub here : slice_get static_table place ≡ Some entry

stands : (index : ℕ) (entry : Field) → look_up static_alone index ≡ Some entry → StandsAt index entry
stands zero entry e = cc
stands (suc place) entry e =
    let within : suc place < 62 = alone_within (suc place) entry e in
    record { place = place; is = omega arith; here = sym (get_front static_table [] place (omega (arith, entries, within))) ∙ e }

-- The entry at a place has a name.
pub record HasNameAt (name : List ℕ) (place : ℕ) : Type 0 where
  pub value : List ℕ
  pub here : slice_get static_table place ≡ Some (field_of name value)

-- A walk over a run has come to a place, without the value.
pub record Walks (name value : List ℕ) (start place : ℕ) : Type 0 where
  pub low : start ≤ place
  pub named : start < place → HasNameAt name start
  pub others : (other : ℕ) → start ≤ other → other < place → slice_get static_table other ≡ Some (field_of name value) → ⊥

pub walk_begins : (name value : List ℕ) (start : ℕ) → Walks name value start start
walk_begins name value start = record { low = omega arith; named = λ less. absurd (omega (arith, less)); others = λ other low less e. absurd (omega (arith, low, less)) }

pub walk_goes_on : (name value entry_value : List ℕ) (start place : ℕ) → Walks name value start place → slice_get static_table place ≡ Some (field_of name entry_value) → (entry_value ≡ value → ⊥) → Walks name value start (place + 1)
walk_goes_on name value entry_value start place w here other_value = record {
  low = let low = w.low in omega (arith, low);
  named = λ less. elim (cases_lt start place) [
    | inl before ↦ w.named before
    | inr past ↦ (let low = w.low in let at : place ≡ start = omega (arith, past, low) in record { value = entry_value; here = subst (λ p. slice_get static_table p ≡ Some (field_of name entry_value)) at here })
  ];
  others = λ other low less e. elim (cases_lt other place) [
    | inl before ↦ w.others other low before e
    | inr past ↦ (let at : other ≡ place = omega (arith, less, past) in
        let is : ◌≡◌ {A = Option Field} (Some (field_of name entry_value)) (Some (field_of name value)) = sym here ∙ ap (slice_get static_table) (sym at) ∙ e in
        let field : field_of name entry_value ≡ field_of name value = cc in
        other_value (ap (λ (f : Field). f.value) field))
  ];
}

pub walk_finds : (name value : List ℕ) (start place : ℕ) → IsStartOf name start → Walks name value start place → slice_get static_table place ≡ Some (field_of name value) → FindsBoth static_alone name value (place + 1)
walk_finds name value start place s w here = record {
  here = look_at place (field_of name value) here;
  least = λ lower less e.
      let at = stands lower (field_of name value) e in
      let is = at.is in
      elim (cases_lt at.place start) [
        | inl before ↦ s.none at.place before (field_of name value) at.here refl
        | inr past ↦ w.others at.place past (omega (arith, less, is)) at.here
      ];
}

pub walk_finds_none : (name : List ℕ) (start : ℕ) → IsStartOf name start → HasNotName name start → HasNoName static_alone name
walk_finds_none name start s without index entry e same_name =
    let at = stands index entry e in
    elim (cases_lt at.place start) [
      | inl before ↦ s.none at.place before entry at.here same_name
      | inr past ↦ s.together start at.place (omega arith) past without entry at.here same_name
    ]

pub walk_ends : (name value : List ℕ) (start place : ℕ) → IsStartOf name start → Walks name value start place → HasNotName name place → (place ≡ start → ⊥) → FindsName static_alone name (start + 1) × HasNone static_alone name value
walk_ends name value start place s w without some =
    let low = w.low in
    let named = w.named (omega (arith, low, some)) in (
      record {
        entry = field_of name named.value;
        here = look_at start (field_of name named.value) named.here;
        named = refl;
        least = λ lower other less e same_name.
            let at = stands lower other e in
            let is = at.is in
            s.none at.place (omega (arith, less, is)) other at.here same_name;
      },
      λ index e.
          let at = stands index (field_of name value) e in
          elim (cases_lt at.place start) [
            | inl before ↦ s.none at.place before (field_of name value) at.here refl
            | inr past ↦ elim (cases_lt at.place place) [
              | inl within ↦ w.others at.place past within at.here
              | inr behind ↦ s.together place at.place low behind without (field_of name value) at.here refl
            ]
          ],
    )

pub start_within : (name value : List ℕ) (start place : ℕ) → Walks name value start place → (place ≡ start → ⊥) → start < 61
start_within name value start place w some =
    let low = w.low in
    let named = w.named (omega (arith, low, some)) in
    static_within start _ named.here
