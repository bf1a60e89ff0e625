-- What is kept of a stream's course behind an entry: it goes on, or nothing is kept of it.
use Rattle.std.proofs.Common.{◌≡◌, ℕ, Bool, true, false, ◌||◌, ◌==◌, if◌then◌else◌, ◌⊎◌, List, ◌∷◌, map, Option, Some, None, refl, sym, ◌∙◌, ap, subst, inl, inr}
use Rattle.std.specs.Prelude.{is_some}
use Rattle.std.specs.List.{list_any}
use Rattle.std.proofs.lemmas.Bool.{or_parts, cases_Bool}
use Rattle.std.proofs.lemmas.Bool.Decides.{eqb_tells}
use Rattle.model.specs.Messages.{ends_with}
use Rattle.model.specs.Malformed.{is_begun}
use Rattle.model.specs.Setup.{Setup}
use Rattle.model.specs.Tapes.{Entry}
use Rattle.model.specs.Tapes.Entry.{Came, Breached, Happened, Sent, Did}
use Rattle.model.specs.Errors.{Fault}
use Rattle.model.specs.Causes.{Cause}
use Rattle.model.specs.Courses.{interrupts, first_of_both}
use Rattle.model.specs.Lifetimes.{opens_by, may_open}
use Rattle.model.proofs.OpenedLaws.{not_opened}
use Rattle.theory_errors.specs.Summary.{Stream as Kept, Outline, Summary}
use Rattle.theory_errors.specs.Judging.{is_over_in, completed_in, fault_for}
use Rattle.theory_errors.specs.Owing.{items_in, new_cause_in}
use Rattle.theory_errors.specs.After.{kept_behind}
use Rattle.theory_errors.specs.Rows.{Row, ids_of, find, fresh, kept_in, slot_of, row_behind, row_opened, rows_after}
use Rattle.theory_errors.specs.Rows.Slot.{Live, Over}
use Rattle.theory_errors.proofs.Rows.{find_changed, find_none, ids_changed}
use Rattle.theory_errors.proofs.RowsKept.{opens_own}

-- ---- a stream behind an entry

-- Nothing is kept of a stream's course; it is over, or the gateway didn't end it.
pub record IsGone (k : Kept) : Type 0 where
  pub outline : k.outline ≡ fresh.outline
  pub half : k.ended_by_gateway ≡ true → is_over_in k ≡ false → ⊥

gone_fresh : (k : Kept) → k ≡ fresh → IsGone k
gone_fresh k is = subst IsGone (sym is) (record { outline = refl; half = λ ended over. cc })

gone_over : (by_us : Bool) → IsGone (kept_in (Over by_us))
gone_over true = record { outline = refl; half = λ ended over. cc }
gone_over false = record { outline = refl; half = λ ended over. cc }

slot_tells : (k : Kept) → (kept_in (slot_of k) ≡ k) ⊎ IsGone (kept_in (slot_of k))
slot_tells k = by (is_over_in k)
  where
    by : (b : Bool) → (kept_in (if b then Over k.reset_by_gateway else Live k) ≡ k) ⊎ IsGone (kept_in (if b then Over k.reset_by_gateway else Live k))
    by true = inr (gone_over k.reset_by_gateway)
    by false = inl refl

-- what is found of a stream behind an entry: what was kept of it goes on, or nothing is kept
module _ (setup : Setup) (fails : Bool) (s : Summary) (e : Entry) (rows : List Row) where
  abbrev pub Goes_on : ℕ → List Row → Type 0
  Goes_on id after = (find after id ≡ kept_behind setup fails s e id (find rows id)) ⊎ IsGone (find after id)

  in_rows : (id : ℕ) → Goes_on id (map (row_behind setup fails s e) rows)
  in_rows id = elim (cases_Bool (list_any (λ other. other == id) (ids_of rows))) [
    | inl there ↦ changed (find_changed setup fails s e rows id there)
    | inr none ↦ inr (gone_fresh (find (map (row_behind setup fails s e) rows) id) (find_none (map (row_behind setup fails s e) rows) id (ap (λ (ids : List ℕ). list_any (λ other. other == id) ids) (ids_changed setup fails s e rows) ∙ none)))
  ]
    where
      changed : find (map (row_behind setup fails s e) rows) id ≡ kept_in (slot_of (kept_behind setup fails s e id (find rows id))) → Goes_on id (map (row_behind setup fails s e) rows)
      changed is = elim (slot_tells (kept_behind setup fails s e id (find rows id))) [ inl same ↦ inl (is ∙ same) | inr none ↦ inr (subst IsGone (sym is) none) ]

-- so behind any entry
pub behind_rows : (setup : Setup) (fails : Bool) (s : Summary) (e : Entry) (rows : List Row) → s.opened ≡ ids_of rows → (id : ℕ) → Goes_on setup fails s e rows id (rows_after setup fails s e rows)
behind_rows setup fails s (Came noted) rows opened id = by (opens_by s.drained s.opened (completed_in s.block noted.frame) noted.note) refl
  where
    own : opens_by s.drained s.opened (completed_in s.block noted.frame) noted.note ≡ true → noted.frame.id ≡ id → find rows id ≡ fresh
    own opens same =
        find_none rows id (not_opened s.drained (ids_of rows) id (ap (λ (ids : List ℕ). may_open s.drained ids id) (sym opened) ∙ ap (λ n. may_open s.drained s.opened n) (sym same) ∙ opens_own s.drained s.opened s.block noted.frame noted.note opens))

    front : Row
    front = row_opened setup fails s (Came noted) noted.frame.id

    rest : List Row
    rest = map (row_behind setup fails s (Came noted)) rows

    new : opens_by s.drained s.opened (completed_in s.block noted.frame) noted.note ≡ true → Goes_on setup fails s (Came noted) rows id (front ∷ rest)
    new opens = elim (eqb_tells noted.frame.id id) [
      | inl same ↦ opened_row same
      | inr apart ↦ subst (λ b. ((if b then kept_in front.slot else find rest id) ≡ kept_behind setup fails s (Came noted) id (find rows id)) ⊎ IsGone (if b then kept_in front.slot else find rest id)) (sym apart.0) (in_rows setup fails s (Came noted) rows id)
    ]
      where
        opened_row : ((noted.frame.id == id) ≡ true) × (noted.frame.id ≡ id) → Goes_on setup fails s (Came noted) rows id (front ∷ rest)
        opened_row same =
            let here : find (front ∷ rest) id ≡ kept_in front.slot = ap (λ b. if b then kept_in front.slot else find rest id) same.0 in
            elim (slot_tells (kept_behind setup fails s (Came noted) noted.frame.id fresh)) [
              | inl is ↦ inl (here ∙ is ∙ ap (λ n. kept_behind setup fails s (Came noted) n fresh) same.1 ∙ ap (λ (k : Kept). kept_behind setup fails s (Came noted) id k) (sym (own opens same.1)))
              | inr none ↦ inr (subst IsGone (sym here) none)
            ]

    by : (b : Bool) → opens_by s.drained s.opened (completed_in s.block noted.frame) noted.note ≡ b → Goes_on setup fails s (Came noted) rows id (if b then front ∷ rest else rest)
    by true is = new is
    by false is = in_rows setup fails s (Came noted) rows id
behind_rows setup fails s (Breached breach) rows opened id = in_rows setup fails s (Breached breach) rows id
behind_rows setup fails s (Happened event) rows opened id = in_rows setup fails s (Happened event) rows id
behind_rows setup fails s (Sent noted) rows opened id = in_rows setup fails s (Sent noted) rows id
behind_rows setup fails s (Did act) rows opened id = in_rows setup fails s (Did act) rows id

-- ---- the course of a stream behind an entry

-- The items go on behind it: they did before, and nothing interrupts them.
pub record GoOn (setup : Setup) (fails : Bool) (s : Summary) (e : Entry) (id : ℕ) (k : Kept) (now : Outline) : Type 0 where
  pub not_over : k.outline.over ≡ false
  pub uninterrupted : interrupts id e (fault_for k.outline s e) (new_cause_in setup fails id s e k.outline (fault_for k.outline s e)) ≡ false
  pub none_end : list_any ends_with (items_in id s e) ≡ false
  pub begun : now.begun ≡ (k.outline.begun || is_begun (items_in id s e))
  pub cause : now.cause ≡ k.outline.cause

none_some : (c : Option Cause) → is_some c ≡ false → c ≡ None
none_some None e = refl
none_some (Some cause) e = cc

kept_cause : (c d : Option Cause) → d ≡ None → first_of_both c d ≡ c
kept_cause None d none = none
kept_cause (Some cause) d none = refl

pub goes_on : (setup : Setup) (fails : Bool) (s : Summary) (e : Entry) (id : ℕ) (k : Kept) → (kept_behind setup fails s e id k).outline.over ≡ false → GoOn setup fails s e id k (kept_behind setup fails s e id k).outline
goes_on setup fails s e id k over =
    let found : Option Fault = fault_for k.outline s e in
    let cause : Option Cause = new_cause_in setup fails id s e k.outline found in
    let last = or_parts (k.outline.over || interrupts id e found cause) (list_any ends_with (items_in id s e)) over in
    let first = or_parts k.outline.over (interrupts id e found cause) last.0 in
    let caused = or_parts _ (is_some cause) first.1 in
    record {
      not_over = first.0;
      uninterrupted = first.1;
      none_end = last.1;
      begun = ap (λ b. if b then k.outline.begun else k.outline.begun || is_begun (items_in id s e)) last.0;
      cause = kept_cause k.outline.cause cause (none_some cause caused.1);
    }
