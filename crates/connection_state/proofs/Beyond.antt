-- An id of a connection that is drained: it is beyond the last that was opened, or stands as ever.
use Rattle.std.proofs.Common.{◌≡◌, ℕ, Bool, true, false, not, ◌&&◌, ◌||◌, ◌==◌, ◌%◌, nat_lt, if◌then◌else◌, List, ◌∷◌, length, Option, Some, None, refl, sym, ◌∙◌, ap, inl, inr}
use Rattle.std.proofs.lemmas.Bool.{and_right, cases_Bool}
use Rattle.std.specs.List.{list_all}
use Rattle.model.specs.StreamStates.{StreamState, Standing, opened_or, is_above, state_of}
use Rattle.model.specs.StreamStates.Standing.{WholeConnection, Opened, Idle, ServerIdle, Skipped, Beyond}
use Rattle.model.specs.Limits.{most_streams}
use Rattle.model.specs.Lifetimes.{may_open}
use Rattle.model.proofs.OwedSteps.{neither}
use Rattle.theory_errors.specs.Book.{first_ledger, summary_in}
use Rattle.theory_errors.specs.Rows.{Row, ids_of}
use Rattle.theory_errors.proofs.Calm.{idle_standing}
use Rattle.streams.specs.Asked.{standing, opened_in}
use Rattle.connection_state.specs.Draining.{is_beyond, AreAsEver}
use Rattle.connection_state.proofs.Answering.{any_setup}

-- none may be opened where the connection is drained
pub none_opens : (ids : List ℕ) (id : ℕ) → may_open true ids id ≡ false
none_opens ids id = and_right (id % 2 == 1 && list_all (λ other. nat_lt other id) ids) false refl

-- What opens no other stream than ever opens the last as ever.
pub last_as_ever : (drained : Bool) (ids : List ℕ) (id : ℕ) → may_open drained ids id ≡ may_open false ids id
    → (not drained && nat_lt (length ids) most_streams && (drained || length (if may_open drained ids id then id ∷ ids else ids) == most_streams))
    ≡ (nat_lt (length ids) most_streams && length (if may_open false ids id then id ∷ ids else ids) == most_streams)
last_as_ever false ids id same = refl
last_as_ever true ids id same =
    sym (ap (λ x. nat_lt (length ids) most_streams && length (if x then id ∷ ids else ids) == most_streams) (sym same ∙ none_opens ids id) ∙ neither (length ids) most_streams)

-- ---- a standing

pub beyond_is : (standing : Standing) → is_beyond standing ≡ true → standing ≡ Beyond
beyond_is Beyond is = refl
beyond_is WholeConnection is = absurd (let no : false ≡ true = is in cc)
beyond_is (Opened state) is = absurd (let no : false ≡ true = is in cc)
beyond_is Idle is = absurd (let no : false ≡ true = is in cc)
beyond_is ServerIdle is = absurd (let no : false ≡ true = is in cc)
beyond_is Skipped is = absurd (let no : false ≡ true = is in cc)

-- that of an id, by what is known of it
abbrev stands : Bool → Option StreamState → Bool → Bool → Bool → Standing
stands whole found above full even =
    if whole then WholeConnection else opened_or found (if above && full then Beyond else (if even then ServerIdle else (if above then Idle else Skipped)))

alike : (whole : Bool) (found : Option StreamState) (above full even : Bool) → is_beyond (stands whole found above true even) ≡ false → stands whole found above true even ≡ stands whole found above full even
alike true found above full even none = refl
alike false (Some state) above full even none = refl
alike false None true full even none = absurd (let no : true ≡ false = none in cc)
alike false None false full even none = refl

-- one that is idle undrained is beyond
idle_beyond : (whole : Bool) (found : Option StreamState) (above full even : Bool) → stands whole found above full even ≡ Idle → is_beyond (stands whole found above true even) ≡ true
idle_beyond true found above full even idle = absurd (let no : WholeConnection ≡ Idle = idle in cc)
idle_beyond false (Some state) above full even idle = absurd (let no : Opened state ≡ Idle = idle in cc)
idle_beyond false None true full even idle = refl
idle_beyond false None false full true idle = absurd (let no : ServerIdle ≡ Idle = idle in cc)
idle_beyond false None false full false idle = absurd (let no : Skipped ≡ Idle = idle in cc)

module _ (rows : List Row) (id : ℕ) where
  -- one that may be opened is idle
  idle_if_opens : may_open false (ids_of rows) id ≡ true → standing false rows id ≡ Idle
  idle_if_opens may = idle_standing (summary_in (record (first_ledger any_setup).book { drained = false; rows = rows })) id may

  -- An id that isn't beyond stands as ever.
  pub as_ever : is_beyond (standing true rows id) ≡ false → AreAsEver true rows id
  as_ever none = record {
    stands = alike (id == 0) (state_of id (opened_in rows)) (is_above id (opened_in rows)) (length (opened_in rows) == most_streams) (id % 2 == 0) none;
    opens = none_opens (ids_of rows) id ∙ sym (elim (cases_Bool (may_open false (ids_of rows) id)) [
      | inr closed ↦ closed
      | inl may ↦ absurd (let no : true ≡ false = sym (idle_beyond (id == 0) (state_of id (opened_in rows)) (is_above id (opened_in rows)) (length (opened_in rows) == most_streams) (id % 2 == 0) (idle_if_opens may)) ∙ none in cc)
    ]);
  }
