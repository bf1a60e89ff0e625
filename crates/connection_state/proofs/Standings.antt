-- What the standing of an id says of RST_STREAM and WINDOW_UPDATE: they pass just where its stream is active.
use Rattle.std.proofs.Common.{◌≡◌, ℕ, Bool, true, false, not, ◌&&◌, ◌||◌, ◌==◌, ◌%◌, if◌then◌else◌, List, length, Option, Some, None, refl, sym, ◌∙◌, ap, inl, inr}
use Rattle.std.proofs.lemmas.Bool.{and_parts, cases_Bool}
use Rattle.model.specs.Errors.{Fault}
use Rattle.model.specs.StreamStates.{StreamState, Standing, verdict, opened_verdict, opened_or, unopened, state_of, is_above}
use Rattle.model.specs.Limits.{most_streams}
use Rattle.model.specs.StreamStates.StreamState.{ResetByPeer, ResetByUs}
use Rattle.model.specs.StreamStates.Standing.{WholeConnection, Opened}
use Rattle.model.specs.Lifetimes.{state_by_ends}
use Rattle.model.specs.ErrorTable.{fault_of}
use Rattle.theory_errors.specs.Summary.{Stream as Kept}
use Rattle.theory_errors.specs.Judging.{state_in, is_over_in}
use Rattle.theory_errors.specs.Rows.{Row, find, ids_of}
use Rattle.streams.specs.Asked as asked
use Rattle.streams.specs.Asked.{opened_in, standing, active_in, has, is_active}
use Rattle.streams.proofs.Asked.{state_found, state_none}

module _ (drained : Bool) (rows : List Row) (id : ℕ) (of_stream : (id == 0) ≡ false) where
  -- how an id stands that wasn't opened
  abbrev pub otherwise : Standing
  otherwise = unopened (is_above id (opened_in rows)) (drained || length (opened_in rows) == most_streams) id

  -- a stream that was opened stands by its state
  pub opened_standing : has rows id ≡ true → standing drained rows id ≡ Opened (state_in (find rows id))
  opened_standing there =
      ap (λ x. if x then WholeConnection else opened_or (state_of id (opened_in rows)) otherwise) of_stream
      ∙ ap (λ (o : Option StreamState). opened_or o otherwise) (state_found (find rows) (ids_of rows) id there)

  -- any other by its id
  pub other_standing : has rows id ≡ false → standing drained rows id ≡ otherwise
  other_standing none =
      ap (λ x. if x then WholeConnection else opened_or (state_of id (opened_in rows)) otherwise) of_stream
      ∙ ap (λ (o : Option StreamState). opened_or o otherwise) (state_none (find rows) (ids_of rows) id none)

-- the fault of these two types by the state of a stream
both_pass : (a b c d : Bool) → (d || c || a && b) ≡ false → (fault_of (opened_verdict (if d then ResetByUs else (if c then ResetByPeer else state_by_ends a b)) 3) ≡ None) × (fault_of (opened_verdict (if d then ResetByUs else (if c then ResetByPeer else state_by_ends a b)) 8) ≡ None)
both_pass a b c true on = absurd (let no : true ≡ false = on in cc)
both_pass a b true false on = absurd (let no : true ≡ false = on in cc)
both_pass true true false false on = absurd (let no : true ≡ false = on in cc)
both_pass true false false false on = (refl, refl)
both_pass false true false false on = (refl, refl)
both_pass false false false false on = (refl, refl)

-- of one that is over
both_fail : (a b c d : Bool) → (d || c || a && b) ≡ true → (fault_of (opened_verdict (if d then ResetByUs else (if c then ResetByPeer else state_by_ends a b)) 3) ≡ Some Fault.Discarded) × (fault_of (opened_verdict (if d then ResetByUs else (if c then ResetByPeer else state_by_ends a b)) 8) ≡ Some Fault.Discarded)
both_fail a b c true over = (refl, refl)
both_fail a b true false over = (refl, refl)
both_fail true true false false over = (refl, refl)
both_fail true false false false over = absurd (let no : false ≡ true = over in cc)
both_fail false true false false over = absurd (let no : false ≡ true = over in cc)
both_fail false false false false over = absurd (let no : false ≡ true = over in cc)

-- and by an id whose stream wasn't opened
both_refused : (active : ℕ) (above full even : Bool) → ((f : Fault) × (fault_of (verdict active (if above && full then Standing.Beyond else (if even then Standing.ServerIdle else (if above then Standing.Idle else Standing.Skipped))) 3) ≡ Some f)) × ((f : Fault) × (fault_of (verdict active (if above && full then Standing.Beyond else (if even then Standing.ServerIdle else (if above then Standing.Idle else Standing.Skipped))) 8) ≡ Some f))
both_refused active true true even = ((_, refl), (_, refl))
both_refused active true false true = ((_, refl), (_, refl))
both_refused active true false false = ((_, refl), (_, refl))
both_refused active false full true = ((_, refl), (_, refl))
both_refused active false full false = ((_, refl), (_, refl))

module _ (drained : Bool) (rows : List Row) (id : ℕ) (of_stream : (id == 0) ≡ false) where
  -- An active stream takes both.
  pub active_passes : is_active rows id ≡ true → (fault_of (asked.verdict drained rows id 3) ≡ None) × (fault_of (asked.verdict drained rows id 8) ≡ None)
  active_passes active =
      let parts = and_parts (has rows id) (not (is_over_in (find rows id))) active in
      let k : Kept = find rows id in
      let on : is_over_in k ≡ false = back (is_over_in k) parts.1 in
      let pass = both_pass k.ended_by_client k.ended_by_gateway k.reset_by_client k.reset_by_gateway on in
      let st = opened_standing drained rows id of_stream parts.0 in
      (ap (λ (s : Standing). fault_of (verdict (length (active_in rows)) s 3)) st ∙ pass.0, ap (λ (s : Standing). fault_of (verdict (length (active_in rows)) s 8)) st ∙ pass.1)
    where
      back : (x : Bool) → not x ≡ true → x ≡ false
      back true is = absurd (let no : false ≡ true = is in cc)
      back false is = refl

  -- Where it isn't active, each has a fault.
  pub inactive_fails : is_active rows id ≡ false → ((f : Fault) × (fault_of (asked.verdict drained rows id 3) ≡ Some f)) × ((f : Fault) × (fault_of (asked.verdict drained rows id 8) ≡ Some f))
  inactive_fails idle = elim (cases_Bool (has rows id)) [
    | inl there ↦
        let k : Kept = find rows id in
        let over : is_over_in k ≡ true = back (is_over_in k) (sym (ap (λ x. x && not (is_over_in k)) there) ∙ idle) in
        let fail = both_fail k.ended_by_client k.ended_by_gateway k.reset_by_client k.reset_by_gateway over in
        let st = opened_standing drained rows id of_stream there in
        ((Fault.Discarded, ap (λ (s : Standing). fault_of (verdict (length (active_in rows)) s 3)) st ∙ fail.0), (Fault.Discarded, ap (λ (s : Standing). fault_of (verdict (length (active_in rows)) s 8)) st ∙ fail.1))
    | inr none ↦
        let refused = both_refused (length (active_in rows)) (is_above id (opened_in rows)) (drained || length (opened_in rows) == most_streams) (id % 2 == 0) in
        let st = other_standing drained rows id of_stream none in
        ((refused.0.0, ap (λ (s : Standing). fault_of (verdict (length (active_in rows)) s 3)) st ∙ refused.0.1), (refused.1.0, ap (λ (s : Standing). fault_of (verdict (length (active_in rows)) s 8)) st ∙ refused.1.1))
  ]
    where
      back : (x : Bool) → not x ≡ false → x ≡ true
      back true is = refl
      back false is = absurd (let no : true ≡ false = is in cc)

  -- So a fault of one says that it isn't active, and none that it is.
  pub reset_inactive : (f : Fault) → fault_of (asked.verdict drained rows id 3) ≡ Some f → is_active rows id ≡ false
  reset_inactive f is = elim (cases_Bool (is_active rows id)) [
    | inl active ↦ absurd (let no : None ≡ Some f = sym (active_passes active).0 ∙ is in cc)
    | inr idle ↦ idle
  ]

  pub reset_active : fault_of (asked.verdict drained rows id 3) ≡ None → is_active rows id ≡ true
  reset_active none = elim (cases_Bool (is_active rows id)) [
    | inl active ↦ active
    | inr idle ↦ let fails = (inactive_fails idle).0 in absurd (let no : None ≡ Some fails.0 = sym none ∙ fails.1 in cc)
  ]

  pub update_inactive : (f : Fault) → fault_of (asked.verdict drained rows id 8) ≡ Some f → is_active rows id ≡ false
  update_inactive f is = elim (cases_Bool (is_active rows id)) [
    | inl active ↦ absurd (let no : None ≡ Some f = sym (active_passes active).1 ∙ is in cc)
    | inr idle ↦ idle
  ]

  pub update_active : fault_of (asked.verdict drained rows id 8) ≡ None → is_active rows id ≡ true
  update_active none = elim (cases_Bool (is_active rows id)) [
    | inl active ↦ active
    | inr idle ↦ let fails = (inactive_fails idle).1 in absurd (let no : None ≡ Some fails.0 = sym none ∙ fails.1 in cc)
  ]
