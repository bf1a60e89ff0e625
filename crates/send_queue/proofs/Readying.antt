-- The stream that has the next turn, among streams whose ids rise.
use Rattle.std.proofs.Common.{◌≡◌, ℕ, ◌+◌, ◌<◌, ◌≤◌, ◌==◌, ◌&&◌, ◌||◌, if◌then◌else◌, Bool, true, false, nat_lt, List, [], ◌∷◌, ◌++◌, length, get_or, take, drop, map, filter, refl, sym, ap, ◌∙◌, subst, inl, inr, arith}
use Rattle.std.specs.Prelude.{Option, Some, None, slice_index}
use Rattle.std.specs.List.{AllByRecursion}
use Rattle.std.proofs.lemmas.Bool.{and_parts, eq-eqb, ne_eqb, cases_lt}
use Rattle.std.proofs.lemmas.Bool.Decides.{eqb_tells}
use Rattle.std.proofs.lemmas.List.{take-append-drop, at_drop_more, at_drop_all}
use Rattle.model.specs.Turns.{IsNextTurn}
use Rattle.theory_responses.specs.Outbox.{Outbox, can_go}
use Rattle.theory_responses.specs.Outbox.Outbox.{Before, Behind, Over}
use Rattle.theory_responses.specs.State.{Kept, State, Windows, find, is_ready, is_ready_if, can_turn, ready}
use Rattle.theory_responses.proofs.Listing.{StandsAt, filter_in, filter_out, found_among}
use Rattle.send_queue.specs.Places.{is_below_all, AreRising, IsSplit}
use Rattle.send_queue.specs.Asked.{first_ready}
use Rattle.send_queue.proofs.Rising.{below_found}

-- ---- of an outbox

-- what can go whatever the windows are, and what can go where they are open
pub goes_by_windows : (windows : Bool) (box : Outbox) → can_go windows box ≡ (can_go false box || can_go true box && windows)
goes_by_windows windows (Before (first ∷ interims) head body whole) = refl
goes_by_windows windows (Before [] (Some head) body whole) = refl
goes_by_windows windows (Before [] None body whole) = refl
goes_by_windows windows (Behind (octet ∷ octets) whole) = refl
goes_by_windows windows (Behind [] None) = refl
goes_by_windows windows (Behind [] (Some [])) = refl
goes_by_windows windows (Behind [] (Some (field ∷ fields))) = refl
goes_by_windows windows Over = refl

-- ---- a list in two parts

pub rising_upto : (xs ys : List Kept) → AreRising (xs ++ ys) → AreRising xs
rising_upto [] ys rising = tt
rising_upto (k ∷ xs) ys rising = (below_front k.id xs ys rising.0, rising_upto xs ys rising.1)
  where
    below_front : (id : ℕ) (xs ys : List Kept) → is_below_all id (xs ++ ys) ≡ true → is_below_all id xs ≡ true
    below_front id [] ys below = refl
    below_front id (x ∷ xs) ys below =
        let parts = and_parts (nat_lt id x.id) (is_below_all id (xs ++ ys)) below in
        ap (λ b. b && is_below_all id xs) parts.0 ∙ below_front id xs ys parts.1

pub rising_from : (xs ys : List Kept) → AreRising (xs ++ ys) → AreRising ys
rising_from [] ys rising = rising
rising_from (k ∷ xs) ys rising = rising_from xs ys rising.1

-- so they do behind a place
pub rising_drop : (place : ℕ) (ks : List Kept) → AreRising ks → AreRising (drop place ks)
rising_drop place ks rising = rising_from (take place ks) (drop place ks) (subst AreRising (sym (take-append-drop place ks)) rising)

-- a stream that isn't above the last is found in the first part
found_upto : (last id : ℕ) (xs ys : List Kept) → AllByRecursion (λ (k : Kept). last < k.id) ys → id ≤ last → find id (xs ++ ys) ≡ find id xs
found_upto last id [] [] above upto = refl
found_upto last id [] (k ∷ ys) above upto =
    ap (λ b. if b then Some k else find id ys) (ne_eqb k.id id (λ same. let high = above.0 in omega (arith, same, high, upto)))
    ∙ found_upto last id [] ys above.1 upto
found_upto last id (k ∷ xs) ys above upto = ap (λ o. if k.id == id then Some k else o) (found_upto last id xs ys above upto)

-- one that is above it in the second
found_above : (last id : ℕ) (xs ys : List Kept) → AllByRecursion (λ (k : Kept). k.id ≤ last) xs → last < id → find id (xs ++ ys) ≡ find id ys
found_above last id [] ys upto above = refl
found_above last id (k ∷ xs) ys upto above =
    ap (λ b. if b then Some k else find id (xs ++ ys)) (ne_eqb k.id id (λ same. let low = upto.0 in omega (arith, same, low, above)))
    ∙ found_above last id xs ys upto.1 above

-- what is found has what all have
found_has : (P : ℕ → Type 0) (id : ℕ) (ks : List Kept) (k : Kept) → AllByRecursion (λ (x : Kept). P x.id) ks → find id ks ≡ Some k → P id
found_has P id [] k each found = absurd (let no : ◌≡◌ {A = Option Kept} None (Some k) = found in cc)
found_has P id (x ∷ ks) k each found = by (x.id == id) refl found (found_has P id ks k each.1)
  where
    by : (b : Bool) → (x.id == id) ≡ b → (if b then Some x else find id ks) ≡ Some k → (find id ks ≡ Some k → P id) → P id
    by true same e rest = elim (eqb_tells x.id id) [
      | inl t ↦ subst P t.1 each.0
      | inr f ↦ absurd (let no : true ≡ false = sym same ∙ f.0 in cc)
    ]
    by false same e rest = rest e

-- ---- the first of which something can go

-- where there is none, nothing of any can go
first_none : (w : Windows) (k : Kept) (ks : List Kept) → first_ready w (k ∷ ks) ≡ None → (is_ready w k ≡ false) × (first_ready w ks ≡ None)
first_none w k ks none = by (is_ready w k) none
  where
    by : (b : Bool) → (if b then Some k.id else first_ready w ks) ≡ None → (b ≡ false) × (first_ready w ks ≡ None)
    by true e = absurd (let no : ◌≡◌ {A = Option ℕ} (Some k.id) None = e in cc)
    by false e = (refl, e)

none_ready : (w : Windows) (id : ℕ) (ks : List Kept) → first_ready w ks ≡ None → is_ready_if w (find id ks) ≡ false
none_ready w id [] none = refl
none_ready w id (k ∷ ks) none = let parts = first_none w k ks none in by (k.id == id) parts.0 (none_ready w id ks parts.1)
  where
    by : (b : Bool) → is_ready w k ≡ false → is_ready_if w (find id ks) ≡ false → is_ready_if w (if b then Some k else find id ks) ≡ false
    by true first rest = first
    by false first rest = rest

some_same : {x y : ℕ} → Some x ≡ Some y → x ≡ y
some_same same = cc

-- a walk goes on past one of which nothing can go
pub walks_on : (w : Windows) (ks : List Kept) (place : ℕ) (k : Kept) → place < length ks → k ≡ get_or ks place k → is_ready w k ≡ false → first_ready w (drop place ks) ≡ first_ready w ks → first_ready w (drop (place + 1) ks) ≡ first_ready w ks
walks_on w ks place k within is not_ready walked =
    ap (λ b. if b then Some k.id else first_ready w (drop (place + 1) ks)) (sym not_ready)
    ∙ ap (λ x. first_ready w (x ∷ drop (place + 1) ks)) is
    ∙ sym (at_drop_more (first_ready w) ks place k within)
    ∙ walked

-- ends at one of which something can
pub walk_ends : (w : Windows) (ks : List Kept) (place : ℕ) (k : Kept) → place < length ks → k ≡ get_or ks place k → is_ready w k ≡ true → first_ready w (drop place ks) ≡ first_ready w ks → Some k.id ≡ first_ready w ks
walk_ends w ks place k within is ready walked =
    ap (λ b. if b then Some k.id else first_ready w (drop (place + 1) ks)) (sym ready)
    ∙ ap (λ x. first_ready w (x ∷ drop (place + 1) ks)) is
    ∙ sym (at_drop_more (first_ready w) ks place k within)
    ∙ walked

-- or finds none
pub walk_ends_empty : (w : Windows) (ks : List Kept) (place : ℕ) → length ks ≤ place → first_ready w (drop place ks) ≡ first_ready w ks → None ≡ first_ready w ks
walk_ends_empty w ks place past walked = sym (at_drop_all (first_ready w) ks place past) ∙ walked

-- it is ready
is_found : (w : Windows) (id : ℕ) (ks : List Kept) → AreRising ks → first_ready w ks ≡ Some id → (k : Kept) × (find id ks ≡ Some k) × (is_ready w k ≡ true)
is_found w id [] rising first = absurd (let no : ◌≡◌ {A = Option ℕ} None (Some id) = first in cc)
is_found w id (k ∷ ks) rising first = by (is_ready w k) refl first (is_found w id ks rising.1)
  where
    by : (b : Bool) → is_ready w k ≡ b → (if b then Some k.id else first_ready w ks) ≡ Some id → (first_ready w ks ≡ Some id → (x : Kept) × (find id ks ≡ Some x) × (is_ready w x ≡ true)) → (x : Kept) × (find id (k ∷ ks) ≡ Some x) × (is_ready w x ≡ true)
    by true is e rest = (k, ap (λ b. if b then Some k else find id ks) (eq-eqb k.id id (some_same e)), is)
    by false is e rest =
        let it = rest e in
        let less : k.id < id = below_found k.id id ks it.0 rising.0 it.1 in
        (it.0, ap (λ b. if b then Some k else find id ks) (ne_eqb k.id id (λ same. omega (arith, same, less))) ∙ it.1, it.2)

-- what can go is of a stream that is kept
ready_found : (w : Windows) (found : Option Kept) → is_ready_if w found ≡ true → (k : Kept) × (found ≡ Some k)
ready_found w None is = absurd (let no : false ≡ true = is in cc)
ready_found w (Some k) is = (k, refl)

-- no stream of which something can go has a lower id
is_least : (w : Windows) (id other : ℕ) (ks : List Kept) → AreRising ks → first_ready w ks ≡ Some id → is_ready_if w (find other ks) ≡ true → id ≤ other
is_least w id other [] rising first ready = absurd (let no : ◌≡◌ {A = Option ℕ} None (Some id) = first in cc)
is_least w id other (k ∷ ks) rising first ready = by (is_ready w k) refl first (is_least w id other ks rising.1)
  where
    by : (b : Bool) → is_ready w k ≡ b → (if b then Some k.id else first_ready w ks) ≡ Some id → (first_ready w ks ≡ Some id → is_ready_if w (find other ks) ≡ true → id ≤ other) → id ≤ other
    by true is e rest = elim (eqb_tells k.id other) [
      | inl same ↦ omega (arith, same.1, some_same e)
      | inr apart ↦
          let in_rest : is_ready_if w (find other ks) ≡ true = sym (ap (λ b. is_ready_if w (if b then Some k else find other ks)) apart.0) ∙ ready in
          let it = ready_found w (find other ks) in_rest in
          omega (arith, below_found k.id other ks it.0 rising.0 it.1, some_same e)
    ]
    by false is e rest = elim (eqb_tells k.id other) [
      | inl same ↦ absurd (let no : false ≡ true = sym is ∙ sym (ap (λ b. is_ready_if w (if b then Some k else find other ks)) same.0) ∙ ready in cc)
      | inr apart ↦ rest e (sym (ap (λ b. is_ready_if w (if b then Some k else find other ks)) apart.0) ∙ ready)
    ]

-- nothing is left where nothing passes
filter_none : (test : ℕ → Bool) (xs : List ℕ) → ((x : ℕ) → test x ≡ false) → filter test xs ≡ []
filter_none test [] none = refl
filter_none test (x ∷ xs) none = ap (λ b. if b then x ∷ filter test xs else filter test xs) (none x) ∙ filter_none test xs none

-- ---- the next turn, where the streams are those up to the last and those above it

module _ (w : Windows) (last : ℕ) (xs ys : List Kept) (rising : AreRising (xs ++ ys)) (upto : AllByRecursion (λ (k : Kept). k.id ≤ last) xs) (above : AllByRecursion (λ (k : Kept). last < k.id) ys) where
  -- the state
  abbrev s : State
  s = record { kept = xs ++ ys; last = last }

  -- the ids of which something can go
  abbrev ids : List ℕ
  ids = map (λ (k : Kept). k.id) (xs ++ ys)

  -- a stream that is found, and of which something can go, is among those
  among : (id : ℕ) (k : Kept) → find id (xs ++ ys) ≡ Some k → is_ready w k ≡ true → StandsAt (ready w s) id
  among id k found is = filter_in (can_turn w s) ids id (found_among id (xs ++ ys) k found) (ap (is_ready_if w) found ∙ is)

  -- something can go of each
  can_go_of : (place : ℕ) → place < length (ready w s) → is_ready_if w (find (slice_index (ready w s) place) (xs ++ ys)) ≡ true
  can_go_of place within = filter_out (can_turn w s) ids (slice_index (ready w s) place) (place, within, refl)

  -- the first above the last
  pub turn_above : (id : ℕ) → first_ready w ys ≡ Some id → IsNextTurn last (ready w s) (Some id)
  turn_above id first =
      let it = is_found w id ys (rising_from xs ys rising) first in
      let high : last < id = found_has (λ n. last < n) id ys it.0 above it.1 in
      inl (record {
        is_ready = among id it.0 (found_above last id xs ys upto high ∙ it.1) it.2;
        above = high;
        least = λ place within higher.
            let other = slice_index (ready w s) place in
            is_least w id other ys (rising_from xs ys rising) first (sym (ap (is_ready_if w) (found_above last other xs ys upto higher)) ∙ can_go_of place within);
      })

  -- none of which something can go is above it
  none_higher : first_ready w ys ≡ None → (place : ℕ) → place < length (ready w s) → slice_index (ready w s) place ≤ last
  none_higher none place within =
      let other = slice_index (ready w s) place in
      elim (cases_lt last other) [
        | inl higher ↦ absurd (let no : true ≡ false = sym (can_go_of place within) ∙ ap (is_ready_if w) (found_above last other xs ys upto higher) ∙ none_ready w other ys none in cc)
        | inr low ↦ low
      ]

  -- else the first of all, if there is one
  pub turn_again : first_ready w ys ≡ None → (next : Option ℕ) → next ≡ first_ready w xs → IsNextTurn last (ready w s) next
  turn_again none None first = filter_none (can_turn w s) ids (λ id. elim (cases_lt last id) [
    | inl higher ↦ ap (is_ready_if w) (found_above last id xs ys upto higher) ∙ none_ready w id ys none
    | inr low ↦ ap (is_ready_if w) (found_upto last id xs ys above low) ∙ none_ready w id xs (sym first)
  ])
  turn_again none (Some id) first =
      let it = is_found w id xs (rising_upto xs ys rising) (sym first) in
      let low : id ≤ last = found_has (λ n. n ≤ last) id xs it.0 upto it.1 in
      inr (record {
        is_ready = among id it.0 (found_upto last id xs ys above low ∙ it.1) it.2;
        none_above = none_higher none;
        least = λ place within.
            let other = slice_index (ready w s) place in
            is_least w id other xs (rising_upto xs ys rising) (sym first) (sym (ap (is_ready_if w) (found_upto last other xs ys above (none_higher none place within))) ∙ can_go_of place within);
      })

-- a list where it is parted
module _ (w : Windows) (last place : ℕ) (ks : List Kept) (rising : AreRising ks) (is : IsSplit ks last place) where
  whole : take place ks ++ drop place ks ≡ ks
  whole = take-append-drop place ks

  pub next_above : (id : ℕ) → Some id ≡ first_ready w (drop place ks) → IsNextTurn last (ready w (record { kept = ks; last = last })) (Some id)
  next_above id first =
      subst (λ (xs : List Kept). IsNextTurn last (ready w (record { kept = xs; last = last })) (Some id)) whole
      (turn_above w last (take place ks) (drop place ks) (subst AreRising (sym whole) rising) is.upto is.above id (sym first))

  pub next_again : None ≡ first_ready w (drop place ks) → (next : Option ℕ) → next ≡ first_ready w (take place ks) → IsNextTurn last (ready w (record { kept = ks; last = last })) next
  next_again none next first =
      subst (λ (xs : List Kept). IsNextTurn last (ready w (record { kept = xs; last = last })) next) whole
      (turn_again w last (take place ks) (drop place ks) (subst AreRising (sym whole) rising) is.upto is.above (sym none) next first)

-- a stream that has the next turn is one of which something can go
pub turn_goes : (w : Windows) (s : State) (id : ℕ) → IsNextTurn s.last (ready w s) (Some id) → can_turn w s id ≡ true
turn_goes w s id (inl turn) = filter_out (can_turn w s) (map (λ (k : Kept). k.id) s.kept) id turn.is_ready
turn_goes w s id (inr turn) = filter_out (can_turn w s) (map (λ (k : Kept). k.id) s.kept) id turn.is_ready
