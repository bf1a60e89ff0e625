-- What is kept, and what goes back, as the side of a connection takes octets.
use Rattle.std.proofs.Common.{◌≡◌, ◌≢◌, ℕ, ◌+◌, ◌≤◌, ◌==◌, ◌&&◌, ◌||◌, not, if◌then◌else◌, Bool, true, false, List, [], ◌∷◌, length, refl, sym, ap, ◌∙◌, subst, inl, inr, arith}
use Rattle.std.specs.Prelude.{Option, Some, None, option_map, nat_lt, sum_by, IfSome}
use Rattle.std.proofs.lemmas.Bool.{eq-eqb, ne_eqb, lt-ltb}
use Rattle.std.proofs.lemmas.Bool.Decides.{eqb_tells}
use Rattle.std.proofs.lemmas.List.Sums.{sum_by-cons}
use Rattle.theory_receive_windows.specs.Marks.{Mark, pop, released}
use Rattle.theory_receive_windows.specs.State.{State, reached, add, is_live, with_taken}
use Rattle.theory_receive_windows.proofs.Queues.{none_popped}
use Rattle.theory_receive_windows.proofs.Sums.{AreApart as StandApart, same_sum, two_sums, only_among}
use Rattle.window_credit.specs.Sides.{Side, find, taking, queue_if, queue_of, MayTake, waits_on, taking_on, released_on, taking_behind, released_behind, taken_of_all}
use Rattle.window_credit.specs.Standing.{IsRow, StandFor, IsOf, AreApart, NoneReached}
use Rattle.window_credit.proofs.Looking.{changed_own, changed_other, mapped_found}
use Rattle.window_credit.proofs.Rising.{change_none}
use Rattle.window_credit.proofs.Once.{changed_ids, mapped_ids, over_sides}
use Rattle.window_credit.proofs.Telling.{past_is, newest_is}

some_same : {x y : Side} → Some x ≡ Some y → x ≡ y
some_same same = cc

none_here : (f : Side → Side) (o : Option Side) → option_map f o ≡ None → o ≡ None
none_here f None is = refl
none_here f (Some x) is = absurd (let no : ◌≡◌ {A = Option Side} (Some (f x)) None = is in cc)

-- ids stay
pub keeps_id : (k taken : ℕ) (side : Side) → (taking_on k taken side).id ≡ side.id
keeps_id k taken side = by (waits_on k side)
  where
    by : (b : Bool) → (if b then taking taken side else side).id ≡ side.id
    by true = refl
    by false = refl

-- a connection's newest stream doesn't wait as the others do
pub newest_stays : (j taken : ℕ) (side : Side) → side.past ≡ false → taking_on j taken side ≡ side
newest_stays j taken side newest = ap (λ b. if side.k == j && (b && nat_lt 0 (length side.queue)) then taking taken side else side) newest ∙ by (side.k == j)
  where
    by : (b : Bool) → (if b && false then taking taken side else side) ≡ side
    by true = refl
    by false = refl

newest_frees : (j taken : ℕ) (side : Side) → side.past ≡ false → released_on j taken side ≡ 0
newest_frees j taken side newest = ap (λ b. if side.k == j && (b && nat_lt 0 (length side.queue)) then released taken side.queue else 0) newest ∙ by (side.k == j)
  where
    by : (b : Bool) → (if b && false then released taken side.queue else 0) ≡ 0
    by true = refl
    by false = refl

-- nor does one of another connection
others_stay_so : (j taken : ℕ) (side : Side) → (side.k == j) ≡ false → taking_on j taken side ≡ side
others_stay_so j taken side off = ap (λ b. if b && (side.past && nat_lt 0 (length side.queue)) then taking taken side else side) off

others_free : (j taken : ℕ) (side : Side) → (side.k == j) ≡ false → released_on j taken side ≡ 0
others_free j taken side off = ap (λ b. if b && (side.past && nat_lt 0 (length side.queue)) then released taken side.queue else 0) off

-- what is found of a connection's newest stream
pub own_found : (k taken id : ℕ) (sides : List Side) (side : Side) → find id sides ≡ Some side → side.past ≡ false → find id (taking_behind k taken sides) ≡ Some side
own_found k taken id sides side found newest = mapped_found (taking_on k taken) (keeps_id k taken) id sides ∙ ap (option_map (taking_on k taken)) found ∙ ap Some (newest_stays k taken side newest)

-- and so is what is found of a stream that may take so many
pub may_stay : (k taken id : ℕ) (sides : List Side) → IfSome (find id sides) (MayTake taken) → find id (taking_behind k taken sides) ≡ find id sides
may_stay k taken id sides may = by (find id sides) refl may
  where
    by : (o : Option Side) → find id sides ≡ o → IfSome o (MayTake taken) → find id (taking_behind k taken sides) ≡ o
    by None none may = mapped_found (taking_on k taken) (keeps_id k taken) id sides ∙ ap (option_map (taking_on k taken)) none
    by (Some side) found may = own_found k taken id sides side found may.newest

nothing : (xs : List ℕ) → sum_by (λ (n : ℕ). 0) xs ≡ 0
nothing [] = refl
nothing (x ∷ xs) = let a = sum_by-cons (λ (n : ℕ). 0) x xs in let more = nothing xs in omega (arith, a, more)

apart_too : (ids : List ℕ) → AreApart ids → StandApart ids
apart_too [] is = tt
apart_too (x ∷ ids) is = (is.0, apart_too ids is.1)

empty : (ms : List Mark) → nat_lt 0 (length ms) ≡ false → ms ≡ []
empty [] none = refl
empty (m ∷ ms) none = absurd (let no : true ≡ false = sym (lt-ltb 0 (length (m ∷ ms)) (omega arith)) ∙ none in cc)

module _ (newest : ℕ → ℕ) (sides : List Side) (s : State) (h : StandFor newest sides s) (ahead : NoneReached s) (k count : ℕ) where
  abbrev now : ℕ
  now = s.took k + count

  abbrev taken : ℕ → ℕ
  taken x = add k count s.took (s.row x).k

  taken_there : (j : ℕ) → (j == k) ≡ false → add k count s.took j ≡ s.took j
  taken_there j off = ap (λ b. if b then s.took j + count else s.took j) off

  taken_here : (j : ℕ) → j ≡ k → add k count s.took j ≡ now
  taken_here j same = ap (λ b. if b then s.took j + count else s.took j) (eq-eqb j k same) ∙ ap (λ n. s.took n + count) same

  -- ---- a row

  module _ (x : ℕ) (it : Side) (is : find x sides ≡ Some it) where
    r : IsRow newest s.out s.took x (s.row x) it
    r = h.rows x it is

    same_k : (s.row x).k ≡ it.k
    same_k = r.k

    -- of the connection
    of_it : it.k ≡ k → taken x ≡ now
    of_it same = taken_here (s.row x).k (same_k ∙ same)

    pub freed : it.k ≡ k → released (taken x) (s.row x).queue ≡ released now it.queue
    freed same = ap (λ n. released n (s.row x).queue) (of_it same) ∙ ap (released now) r.queue

    taken_row : it.k ≡ k → IsRow newest s.out (add k count s.took) x (reached (taken x) (s.row x)) (taking now it)
    taken_row same = record {
      k = r.k;
      queue = ap (λ n. pop n (s.row x).queue) (of_it same) ∙ ap (pop now) r.queue;
      past = r.past;
      put_out = r.put_out;
      taken = λ asked. taken_here it.k same;
    }

    -- of another
    beside_taken : (it.k == k) ≡ false → taken x ≡ s.took (s.row x).k
    beside_taken off = taken_there (s.row x).k (ap (λ n. n == k) same_k ∙ off)

    pub not_freed : (it.k == k) ≡ false → released (taken x) (s.row x).queue ≡ 0
    not_freed off = ap (λ n. released n (s.row x).queue) (beside_taken off) ∙ (none_popped (s.took (s.row x).k) (s.row x).queue (ahead.above x (h.live x it is))).1

    beside_row : (it.k == k) ≡ false → IsRow newest s.out (add k count s.took) x (reached (taken x) (s.row x)) it
    beside_row off = record {
      k = r.k;
      queue = ap (λ n. pop n (s.row x).queue) (beside_taken off) ∙ (none_popped (s.took (s.row x).k) (s.row x).queue (ahead.above x (h.live x it is))).0 ∙ r.queue;
      past = r.past;
      put_out = r.put_out;
      taken = λ asked. taken_there it.k off ∙ r.taken asked;
    }

    -- of a stream that had the connection before
    module _ (same : it.k ≡ k) (past : it.past ≡ true) where
      waits_is : waits_on k it ≡ nat_lt 0 (length it.queue)
      waits_is = ap (λ b. b && (it.past && nat_lt 0 (length it.queue))) (eq-eqb it.k k same) ∙ ap (λ b. b && nat_lt 0 (length it.queue)) past

      older_row : IsRow newest s.out (add k count s.took) x (reached (taken x) (s.row x)) (taking_on k now it)
      older_row = by (nat_lt 0 (length it.queue)) refl
        where
          by : (b : Bool) → nat_lt 0 (length it.queue) ≡ b → IsRow newest s.out (add k count s.took) x (reached (taken x) (s.row x)) (taking_on k now it)
          by true some = subst (λ (y : Side). IsRow newest s.out (add k count s.took) x (reached (taken x) (s.row x)) y) (sym (ap (λ b. if b then taking now it else it) (waits_is ∙ some))) (taken_row same)
          by false none = subst (λ (y : Side). IsRow newest s.out (add k count s.took) x (reached (taken x) (s.row x)) y) (sym (ap (λ b. if b then taking now it else it) (waits_is ∙ none))) (record {
            k = r.k;
            queue = ap (pop (taken x)) (r.queue ∙ empty it.queue none) ∙ sym (empty it.queue none);
            past = r.past;
            put_out = r.put_out;
            taken = λ asked. absurd (let no : false ≡ true = sym (ap (λ b. not b || nat_lt 0 (length it.queue)) past ∙ none) ∙ asked in cc);
          })

      pub older_freed : released (taken x) (s.row x).queue ≡ released_on k now it
      older_freed = freed same ∙ by (nat_lt 0 (length it.queue)) refl
        where
          by : (b : Bool) → nat_lt 0 (length it.queue) ≡ b → released now it.queue ≡ released_on k now it
          by true some = sym (ap (λ b. if b then released now it.queue else 0) (waits_is ∙ some))
          by false none = ap (released now) (empty it.queue none) ∙ sym (ap (λ b. if b then released now it.queue else 0) (waits_is ∙ none))

  -- ---- the newest stream of the connection is this one, of which something is kept or nothing

  module _ (id : ℕ) (last : newest k ≡ id) (its : IsOf id k sides) where
    abbrev mid : List Side
    mid = taking_behind k now sides

    abbrev end : List Side
    end = taken_of_all id k now sides

    own_newest : (side : Side) → find id sides ≡ Some side → side.past ≡ false
    own_newest side found = newest_is newest sides s h id side found (ap newest (its side found) ∙ last)

    older_past : (x : ℕ) (it : Side) → x ≢ id → find x sides ≡ Some it → it.k ≡ k → it.past ≡ true
    older_past x it other is same = past_is newest sides s h x it is (λ e. other (sym e ∙ ap newest same ∙ last))

    mid_found : (x : ℕ) → find x mid ≡ option_map (taking_on k now) (find x sides)
    mid_found x = mapped_found (taking_on k now) (keeps_id k now) x sides

    mid_own : (side : Side) → find id sides ≡ Some side → find id mid ≡ Some side
    mid_own side found = own_found k now id sides side found (own_newest side found)

    end_own : (side : Side) → find id sides ≡ Some side → find id end ≡ Some (taking now side)
    end_own side found = changed_own id (taking now) (λ y. refl) mid side (mid_own side found)

    end_other : (x : ℕ) → x ≢ id → find x end ≡ option_map (taking_on k now) (find x sides)
    end_other x other = changed_other id (taking now) (λ y. refl) x mid other ∙ mid_found x

    end_none : find id sides ≡ None → find id end ≡ None
    end_none none = ap (find id) (change_none id (taking now) mid absent) ∙ absent
      where
        absent : find id mid ≡ None
        absent = mid_found id ∙ ap (option_map (taking_on k now)) none

    rows_end : (x : ℕ) (y : Side) → find x end ≡ Some y → (is_live s x ≡ true) × IsRow newest s.out (add k count s.took) x (reached (taken x) (s.row x)) y
    rows_end x y there = by (find x sides) refl
      where
        by : (o : Option Side) → find x sides ≡ o → (is_live s x ≡ true) × IsRow newest s.out (add k count s.took) x (reached (taken x) (s.row x)) y
        by None none = absurd (elim (eqb_tells x id) [
          | inl own ↦ (let no : ◌≡◌ {A = Option Side} None (Some y) = sym (end_none (ap (λ n. find n sides) (sym own.1) ∙ none)) ∙ ap (λ n. find n end) (sym own.1) ∙ there in cc)
          | inr off ↦ (let no : ◌≡◌ {A = Option Side} None (Some y) = sym (end_other x off.1 ∙ ap (option_map (taking_on k now)) none) ∙ there in cc)
        ])
        by (Some it) is = (
          h.live x it is,
          elim (eqb_tells x id) [
            | inl own ↦ (
                let found : find id sides ≡ Some it = ap (λ n. find n sides) (sym own.1) ∙ is in
                let same : taking now it ≡ y = some_same (sym (end_own it found) ∙ ap (λ n. find n end) (sym own.1) ∙ there) in
                subst (λ (z : Side). IsRow newest s.out (add k count s.took) x (reached (taken x) (s.row x)) z) same (taken_row x it is (its it found))
                )
            | inr off ↦ (
                let same : taking_on k now it ≡ y = some_same (sym (end_other x off.1 ∙ ap (option_map (taking_on k now)) is) ∙ there) in
                subst (λ (z : Side). IsRow newest s.out (add k count s.took) x (reached (taken x) (s.row x)) z) same (elim (eqb_tells it.k k) [
                  | inl here ↦ older_row x it is here.1 (older_past x it off.1 is here.1)
                  | inr beside ↦ subst (λ (z : Side). IsRow newest s.out (add k count s.took) x (reached (taken x) (s.row x)) z) (sym (others_stay_so k now it beside.0)) (beside_row x it is beside.0)
                ])
                )
          ],
        )

    rest_end : (x : ℕ) → find x end ≡ None → find x sides ≡ None
    rest_end x none = elim (eqb_tells x id) [
      | inl own ↦ by (find x sides) refl own.1
      | inr off ↦ none_here (taking_on k now) (find x sides) (sym (end_other x off.1) ∙ none)
    ]
      where
        by : (o : Option Side) → find x sides ≡ o → x ≡ id → find x sides ≡ None
        by None is e = is
        by (Some it) is e = absurd (let no : ◌≡◌ {A = Option Side} (Some (taking now it)) None = sym (end_own it (ap (λ n. find n sides) (sym e) ∙ is)) ∙ ap (λ n. find n end) (sym e) ∙ none in cc)

    pub takes : StandFor newest end (with_taken s k count)
    takes = record {
      live = λ x y there. (rows_end x y there).0;
      rows = λ x y there. (rows_end x y there).1;
      rest = λ x on none. ap (pop (taken x)) (h.rest x on (rest_end x none));
      apart = subst AreApart (sym (changed_ids id (taking now) (λ y. refl) mid ∙ mapped_ids (taking_on k now) (keeps_id k now) sides)) h.apart;
    }

    -- ---- what goes back

    abbrev own_part : ℕ → ℕ
    own_part x = if x == id then released now (queue_of id sides) else 0

    abbrev older_if : Option Side → ℕ
    older_if None = 0
    older_if (Some it) = released_on k now it

    part_here : (x : ℕ) (it : Side) → find x sides ≡ Some it → x ≡ id → own_part x ≡ released now it.queue
    part_here x it is e =
        ap (λ b. if b then released now (queue_of id sides) else 0) (eq-eqb x id e)
        ∙ ap (λ (o : Option Side). released now (queue_if o)) (ap (λ n. find n sides) (sym e) ∙ is)

    freed_in_parts : (x : ℕ) → is_live s x ≡ true → released (taken x) (s.row x).queue ≡ own_part x + older_if (find x sides)
    freed_in_parts x on = by (find x sides) refl
      where
        by : (o : Option Side) → find x sides ≡ o → released (taken x) (s.row x).queue ≡ own_part x + older_if o
        by None none =
            let zero : released (taken x) (s.row x).queue ≡ 0 = ap (released (taken x)) (h.rest x on none) in
            let own : own_part x ≡ 0 = elim (eqb_tells x id) [
              | inl same ↦ ap (λ b. if b then released now (queue_of id sides) else 0) same.0 ∙ ap (λ (o : Option Side). released now (queue_if o)) (ap (λ n. find n sides) (sym same.1) ∙ none)
              | inr off ↦ ap (λ b. if b then released now (queue_of id sides) else 0) off.0
            ] in
            omega (arith, zero, own)
        by (Some it) is = elim (eqb_tells x id) [
          | inl same ↦ (
              let found : find id sides ≡ Some it = ap (λ n. find n sides) (sym same.1) ∙ is in
              let all = freed x it is (its it found) in
              let own = part_here x it is same.1 in
              let older = newest_frees k now it (own_newest it found) in
              omega (arith, all, own, older)
              )
          | inr off ↦ (
              let own : own_part x ≡ 0 = ap (λ b. if b then released now (queue_of id sides) else 0) off.0 in
              let older : released (taken x) (s.row x).queue ≡ released_on k now it = elim (eqb_tells it.k k) [
                | inl here ↦ older_freed x it is here.1 (older_past x it off.1 is here.1)
                | inr beside ↦ not_freed x it is beside.0 ∙ sym (others_free k now it beside.0)
              ] in
              omega (arith, own, older)
              )
        ]

    own_sum : sum_by own_part s.live ≡ released now (queue_of id sides)
    own_sum = by (find id sides) refl
      where
        by : (o : Option Side) → find id sides ≡ o → sum_by own_part s.live ≡ released now (queue_if o)
        by None none = same_sum own_part (λ x. 0) s.live (λ x among. elim (eqb_tells x id) [
          | inl same ↦ ap (λ b. if b then released now (queue_of id sides) else 0) same.0 ∙ ap (λ (o : Option Side). released now (queue_if o)) none
          | inr off ↦ ap (λ b. if b then released now (queue_of id sides) else 0) off.0
        ]) ∙ nothing s.live
        by (Some it) found =
            only_among own_part id s.live (apart_too s.live ahead.apart) (h.live id it found) (λ x among off. ap (λ b. if b then released now (queue_of id sides) else 0) off)
            ∙ ap (λ b. if b then released now (queue_of id sides) else 0) (eq-eqb id id refl)
            ∙ ap (λ (o : Option Side). released now (queue_if o)) found

    pub goes_back : (with_taken s k count).debt ≡ s.debt + released now (queue_of id sides) + released_behind k now sides
    goes_back =
        let both = same_sum (λ x. released (taken x) (s.row x).queue) (λ x. own_part x + older_if (find x sides)) s.live freed_in_parts in
        let apart = two_sums (λ x. own_part x + older_if (find x sides)) own_part (λ x. older_if (find x sides)) s.live (λ x. refl) in
        let own = own_sum in
        let older : sum_by (λ x. older_if (find x sides)) s.live ≡ released_behind k now sides = over_sides older_if refl sides s.live (apart_too s.live ahead.apart) h.apart h.live in
        omega (arith, both, apart, own, older)

    pub own_back : (side : Side) → find id sides ≡ Some side → ((with_taken s k count).row id).debt ≡ (s.row id).debt + released now (queue_of id sides)
    own_back side found = ap (λ n. (s.row id).debt + n) (freed id side found (its side found) ∙ sym (ap (λ (o : Option Side). released now (queue_if o)) found))

    -- its side may take as many as were put out
    pub may_take : now ≤ s.out k → IfSome (find id sides) (MayTake now)
    may_take within = by (find id sides) refl
      where
        by : (o : Option Side) → find id sides ≡ o → IfSome o (MayTake now)
        by None none = tt
        by (Some side) found =
            let r = h.rows id side found in
            let last_one = own_newest side found in
            record { newest = last_one; within = subst (λ n. now ≤ n) (ap s.out (sym (its side found)) ∙ r.put_out last_one) within }

  -- ---- nothing is kept of a stream that has or had the connection

  module _ (elsewhere : (id : ℕ) (side : Side) → find id sides ≡ Some side → side.k ≢ k) where
    pub takes_beside : StandFor newest sides (with_taken s k count)
    takes_beside = record {
      live = h.live;
      rows = λ x it is. beside_row x it is (ne_eqb it.k k (elsewhere x it is));
      rest = λ x on not_there. ap (pop (taken x)) (h.rest x on not_there);
      apart = h.apart;
    }

    none_back : (x : ℕ) → is_live s x ≡ true → released (taken x) (s.row x).queue ≡ 0
    none_back x on = by (find x sides) refl
      where
        by : (o : Option Side) → find x sides ≡ o → released (taken x) (s.row x).queue ≡ 0
        by None e = ap (released (taken x)) (h.rest x on e)
        by (Some it) e = not_freed x it e (ne_eqb it.k k (elsewhere x it e))

    pub none_go_back : (with_taken s k count).debt ≡ s.debt
    none_go_back =
        let zero : sum_by (λ x. released (taken x) (s.row x).queue) s.live ≡ 0 = same_sum (λ x. released (taken x) (s.row x).queue) (λ x. 0) s.live none_back ∙ nothing s.live in
        omega (arith, zero)

-- what isn't reached of another stream stays
pub others_stay : (s : State) (k count id : ℕ) → NoneReached s → is_live s id ≡ true → (s.row id).k ≢ k → ((with_taken s k count).row id).debt ≡ (s.row id).debt
others_stay s k count id none on apart =
    let zero : released (add k count s.took (s.row id).k) (s.row id).queue ≡ 0 =
    ap (λ b. released (if b then s.took (s.row id).k + count else s.took (s.row id).k) (s.row id).queue) (ne_eqb (s.row id).k k apart)
    ∙ (none_popped (s.took (s.row id).k) (s.row id).queue (none.above id on)).1 in
    omega (arith, zero)
