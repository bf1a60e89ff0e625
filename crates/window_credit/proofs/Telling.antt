-- What is kept behind each change of the rule's state, but where octets are taken (`Taking`).
use Rattle.std.proofs.Common.{◌≡◌, ◌≢◌, ℕ, ◌+◌, ◌==◌, ◌||◌, ◌&&◌, not, if◌then◌else◌, Bool, true, false, List, [], ◌∷◌, ◌++◌, length, refl, sym, ap, ◌∙◌, subst, inl, inr}
use Rattle.std.specs.Prelude.{Option, Some, None, nat_lt}
use Rattle.std.specs.List.{list_any}
use Rattle.std.proofs.lemmas.Bool.{eq-eqb, ne_eqb}
use Rattle.std.proofs.lemmas.Bool.Decides.{eqb_tells}
use Rattle.model.specs.Setup.{Passing}
use Rattle.model.specs.Setup.Passing.{Whole, Streaming}
use Rattle.model.specs.Tapes.{Noted, Entry}
use Rattle.theory_receive_windows.specs.Marks.{Mark, total, push, IsAbove}
use Rattle.theory_receive_windows.specs.State.{Row, State, Move, others, change as change_row, blank, paid, owing, waits, given, add, dropped, is_live, must_wait, with_frame, with_sent, with_given, tape_of, state_of}
use Rattle.theory_receive_windows.specs.Policy.{AreAllowed}
use Rattle.theory_receive_windows.proofs.Sums.{AreApart as StandApart}
use Rattle.theory_receive_windows.proofs.Keeping.{StandsIn}
use Rattle.theory_receive_windows.proofs.Incoming.{live_apart, live_among}
use Rattle.theory_receive_windows.proofs.Resting.{Receiving, receiving}
use Rattle.window_credit.specs.Sides.{Side, find, change, without, unless_over, opened, passing, putting, waiting, queue_if, queue_of, has_untaken, has_untaken_if, is_past}
use Rattle.window_credit.specs.Standing.{is_followed, IsRow, Keeps, StandFor, newest_with, IsOf, IsOfNone, dropped_of, AreApart, NoneReached}
use Rattle.window_credit.proofs.Looking.{changed_own, changed_other, changed_none, gone_own, gone_other, joined_own, joined_other, goes_own, goes_other}
use Rattle.window_credit.proofs.Rising.{change_none}
use Rattle.window_credit.proofs.Once.{changed_ids, apart_without, apart_joined}

some_same : {x y : Side} → Some x ≡ Some y → x ≡ y
some_same same = cc

-- of a connection's newest stream it is asked how many octets are taken
pub followed : (side : Side) → side.past ≡ false → is_followed side ≡ true
followed side newest = ap (λ b. not b || nat_lt 0 (length side.queue)) newest

-- where something isn't taken no other stream was given the connection
pub untaken_newest : (sides : List Side) (id : ℕ) → has_untaken id sides ≡ true → is_past id sides ≡ false
untaken_newest sides id some = by (find id sides) some
  where
    in_side : (past b : Bool) → (not past && b) ≡ true → past ≡ false
    in_side true b is = absurd (let no : false ≡ true = is in cc)
    in_side false b is = refl

    by : (o : Option Side) → has_untaken_if o ≡ true → Rattle.window_credit.specs.Sides.is_past_if o ≡ false
    by None is = refl
    by (Some side) is = in_side side.past (nat_lt side.took side.out) is

-- no other connection's count changes
pub out_elsewhere : (s : State) (k count j : ℕ) → j ≢ k → add k count s.out j ≡ s.out j
out_elsewhere s k count j off = ap (λ b. if b then s.out j + count else s.out j) (ne_eqb j k off)

module _ (newest : ℕ → ℕ) (sides : List Side) (s : State) (h : StandFor newest sides s) where
  -- ---- which stream was given a connection last

  pub past_is : (x : ℕ) (it : Side) → find x sides ≡ Some it → newest it.k ≢ x → it.past ≡ true
  past_is x it is apart = (h.rows x it is).past ∙ ap not (ne_eqb (newest it.k) x apart)

  pub newest_is : (x : ℕ) (it : Side) → find x sides ≡ Some it → newest it.k ≡ x → it.past ≡ false
  newest_is x it is same = (h.rows x it is).past ∙ ap not (eq-eqb (newest it.k) x same)

  -- ---- rows with the same octets that wait

  alike : (row : ℕ → Row) → ((x : ℕ) → (row x).k ≡ (s.row x).k) → ((x : ℕ) → (row x).queue ≡ (s.row x).queue) → Keeps sides (is_live s) row newest s.out s.took
  alike row same_k same_queue = record {
    live = h.live;
    rows = λ x side found. let r = h.rows x side found in record { k = same_k x ∙ r.k; queue = same_queue x ∙ r.queue; past = r.past; put_out = r.put_out; taken = r.taken };
    rest = λ x on none. same_queue x ∙ h.rest x on none;
    apart = h.apart;
  }

  -- one row owes more, or nothing
  pub owes : (id count : ℕ) → Keeps sides (is_live s) (change_row id (owing count) s.row) newest s.out s.took
  owes id count = alike (change_row id (owing count) s.row) (λ x. k_by (id == x) (s.row x)) (λ x. queue_by (id == x) (s.row x))
    where
      k_by : (b : Bool) (r : Row) → (if b then owing count r else r).k ≡ r.k
      k_by true r = refl
      k_by false r = refl

      queue_by : (b : Bool) (r : Row) → (if b then owing count r else r).queue ≡ r.queue
      queue_by true r = refl
      queue_by false r = refl

  pub pays : (id : ℕ) → Keeps sides (is_live s) (change_row id paid s.row) newest s.out s.took
  pays id = alike (change_row id paid s.row) (λ x. k_by (id == x) (s.row x)) (λ x. queue_by (id == x) (s.row x))
    where
      k_by : (b : Bool) (r : Row) → (if b then paid r else r).k ≡ r.k
      k_by true r = refl
      k_by false r = refl

      queue_by : (b : Bool) (r : Row) → (if b then paid r else r).queue ≡ r.queue
      queue_by true r = refl
      queue_by false r = refl

  pub gives : (shared : Bool) (noted : Noted) → StandFor newest sides (with_given shared s noted)
  gives true noted = h
  gives false noted = pays noted.frame.id

  -- ---- what waits of one stream

  pub queue_is : (id : ℕ) → is_live s id ≡ true → (s.row id).queue ≡ queue_of id sides
  queue_is id on = by (find id sides) refl
    where
      by : (found : Option Side) → find id sides ≡ found → (s.row id).queue ≡ queue_if found
      by None e = h.rest id on e
      by (Some side) e = (h.rows id side e).queue

  pub drops : (over : Bool) (id : ℕ) → (over ≡ true → is_live s id ≡ true) → s.debt + dropped over s id ≡ s.debt + dropped_of over id sides
  drops true id on = ap (λ (ms : List Mark). s.debt + total ms) (queue_is id (on refl))
  drops false id on = refl

  -- ---- streams begin and end

  over : (id : ℕ) → Keeps (without id sides) (λ x. list_any (λ other. other == x) (others id s.live)) s.row newest s.out s.took
  over id = record {
    live = λ x side found. elim (eqb_tells x id) [
      | inl own ↦ absurd (let no : ◌≡◌ {A = Option Side} None (Some side) = sym (gone_own id sides) ∙ ap (λ n. find n (without id sides)) (sym own.1) ∙ found in cc)
      | inr off ↦ goes_other id x s.live off.1 ∙ h.live x side (sym (gone_other id x sides off.1) ∙ found)
    ];
    rows = λ x side found. elim (eqb_tells x id) [
      | inl own ↦ absurd (let no : ◌≡◌ {A = Option Side} None (Some side) = sym (gone_own id sides) ∙ ap (λ n. find n (without id sides)) (sym own.1) ∙ found in cc)
      | inr off ↦ h.rows x side (sym (gone_other id x sides off.1) ∙ found)
    ];
    rest = λ x on none. elim (eqb_tells x id) [
      | inl own ↦ absurd (let no : false ≡ true = sym (goes_own id s.live) ∙ ap (λ n. list_any (λ other. other == n) (others id s.live)) (sym own.1) ∙ on in cc)
      | inr off ↦ h.rest x (sym (goes_other id x s.live off.1) ∙ on) (sym (gone_other id x sides off.1) ∙ none)
    ];
    apart = apart_without id sides h.apart;
  }

  begun : (id : ℕ) → is_live s id ≡ false → Keeps sides (λ x. list_any (λ other. other == x) (id ∷ s.live)) (change_row id (λ r. blank) s.row) newest s.out s.took
  begun id idle = record {
    live = λ x side found. more (id == x) (is_live s x) (h.live x side found);
    rows = λ x side found. elim (eqb_tells id x) [
      | inl own ↦ absurd (let no : false ≡ true = sym idle ∙ ap (is_live s) own.1 ∙ h.live x side found in cc)
      | inr off ↦ subst (λ (r : Row). IsRow newest s.out s.took x r side) (sym (ap (λ b. if b then blank else s.row x) off.0)) (h.rows x side found)
    ];
    rest = λ x on none. elim (eqb_tells id x) [
      | inl own ↦ ap (λ b. (if b then blank else s.row x).queue) own.0
      | inr off ↦ ap (λ b. (if b then blank else s.row x).queue) off.0 ∙ h.rest x (sym (ap (λ b. b || is_live s x) off.0) ∙ on) none
    ];
    apart = h.apart;
  }
    where
      more : (b c : Bool) → c ≡ true → (b || c) ≡ true
      more true c e = refl
      more false c e = e

  pub came : (noted : Noted) (opens is_over : Bool) → (opens ≡ true → (is_over ≡ false) × (is_live s noted.frame.id ≡ false)) → StandFor newest (unless_over is_over noted.frame.id sides) (with_frame s noted opens is_over)
  came noted false false new = h
  came noted false true new = over noted.frame.id
  came noted true false new = begun noted.frame.id (new refl).1
  came noted true true new = absurd (let no : true ≡ false = (new refl).0 in cc)

  pub sent : (noted : Noted) (is_over : Bool) → StandFor newest (unless_over is_over noted.frame.id sides) (with_sent s noted is_over)
  sent noted false = h
  sent noted true = over noted.frame.id

  -- ---- one stream that is kept changes

  module _ (id : ℕ) (side : Side) (found : find id sides ≡ Some side) where
    changes : (f : Side → Side) → ((x : Side) → (f x).id ≡ x.id) → (row : ℕ → Row) (out took : ℕ → ℕ)
        → IsRow newest out took id (row id) (f side)
        → ((x : ℕ) (it : Side) → x ≢ id → find x sides ≡ Some it → IsRow newest s.out s.took x (s.row x) it → IsRow newest out took x (row x) it)
        → ((x : ℕ) → x ≢ id → (s.row x).queue ≡ [] → (row x).queue ≡ [])
        → Keeps (change id f sides) (is_live s) row newest out took
    changes f keeps_id row out took own_row other_rows other_rest = record {
      live = λ x it is. elim (eqb_tells x id) [
        | inl own ↦ ap (is_live s) own.1 ∙ h.live id side found
        | inr off ↦ h.live x it (sym (changed_other id f keeps_id x sides off.1) ∙ is)
      ];
      rows = λ x it is. elim (eqb_tells x id) [
        | inl own ↦ (
            let same : f side ≡ it = some_same (sym (changed_own id f keeps_id sides side found) ∙ ap (λ n. find n (change id f sides)) (sym own.1) ∙ is) in
            subst (λ n. IsRow newest out took n (row n) it) (sym own.1) (subst (λ (y : Side). IsRow newest out took id (row id) y) same own_row)
            )
        | inr off ↦ (
            let was : find x sides ≡ Some it = sym (changed_other id f keeps_id x sides off.1) ∙ is in
            other_rows x it off.1 was (h.rows x it was)
            )
      ];
      rest = λ x on none. elim (eqb_tells x id) [
        | inl own ↦ absurd (let no : ◌≡◌ {A = Option Side} (Some (f side)) None = sym (changed_own id f keeps_id sides side found) ∙ ap (λ n. find n (change id f sides)) (sym own.1) ∙ none in cc)
        | inr off ↦ other_rest x off.1 (h.rest x on (sym (changed_other id f keeps_id x sides off.1) ∙ none))
      ];
      apart = subst AreApart (sym (changed_ids id f keeps_id sides)) h.apart;
    }

    its_row : IsRow newest s.out s.took id (s.row id) side
    its_row = h.rows id side found

    -- more was put out for its connection
    pub puts_own : newest side.k ≡ id → (k count : ℕ) → side.k ≡ k → Keeps (change id (putting count) sides) (is_live s) s.row newest (add k count s.out) s.took
    puts_own last k count its = changes (putting count) (λ x. refl) s.row (add k count s.out) s.took (record {
      k = its_row.k;
      queue = its_row.queue;
      past = its_row.past;
      put_out = λ now. ap (λ b. if b then s.out side.k + count else s.out side.k) (eq-eqb side.k k its) ∙ ap (λ n. n + count) (its_row.put_out now);
      taken = its_row.taken;
    }) (λ x it apart was r. record {
      k = r.k;
      queue = r.queue;
      past = r.past;
      put_out = λ now. elim (eqb_tells it.k k) [
        | inl same ↦ absurd (
            let other : newest it.k ≢ x = λ e. apart (sym e ∙ ap newest (same.1 ∙ sym its) ∙ last) in
            let no : true ≡ false = sym (past_is x it was other) ∙ now in cc
            )
        | inr off ↦ ap (λ b. if b then s.out it.k + count else s.out it.k) off.0 ∙ r.put_out now
      ];
      taken = r.taken;
    }) (λ x apart none. none)

    module _ (its_newest : side.past ≡ false) where
      -- its octets wait
      pub waits_own : (count : ℕ) → Keeps (change id (waiting count) sides) (is_live s) (change_row id (waits (s.out (s.row id).k) count) s.row) newest s.out s.took
      waits_own count =
          let g : Row → Row = waits (s.out (s.row id).k) count in
          changes (waiting count) (λ x. refl) (change_row id g s.row) s.out s.took (subst (λ (r : Row). IsRow newest s.out s.took id r (waiting count side)) (sym (ap (λ b. if b then g (s.row id) else s.row id) (eq-eqb id id refl))) (record {
            k = its_row.k;
            queue = ap (λ ms. push ms (s.out (s.row id).k) count) its_row.queue ∙ ap (λ n. push side.queue n count) (ap s.out its_row.k ∙ its_row.put_out its_newest);
            past = its_row.past;
            put_out = its_row.put_out;
            taken = λ asked. its_row.taken (followed side its_newest);
          })) (λ x it apart was r. subst (λ (y : Row). IsRow newest s.out s.took x y it) (sym (ap (λ b. if b then g (s.row x) else s.row x) (ne_eqb id x (λ same. apart (sym same))))) r)
          (λ x apart none. ap (λ b. (if b then g (s.row x) else s.row x).queue) (ne_eqb id x (λ same. apart (sym same))) ∙ none)

      pub must_wait_is : id ≡ s.stream → must_wait Streaming s ≡ has_untaken id sides
      must_wait_is is =
          ap (λ n. is_live s n && nat_lt (s.took (s.row n).k) (s.out (s.row n).k)) (sym is)
          ∙ ap (λ b. b && nat_lt (s.took (s.row id).k) (s.out (s.row id).k)) (h.live id side found)
          ∙ ap (λ n. nat_lt (s.took n) (s.out n)) its_row.k
          ∙ ap (λ n. nat_lt n (s.out side.k)) (its_row.taken (followed side its_newest))
          ∙ ap (λ n. nat_lt side.took n) (its_row.put_out its_newest)
          ∙ sym (ap (λ b. not b && nat_lt side.took side.out) its_newest)
          ∙ sym (ap has_untaken_if found)

  -- ---- a connection is given to a stream

  module _ (id k : ℕ) (out : ℕ → ℕ) (none : find id sides ≡ None) (elsewhere : (j : ℕ) → j ≢ k → out j ≡ s.out j) where
    -- the row of another stream, which the connection wasn't given to last
    kept_row : (x : ℕ) (r : Row) (it : Side) → x ≢ id → x ≢ newest k → IsRow newest s.out s.took x r it → IsRow (newest_with k id newest) out s.took x r it
    kept_row x r it other older is = record {
      k = is.k;
      queue = is.queue;
      past = elim (eqb_tells k it.k) [
        | inl same ↦
            is.past
            ∙ ap not (ne_eqb (newest it.k) x (λ e. older (sym e ∙ ap newest (sym same.1))))
            ∙ sym (ap (λ b. not ((if b then id else newest it.k) == x)) same.0 ∙ ap not (ne_eqb id x (λ e. other (sym e))))
        | inr off ↦ is.past ∙ sym (ap (λ b. not ((if b then id else newest it.k) == x)) off.0)
      ];
      put_out = λ now. elim (eqb_tells it.k k) [
        | inl same ↦ absurd (let no : true ≡ false = sym (is.past ∙ ap not (ne_eqb (newest it.k) x (λ e. older (sym e ∙ ap newest same.1)))) ∙ now in cc)
        | inr off ↦ elsewhere it.k off.1 ∙ is.put_out now
      ];
      taken = is.taken;
    }

    other_row : (x : ℕ) → x ≢ id → change_row id (given k) s.row x ≡ s.row x
    other_row x other = ap (λ b. if b then given k (s.row x) else s.row x) (ne_eqb id x (λ same. other (sym same)))

    queue_same : (x : ℕ) → (change_row id (given k) s.row x).queue ≡ (s.row x).queue
    queue_same x = by (id == x) (s.row x)
      where
        by : (b : Bool) (r : Row) → (if b then given k r else r).queue ≡ r.queue
        by true r = refl
        by false r = refl

    -- nothing is kept of the stream, nor of the one that had the connection
    pub gives_beside : find (newest k) sides ≡ None → Keeps sides (is_live s) (change_row id (given k) s.row) (newest_with k id newest) out s.took
    gives_beside nobody = record {
      live = h.live;
      rows = λ x it is.
          let other : x ≢ id = λ e. absurd (let no : ◌≡◌ {A = Option Side} None (Some it) = sym none ∙ ap (λ n. find n sides) (sym e) ∙ is in cc) in
          let older : x ≢ newest k = λ e. absurd (let no : ◌≡◌ {A = Option Side} None (Some it) = sym nobody ∙ ap (λ n. find n sides) (sym e) ∙ is in cc) in
          subst (λ (r : Row). IsRow (newest_with k id newest) out s.took x r it) (sym (other_row x other)) (kept_row x (s.row x) it other older (h.rows x it is));
      rest = λ x on not. queue_same x ∙ h.rest x on not;
      apart = h.apart;
    }

    -- what is kept of the stream, and of the one that had the connection, if it is kept
    abbrev before : List Side
    before = change (newest k) passing sides

    abbrev new : Side
    new = opened id k (out k) (s.took k)

    before_none : (x : ℕ) → find x sides ≡ None → find x before ≡ None
    before_none x absent = changed_none (newest k) passing (λ y. refl) x sides absent

    before_other : (x : ℕ) → x ≢ newest k → find x before ≡ find x sides
    before_other x older = changed_other (newest k) passing (λ y. refl) x sides older

    passed_row : (its : IsOf (newest k) k sides) (x : ℕ) (it : Side) → x ≢ id → find x before ≡ Some it → IsRow (newest_with k id newest) out s.took x (s.row x) it
    passed_row its x it other is = elim (eqb_tells x (newest k)) [
      | inl own ↦ by (find x sides) refl own.1
      | inr off ↦ kept_row x (s.row x) it other off.1 (h.rows x it (sym (before_other x off.1) ∙ is))
    ]
      where
        by : (o : Option Side) → find x sides ≡ o → x ≡ newest k → IsRow (newest_with k id newest) out s.took x (s.row x) it
        by None absent e = absurd (let no : ◌≡◌ {A = Option Side} None (Some it) = sym (before_none x absent) ∙ is in cc)
        by (Some was) found e =
            let there : find (newest k) sides ≡ Some was = ap (λ n. find n sides) (sym e) ∙ found in
            let same : passing was ≡ it = some_same (sym (changed_own (newest k) passing (λ y. refl) sides was there) ∙ ap (λ n. find n before) (sym e) ∙ is) in
            let r = h.rows x was found in
            let row : IsRow (newest_with k id newest) out s.took x (s.row x) (passing was) = record {
              k = r.k;
              queue = r.queue;
              past = sym (ap (λ b. not ((if b then id else newest was.k) == x)) (eq-eqb k was.k (sym (its was there))) ∙ ap not (ne_eqb id x (λ f. other (sym f))));
              put_out = λ now. absurd (let no : true ≡ false = now in cc);
              taken = λ asked. r.taken (waits_so was.past (nat_lt 0 (length was.queue)) asked);
            } in
            subst (λ (y : Side). IsRow (newest_with k id newest) out s.took x (s.row x) y) same row
          where
            waits_so : (b c : Bool) → (false || c) ≡ true → (not b || c) ≡ true
            waits_so true c asked = asked
            waits_so false c asked = refl

    pub gives_own : IsOf (newest k) k sides → is_live s id ≡ true → Keeps (before ++ new ∷ []) (is_live s) (change_row id (given k) s.row) (newest_with k id newest) out s.took
    gives_own its on = record {
      live = λ x it is. elim (eqb_tells x id) [
        | inl own ↦ ap (is_live s) own.1 ∙ on
        | inr off ↦ by_before x it (sym (joined_other new x before off.1) ∙ is)
      ];
      rows = λ x it is. elim (eqb_tells x id) [
        | inl own ↦ (
            let same : new ≡ it = some_same (sym (joined_own new before absent) ∙ ap (λ n. find n (before ++ new ∷ [])) (sym own.1) ∙ is) in
            let first : IsRow (newest_with k id newest) out s.took id (given k (s.row id)) new = record {
              k = refl;
              queue = h.rest id on none;
              past = sym (ap (λ b. not ((if b then id else newest k) == id)) (eq-eqb k k refl) ∙ ap not (eq-eqb id id refl));
              put_out = λ now. refl;
              taken = λ asked. refl;
            } in
            let row : IsRow (newest_with k id newest) out s.took id (change_row id (given k) s.row id) new = subst (λ (r : Row). IsRow (newest_with k id newest) out s.took id r new) (sym (ap (λ b. if b then given k (s.row id) else s.row id) (eq-eqb id id refl))) first in
            subst (λ n. IsRow (newest_with k id newest) out s.took n (change_row id (given k) s.row n) it) (sym own.1) (subst (λ (y : Side). IsRow (newest_with k id newest) out s.took id (change_row id (given k) s.row id) y) same row)
            )
        | inr off ↦ subst (λ (r : Row). IsRow (newest_with k id newest) out s.took x r it) (sym (other_row x off.1)) (passed_row its x it off.1 (sym (joined_other new x before off.1) ∙ is))
      ];
      rest = λ x live not_there. elim (eqb_tells x id) [
        | inl own ↦ absurd (let no : ◌≡◌ {A = Option Side} (Some new) None = sym (joined_own new before absent) ∙ ap (λ n. find n (before ++ new ∷ [])) (sym own.1) ∙ not_there in cc)
        | inr off ↦ queue_same x ∙ h.rest x live (still_none x (sym (joined_other new x before off.1) ∙ not_there))
      ];
      apart = apart_joined new before absent (subst AreApart (sym (changed_ids (newest k) passing (λ y. refl) sides)) h.apart);
    }
      where
        absent : find id before ≡ None
        absent = before_none id none

        by_before : (x : ℕ) (it : Side) → find x before ≡ Some it → is_live s x ≡ true
        by_before x it is = by (find x sides) refl
          where
            by : (o : Option Side) → find x sides ≡ o → is_live s x ≡ true
            by None gone = absurd (let no : ◌≡◌ {A = Option Side} None (Some it) = sym (before_none x gone) ∙ is in cc)
            by (Some was) found = h.live x was found

        still_none : (x : ℕ) → find x before ≡ None → find x sides ≡ None
        still_none x gone = elim (eqb_tells x (newest k)) [
          | inl own ↦ by (find x sides) refl own.1
          | inr off ↦ sym (before_other x off.1) ∙ gone
        ]
          where
            by : (o : Option Side) → find x sides ≡ o → x ≡ newest k → find x sides ≡ None
            by None found e = found
            by (Some was) found e = absurd (let no : ◌≡◌ {A = Option Side} (Some (passing was)) None = sym (changed_own (newest k) passing (λ y. refl) sides was (ap (λ n. find n sides) (sym e) ∙ found)) ∙ ap (λ n. find n before) (sym e) ∙ gone in cc)

  -- one that is opened was given to no stream of which anything is kept
  pub opens_own : (id k : ℕ) → is_live s id ≡ true → find id sides ≡ None → find (newest k) sides ≡ None → s.out k ≡ 0 → s.took k ≡ 0
      → Keeps (sides ++ opened id k 0 0 ∷ []) (is_live s) (change_row id (given k) s.row) (newest_with k id newest) s.out s.took
  opens_own id k on none nobody no_out no_took =
      let its : IsOf (newest k) k sides = λ side found. absurd (let no : ◌≡◌ {A = Option Side} None (Some side) = sym nobody ∙ found in cc) in
      let all = gives_own id k s.out none (λ j off. refl) its on in
      let here : (xs : List Side) (n m : ℕ) → Type 0 = λ xs n m. Keeps (xs ++ opened id k n m ∷ []) (is_live s) (change_row id (given k) s.row) (newest_with k id newest) s.out s.took in
      subst (λ m. here sides 0 m) no_took (subst (λ n. here sides n (s.took k)) no_out (subst (λ (xs : List Side). here xs (s.out k) (s.took k)) (change_none (newest k) passing sides nobody) all))

  -- one that is used again: more octets are put out with it
  pub uses_own : (id k count : ℕ) → is_live s id ≡ true → find id sides ≡ None → IsOf (newest k) k sides
      → Keeps (change (newest k) passing sides ++ opened id k (s.out k + count) (s.took k) ∷ []) (is_live s) (change_row id (given k) s.row) (newest_with k id newest) (add k count s.out) s.took
  uses_own id k count on none its =
      let out : ℕ → ℕ = add k count s.out in
      let more : out k ≡ s.out k + count = ap (λ b. if b then s.out k + count else s.out k) (eq-eqb k k refl) in
      subst (λ n. Keeps (change (newest k) passing sides ++ opened id k n (s.took k) ∷ []) (is_live s) (change_row id (given k) s.row) (newest_with k id newest) out s.took) more
      (gives_own id k out none (out_elsewhere s k count) its on)

  -- ---- octets go to connections of which nothing is kept

  pub puts_beside : (k count : ℕ) → IsOfNone (newest k) k sides → Keeps sides (is_live s) s.row newest (add k count s.out) s.took
  puts_beside k count elsewhere = record {
    live = h.live;
    rows = λ x it is.
        let r = h.rows x it is in record {
          k = r.k;
          queue = r.queue;
          past = r.past;
          put_out = λ now. elim (eqb_tells it.k k) [
            | inl same ↦ elim (eqb_tells (newest k) x) [
              | inl own ↦ absurd (elsewhere it (ap (λ n. find n sides) own.1 ∙ is) same.1)
              | inr off ↦ absurd (let no : true ≡ false = sym (past_is x it is (λ e. off.1 (ap newest (sym same.1) ∙ e))) ∙ now in cc)
            ]
            | inr off ↦ ap (λ b. if b then s.out it.k + count else s.out it.k) off.0 ∙ r.put_out now
          ];
          taken = r.taken;
        };
    rest = h.rest;
    apart = h.apart;
  }

-- ---- the streams that connections were given to

-- what is kept stands where they are the same
pub same_newest : (newest other : ℕ → ℕ) (sides : List Side) (s : State) → ((k : ℕ) → newest k ≡ other k) → StandFor newest sides s → StandFor other sides s
same_newest newest other sides s same h = record {
  live = h.live;
  rows = λ x it is. let r = h.rows x it is in record { k = r.k; queue = r.queue; past = r.past ∙ ap (λ n. not (n == x)) (same it.k); put_out = r.put_out; taken = r.taken };
  rest = h.rest;
  apart = h.apart;
}

-- ---- behind moves

pub apart_in : (ids : List ℕ) → StandApart ids → AreApart ids
apart_in [] is = tt
apart_in (x ∷ ids) is = (is.0, apart_in ids is.1)

above_in : (passing : Passing) (t : List Entry) (s : State) (id : ℕ) → StandsIn passing t s id → IsAbove (s.took (s.row id).k) (s.row id).queue
above_in Whole t s id is = subst (IsAbove (s.took (s.row id).k)) (sym is.queue) tt
above_in Streaming t s id is = is.queue.above

pub ahead : (more : ℕ) (passing : Passing) (moves : List Move) → AreAllowed more passing moves → NoneReached (state_of more passing moves)
ahead more passing moves all =
    let h : Receiving more passing (tape_of moves) (state_of more passing moves) = receiving more passing moves all in
    record {
      apart = apart_in (state_of more passing moves).live (live_apart more passing (tape_of moves) (state_of more passing moves) h.keeping);
      above = λ id on. above_in passing (tape_of moves) (state_of more passing moves) id (h.keeping.streams id (sym (live_among more passing (tape_of moves) (state_of more passing moves) id h.keeping) ∙ on));
    }
