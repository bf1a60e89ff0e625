-- What is kept of DATA that waits stands for what the rule has, behind each move.
use Rattle.std.proofs.Common.{◌≡◌, ◌≢◌, ℕ, ◌+◌, ◌<◌, Bool, true, false, ◌==◌, ◌||◌, if◌then◌else◌, List, [], ◌∷◌, ◌++◌, length, Option, Some, None, refl, sym, ◌∙◌, ap, subst, inl, inr}
use Rattle.std.specs.List.{list_any}
use Rattle.std.specs.Prelude.{option_map}
use Rattle.std.proofs.lemmas.Bool.Decides.{eqb_tells}
use Rattle.model.specs.Setup.{Setup, Passing}
use Rattle.model.specs.Setup.Passing.{Whole, Streaming}
use Rattle.model.specs.Logs.Act.{Open, ToUp}
use Rattle.model.specs.Tapes.{Noted}
use Rattle.theory_errors.specs.Summary.{Summary}
use Rattle.theory_responses.specs.Sight.{sight_in}
use Rattle.theory_receive_windows.specs.State as windows
use Rattle.theory_receive_windows.specs.State.{Row, State as Rooms, is_live, blank, given, others, with_frame, with_sent, with_taken, with_given, with_act, with_use, settle_by}
use Rattle.window_credit.specs.Sides.{Side, find, change, without, unless_over, opened, passing as passed, putting, taking, waiting, taking_on, taking_behind, taken_of_all}
use Rattle.window_credit.specs.Standing.{IsOf, IsOfNone, NoneReached, newest_with}
use Rattle.window_credit.proofs.Telling as telling
use Rattle.window_credit.proofs.Taking as taken
use Rattle.window_credit.proofs.Looking.{changed_own, changed_other, changed_none, mapped_found, gone_own, gone_other, joined_own, joined_other, goes_own, goes_other}
use Rattle.theory.specs.Moves.{Decision, Move, window_of}
use Rattle.theory.specs.Moves.Move.{Does, Settles}
use Rattle.theory.specs.State.{State, summary_at}
use Rattle.theory.specs.Rule.{rooms_in}
use Rattle.theory.specs.Steps.{told_by, told_behind, next, MayGoOn, Stands}
use Rattle.window_credit.proofs.Rising.{change_none}
use Rattle.theory.proofs.Stepping.{before_is, one_more}
use Rattle.refinement.specs.View.{AreMarked, AreSo}
use Rattle.refinement.proofs.Where.{moved_here}

-- ---- the rule's state behind a move

module _ (setup : Setup) (run : List Move) (s : State) (stand : Stands setup run s) (so : AreSo setup run) where
  -- behind a decision
  pub rooms_next : (d : Decision) → MayGoOn setup s (Does d) → AreSo setup (Does d ∷ run)
      → rooms_in (told_by (next setup s (Does d))) (next setup s (Does d)) ≡ windows.after setup.passing (rooms_in (told_by s) s) (window_of (sight_in (told_by s)) (sight_in (told_behind setup s d)) d)
  rooms_next d may so_then =
      let stand_then : Stands setup (Does d ∷ run) (next setup s (Does d)) = one_more setup run s (Does d) stand may in
      sym (moved_here setup (Does d ∷ run) (next setup s (Does d)) stand_then so_then)
      ∙ ap (λ (r : Rooms). windows.after setup.passing r (window_of (sight_in (summary_at setup run)) (sight_in (summary_at setup (Does d ∷ run))) d)) (moved_here setup run s stand so)
      ∙ ap (λ (u : Summary). windows.after setup.passing (rooms_in (told_by s) s) (window_of (sight_in u) (sight_in (summary_at setup (Does d ∷ run))) d)) (before_is setup run s stand)
      ∙ ap (λ (u : Summary). windows.after setup.passing (rooms_in (told_by s) s) (window_of (sight_in (told_by s)) (sight_in u) d)) (before_is setup (Does d ∷ run) (next setup s (Does d)) stand_then)

  -- behind the end of the last frame's effect
  pub rooms_settled : AreSo setup (Settles ∷ run) → rooms_in (told_by s) (next setup s Settles) ≡ windows.after setup.passing (rooms_in (told_by s) s) windows.Move.Settles
  rooms_settled so_then =
      let stand_then : Stands setup (Settles ∷ run) (next setup s Settles) = one_more setup run s Settles stand tt in
      sym (moved_here setup (Settles ∷ run) (next setup s Settles) stand_then so_then)
      ∙ ap (λ (r : Rooms). windows.after setup.passing r windows.Move.Settles) (moved_here setup run s stand so)

-- ---- what is kept behind each change of it

-- nothing is left of nothing
none_over : (over : Bool) (id : ℕ) → unless_over over id [] ≡ []
none_over true id = refl
none_over false id = refl

-- whether something is found of a stream doesn't change as what is kept of one does
still_none_in : (sides : List Side) (f : Side → Side) → ((x : Side) → (f x).id ≡ x.id) → (id : ℕ) (side : Side) → find id sides ≡ Some side → (x : ℕ) → find x (change id f sides) ≡ None → find x sides ≡ None
still_none_in sides f keeps_id id side found x none = elim (eqb_tells x id) [
  | inl own ↦ absurd (let no : ◌≡◌ {A = Option Side} (Some (f side)) None = sym (changed_own id f keeps_id sides side found) ∙ ap (λ n. find n (change id f sides)) (sym own.1) ∙ none in cc)
  | inr off ↦ sym (changed_other id f keeps_id x sides off.1) ∙ none
]

module _ (passing : Passing) (newest : ℕ → ℕ) (sides : List Side) (s : Rooms) (h : AreMarked passing newest sides s) where
  -- where rows have the same connections
  same_k : (row : ℕ → Row) → ((x : ℕ) → (row x).k ≡ (s.row x).k) → passing ≡ Streaming → (id : ℕ) → is_live s id ≡ true → find id sides ≡ None → (row id).k ≡ 0
  same_k row same streaming id on none = same id ∙ h.all streaming id on none

  k_changed : (f : Row → Row) → ((r : Row) → (f r).k ≡ r.k) → (id x : ℕ) → (windows.change id f s.row x).k ≡ (s.row x).k
  k_changed f same id x = by (id == x)
    where
      by : (b : Bool) → (if b then f (s.row x) else s.row x).k ≡ (s.row x).k
      by true = same (s.row x)
      by false = refl

  -- a stream is over
  all_over : (id : ℕ) → passing ≡ Streaming → (x : ℕ) → list_any (λ other. other == x) (others id s.live) ≡ true → find x (without id sides) ≡ None → (s.row x).k ≡ 0
  all_over id streaming x on none = elim (eqb_tells x id) [
    | inl own ↦ absurd (let no : false ≡ true = sym (goes_own id s.live) ∙ ap (λ n. list_any (λ other. other == n) (others id s.live)) (sym own.1) ∙ on in cc)
    | inr off ↦ h.all streaming x (sym (goes_other id x s.live off.1) ∙ on) (sym (gone_other id x sides off.1) ∙ none)
  ]

  -- of streams for which a connection was opened alone something is kept: of fewer, and where one of them changes
  some_without : (id : ℕ) (x : ℕ) (side : Side) → find x (without id sides) ≡ Some side → 0 < side.k
  some_without id x side found = elim (eqb_tells x id) [
    | inl own ↦ (let no : ◌≡◌ {A = Option Side} None (Some side) = sym (gone_own id sides) ∙ ap (λ n. find n (without id sides)) (sym own.1) ∙ found in cc)
    | inr off ↦ h.some x side (sym (gone_other id x sides off.1) ∙ found)
  ]

  some_unless : (over : Bool) (id : ℕ) (x : ℕ) (side : Side) → find x (unless_over over id sides) ≡ Some side → 0 < side.k
  some_unless true id = some_without id
  some_unless false id = h.some

  some_changed : (f : Side → Side) → ((x : Side) → (f x).id ≡ x.id) → ((x : Side) → (f x).k ≡ x.k) → (id : ℕ) (own : Side) → find id sides ≡ Some own → (x : ℕ) (side : Side) → find x (change id f sides) ≡ Some side → 0 < side.k
  some_changed f keeps_id keeps_k id own there x side found = elim (eqb_tells x id) [
    | inl same ↦ (
        let it : Some (f own) ≡ Some side = sym (changed_own id f keeps_id sides own there) ∙ ap (λ n. find n (change id f sides)) (sym same.1) ∙ found in
        let this : f own ≡ side = cc in
        subst (λ n. 0 < n) (sym (keeps_k own) ∙ ap (λ (y : Side). y.k) this) (h.some id own there)
        )
    | inr off ↦ h.some x side (sym (changed_other id f keeps_id x sides off.1) ∙ found)
  ]

  -- a frame of the client came
  pub marked_came : (noted : Noted) (opens over : Bool) → (opens ≡ true → (over ≡ false) × (is_live s noted.frame.id ≡ false)) → AreMarked passing newest (unless_over over noted.frame.id sides) (with_frame s noted opens over)
  marked_came noted opens over new = record {
    stand = telling.came newest sides s h.stand noted opens over new;
    none = λ whole. ap (unless_over over noted.frame.id) (h.none whole) ∙ none_over over noted.frame.id;
    some = some_unless over noted.frame.id;
    all = λ streaming. by opens over new streaming;
  }
    where
      by : (opens over : Bool) → (opens ≡ true → (over ≡ false) × (is_live s noted.frame.id ≡ false)) → passing ≡ Streaming → (x : ℕ) → is_live (with_frame s noted opens over) x ≡ true → find x (unless_over over noted.frame.id sides) ≡ None → ((with_frame s noted opens over).row x).k ≡ 0
      by false false new streaming x on none = h.all streaming x on none
      by false true new streaming x on none = all_over noted.frame.id streaming x on none
      by true false new streaming x on none = elim (eqb_tells noted.frame.id x) [
        | inl own ↦ ap (λ b. (if b then blank else s.row x).k) own.0
        | inr off ↦ ap (λ b. (if b then blank else s.row x).k) off.0 ∙ h.all streaming x (sym (ap (λ b. b || is_live s x) off.0) ∙ on) none
      ]
      by true true new streaming x on none = absurd (let no : true ≡ false = (new refl).0 in cc)

  -- another frame was sent
  pub marked_sent : (noted : Noted) (over : Bool) → AreMarked passing newest (unless_over over noted.frame.id sides) (with_sent s noted over)
  marked_sent noted over = record {
    stand = telling.sent newest sides s h.stand noted over;
    none = λ whole. ap (unless_over over noted.frame.id) (h.none whole) ∙ none_over over noted.frame.id;
    some = some_unless over noted.frame.id;
    all = λ streaming. by over streaming;
  }
    where
      by : (over : Bool) → passing ≡ Streaming → (x : ℕ) → is_live (with_sent s noted over) x ≡ true → find x (unless_over over noted.frame.id sides) ≡ None → (s.row x).k ≡ 0
      by false streaming x on none = h.all streaming x on none
      by true streaming x on none = all_over noted.frame.id streaming x on none

  -- octets were given back
  pub marked_given : (shared : Bool) (noted : Noted) → AreMarked passing newest sides (with_given shared s noted)
  marked_given shared noted = record { stand = telling.gives newest sides s h.stand shared noted; none = h.none; some = h.some; all = λ streaming. by shared streaming }
    where
      by : (shared : Bool) → passing ≡ Streaming → (x : ℕ) → is_live (with_given shared s noted) x ≡ true → find x sides ≡ None → ((with_given shared s noted).row x).k ≡ 0
      by true streaming x on none = h.all streaming x on none
      by false streaming x on none = same_k (windows.change noted.frame.id windows.paid s.row) (k_changed windows.paid (λ r. refl) noted.frame.id) streaming x on none

  -- the last frame's octets go back
  pub marked_back : AreMarked passing newest sides (settle_by false s)
  marked_back = record {
    stand = telling.owes newest sides s h.stand s.stream s.count;
    none = h.none;
    some = h.some;
    all = λ streaming x on none. same_k (windows.change s.stream (windows.owing s.count) s.row) (k_changed (windows.owing s.count) (λ r. refl) s.stream) streaming x on none;
  }

  still_none : (f : Side → Side) → ((x : Side) → (f x).id ≡ x.id) → (id : ℕ) (side : Side) → find id sides ≡ Some side → (x : ℕ) → find x (change id f sides) ≡ None → find x sides ≡ None
  still_none = still_none_in sides

  none_changed : (f : Side → Side) (id : ℕ) → passing ≡ Whole → change id f sides ≡ []
  none_changed f id whole = ap (change id f) (h.none whole)

  -- they wait
  pub marked_waits : (side : Side) → find s.stream sides ≡ Some side → side.past ≡ false → AreMarked passing newest (change s.stream (waiting s.count) sides) (settle_by true s)
  marked_waits side found last = record {
    stand = telling.waits_own newest sides s h.stand s.stream side found last s.count;
    none = none_changed (waiting s.count) s.stream;
    some = some_changed (waiting s.count) (λ x. refl) (λ x. refl) s.stream side found;
    all = λ streaming x on none.
        same_k (windows.change s.stream (windows.waits (s.out (s.row s.stream).k) s.count) s.row) (k_changed (windows.waits (s.out (s.row s.stream).k) s.count) (λ r. refl) s.stream) streaming x on
        (still_none (waiting s.count) (λ y. refl) s.stream side found x none);
  }

  -- ---- a connection was given to the last frame's stream

  module _ (k : ℕ) (counted : 0 < k) (streaming : passing ≡ Streaming) (before : List Side) (left : (x : ℕ) (side : Side) → find x before ≡ Some side → 0 < side.k) (gone : (x : ℕ) → find x before ≡ None → find x sides ≡ None) (absent : find s.stream before ≡ None) (last : Side) (its : last.id ≡ s.stream) (number : last.k ≡ k) where
    some_given : (x : ℕ) (side : Side) → find x (before ++ last ∷ []) ≡ Some side → 0 < side.k
    some_given x side found = elim (eqb_tells x last.id) [
      | inl own ↦ (
          let it : Some last ≡ Some side = sym (joined_own last before (ap (λ n. find n before) its ∙ absent)) ∙ ap (λ n. find n (before ++ last ∷ [])) (sym own.1) ∙ found in
          let this : last ≡ side = cc in
          subst (λ n. 0 < n) (sym number ∙ ap (λ (y : Side). y.k) this) counted
          )
      | inr off ↦ left x side (sym (joined_other last x before off.1) ∙ found)
    ]

    all_given : (x : ℕ) → is_live s x ≡ true → find x (before ++ last ∷ []) ≡ None → (windows.change s.stream (given k) s.row x).k ≡ 0
    all_given x live none = elim (eqb_tells s.stream x) [
      | inl own ↦ absurd (let no : ◌≡◌ {A = Option Side} (Some last) None = sym (joined_own last before (ap (λ n. find n before) its ∙ absent)) ∙ ap (λ n. find n (before ++ last ∷ [])) (its ∙ own.1) ∙ none in cc)
      | inr off ↦ ap (λ b. (if b then given k (s.row x) else s.row x).k) off.0 ∙ h.all streaming x live (gone x (sym (joined_other last x before (λ is. off.1 (sym (is ∙ its)))) ∙ none))
    ]

  not_whole : {A : Type 0} → passing ≡ Streaming → passing ≡ Whole → A
  not_whole streaming whole = let no : Whole ≡ Streaming = sym whole ∙ streaming in absurd (cc)

  -- one that was opened
  pub marked_opened : (k route : ℕ) → 0 < k → passing ≡ Streaming → is_live s s.stream ≡ true → find s.stream sides ≡ None → find (newest k) sides ≡ None → s.out k ≡ 0 → s.took k ≡ 0 → AreMarked passing (newest_with k s.stream newest) (sides ++ opened s.stream k 0 0 ∷ []) (with_act s (Open k route))
  marked_opened k route counted streaming on none nobody no_out no_took = record {
    stand = telling.opens_own newest sides s h.stand s.stream k on none nobody no_out no_took;
    none = not_whole streaming;
    some = some_given k counted streaming sides h.some (λ x is. is) none (opened s.stream k 0 0) refl refl;
    all = λ same. all_given k counted streaming sides h.some (λ x is. is) none (opened s.stream k 0 0) refl refl;
  }

  -- the same where nothing waits
  pub marked_opened_beside : (k route : ℕ) → passing ≡ Whole → AreMarked passing (newest_with k s.stream newest) sides (with_act s (Open k route))
  marked_opened_beside k route whole = record {
    stand = telling.gives_beside newest sides s h.stand s.stream k s.out (nothing_kept s.stream) (λ j off. refl) (nothing_kept (newest k));
    none = h.none;
    some = h.some;
    all = λ streaming. not_whole streaming whole;
  }
    where
      nothing_kept : (id : ℕ) → find id sides ≡ None
      nothing_kept id = ap (find id) (h.none whole)

  -- an idle one, and octets were put out for it
  pub marked_used : (k : ℕ) (octets : List ℕ) → 0 < k → passing ≡ Streaming → is_live s s.stream ≡ true → find s.stream sides ≡ None → IsOf (newest k) k sides → AreMarked passing (newest_with k s.stream newest) (change (newest k) passed sides ++ opened s.stream k (s.out k + length octets) (s.took k) ∷ []) (with_use s k octets)
  marked_used k octets counted streaming on none its = record {
    stand = telling.uses_own newest sides s h.stand s.stream k (length octets) on none its;
    none = not_whole streaming;
    some = some_given k counted streaming (change (newest k) passed sides) left gone absent (opened s.stream k (s.out k + length octets) (s.took k)) refl refl;
    all = λ same. all_given k counted streaming (change (newest k) passed sides) left gone absent (opened s.stream k (s.out k + length octets) (s.took k)) refl refl;
  }
    where
      absent : find s.stream (change (newest k) passed sides) ≡ None
      absent = changed_none (newest k) passed (λ y. refl) s.stream sides none

      gone : (x : ℕ) → find x (change (newest k) passed sides) ≡ None → find x sides ≡ None
      gone x nothing = by (find (newest k) sides) refl
        where
          by : (o : Option Side) → find (newest k) sides ≡ o → find x sides ≡ None
          by None nobody = sym (ap (find x) (change_none (newest k) passed sides nobody)) ∙ nothing
          by (Some side) found = still_none passed (λ y. refl) (newest k) side found x nothing

      left : (x : ℕ) (side : Side) → find x (change (newest k) passed sides) ≡ Some side → 0 < side.k
      left x side there = by (find (newest k) sides) refl
        where
          by : (o : Option Side) → find (newest k) sides ≡ o → 0 < side.k
          by None nobody = h.some x side (sym (ap (find x) (change_none (newest k) passed sides nobody)) ∙ there)
          by (Some own) found = some_changed passed (λ y. refl) (λ y. refl) (newest k) own found x side there

  -- the same where nothing waits
  pub marked_used_beside : (k : ℕ) (octets : List ℕ) → passing ≡ Whole → AreMarked passing (newest_with k s.stream newest) sides (with_use s k octets)
  marked_used_beside k octets whole = record {
    stand = telling.gives_beside newest sides s h.stand s.stream k (windows.add k (length octets) s.out) (nothing_kept s.stream) (telling.out_elsewhere s k (length octets)) (nothing_kept (newest k));
    none = h.none;
    some = h.some;
    all = λ streaming. not_whole streaming whole;
  }
    where
      nothing_kept : (id : ℕ) → find id sides ≡ None
      nothing_kept id = ap (find id) (h.none whole)

  -- ---- octets

  -- octets were put out for a connection's newest stream
  pub marked_put : (k id : ℕ) (octets : List ℕ) (side : Side) → find id sides ≡ Some side → side.k ≡ k → newest side.k ≡ id → AreMarked passing newest (change id (putting (length octets)) sides) (with_act s (ToUp k octets))
  marked_put k id octets side found its last = record {
    stand = telling.puts_own newest sides s h.stand id side found last k (length octets) its;
    none = none_changed (putting (length octets)) id;
    some = some_changed (putting (length octets)) (λ x. refl) (λ x. refl) id side found;
    all = λ streaming x on none. h.all streaming x on (still_none (putting (length octets)) (λ y. refl) id side found x none);
  }

  pub marked_put_beside : (k : ℕ) (octets : List ℕ) → IsOfNone (newest k) k sides → AreMarked passing newest sides (with_act s (ToUp k octets))
  marked_put_beside k octets elsewhere = record { stand = telling.puts_beside newest sides s h.stand k (length octets) elsewhere; none = h.none; some = h.some; all = h.all }

  -- its side took octets, and those of streams that had it before are taken, too
  pub marked_took : (k count id : ℕ) → NoneReached s → newest k ≡ id → IsOf id k sides → AreMarked passing newest (taken_of_all id k (s.took k + count) sides) (with_taken s k count)
  marked_took k count id ahead last its = record {
    stand = taken.takes newest sides s h.stand ahead k count id last its;
    none = λ whole. ap (taken_of_all id k now) (h.none whole);
    some = λ x side found. some_end x side found;
    all = λ streaming x on none. h.all streaming x on (none_end x none);
  }
    where
      now : ℕ
      now = s.took k + count

      mid : List Side
      mid = taking_behind k now sides

      k_same : (side : Side) → (taking_on k now side).k ≡ side.k
      k_same side = by (Rattle.window_credit.specs.Sides.waits_on k side)
        where
          by : (b : Bool) → (if b then taking now side else side).k ≡ side.k
          by true = refl
          by false = refl

      some_mid : (x : ℕ) (side : Side) → find x mid ≡ Some side → 0 < side.k
      some_mid x side found = by (find x sides) refl (sym (mapped_found (taking_on k now) (taken.keeps_id k now) x sides) ∙ found)
        where
          by : (o : Option Side) → find x sides ≡ o → option_map (taking_on k now) o ≡ Some side → 0 < side.k
          by None none is = let clash : ◌≡◌ {A = Option Side} None (Some side) = is in cc
          by (Some it) there is = let same : taking_on k now it ≡ side = cc in subst (λ n. 0 < n) (sym (k_same it) ∙ ap (λ (y : Side). y.k) same) (h.some x it there)

      none_mid : (x : ℕ) → find x mid ≡ None → find x sides ≡ None
      none_mid x none = by (find x sides) (sym (mapped_found (taking_on k now) (taken.keeps_id k now) x sides) ∙ none)
        where
          by : (o : Option Side) → option_map (taking_on k now) o ≡ None → o ≡ None
          by None is = refl
          by (Some it) is = let clash : ◌≡◌ {A = Option Side} (Some (taking_on k now it)) None = is in cc

      none_end : (x : ℕ) → find x (change id (taking now) mid) ≡ None → find x sides ≡ None
      none_end x none = none_mid x (by (find id mid) refl)
        where
          by : (o : Option Side) → find id mid ≡ o → find x mid ≡ None
          by None nobody = sym (ap (find x) (change_none id (taking now) mid nobody)) ∙ none
          by (Some it) there = still_none_in mid (taking now) (λ y. refl) id it there x none

      some_end : (x : ℕ) (side : Side) → find x (change id (taking now) mid) ≡ Some side → 0 < side.k
      some_end x side found = elim (eqb_tells x id) [
        | inl own ↦ by (find id mid) refl own.1
        | inr off ↦ some_mid x side (sym (changed_other id (taking now) (λ y. refl) x mid off.1) ∙ found)
      ]
        where
          by : (o : Option Side) → find id mid ≡ o → x ≡ id → 0 < side.k
          by None none e = let clash : ◌≡◌ {A = Option Side} None (Some side) = sym (changed_none id (taking now) (λ y. refl) id mid none) ∙ ap (λ n. find n (change id (taking now) mid)) (sym e) ∙ found in cc
          by (Some it) there e =
              let is : Some (taking now it) ≡ Some side = sym (changed_own id (taking now) (λ y. refl) mid it there) ∙ ap (λ n. find n (change id (taking now) mid)) (sym e) ∙ found in
              let same : taking now it ≡ side = cc in
              subst (λ n. 0 < n) (ap (λ (y : Side). y.k) same) (some_mid id it there)

  pub marked_took_beside : (k count : ℕ) → NoneReached s → ((id : ℕ) (side : Side) → find id sides ≡ Some side → side.k ≢ k) → AreMarked passing newest sides (with_taken s k count)
  marked_took_beside k count ahead elsewhere = record { stand = taken.takes_beside newest sides s h.stand ahead k count elsewhere; none = h.none; some = h.some; all = h.all }

  -- ---- the streams that connections were given to

  pub marked_newest : (other : ℕ → ℕ) → ((k : ℕ) → newest k ≡ other k) → AreMarked passing other sides s
  marked_newest other same = record { stand = telling.same_newest newest other sides s same h.stand; none = h.none; some = h.some; all = h.all }

  -- ---- whatever only ends the effect of what came before

  pub marked_event : AreMarked passing newest sides (record s { settled = false })
  marked_event = record { stand = h.stand; none = h.none; some = h.some; all = h.all }

  -- nothing is kept of a stream of which nothing was
  pub marked_without : (id : ℕ) → find id sides ≡ None → without id sides ≡ sides
  marked_without id none = Rattle.window_credit.proofs.Rising.without_none id sides none
