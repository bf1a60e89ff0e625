-- What is told of the streams with something on offer, and that they alone can have the next turn.
use Rattle.std.proofs.Common.{◌≡◌, ℕ, ◌+◌, ◌<◌, ◌^◌, ◌&&◌, not, cond, if◌then◌else◌, Bool, true, false, List, [], ◌∷◌, ◌++◌, length, get_or, take, drop, set, map, filter, refl, sym, ap, ◌∙◌, subst, inl, inr, arith}
use Rattle.std.specs.Prelude.{Some, None, remove}
use Rattle.std.specs.List.{AllByRecursion}
use Rattle.std.proofs.lemmas.Bool.{cases_lt, cases_eq}
use Rattle.std.proofs.lemmas.List.{length-set, length-append, length-take, length-drop, take-append-drop, get_or_default, get_or-take, get_or-drop, get_or-set_same, get_or-set_other, get_or_append_left, get_or_push, append-nil}
use Rattle.std.proofs.lemmas.List.Edits.{length-remove, get_or-remove_below, get_or-remove_above}
use Rattle.std.proofs.lemmas.List.Elements.{recursion_from_All, All-from_recursion, filter-append}
use Rattle.std.proofs.lemmas.List.Sums.{sum_by-set, sum_by-remove, sum_by_push, get_or-le-sum_by, count_by-le-length}
use Rattle.theory_responses.specs.Outbox.{Outbox, can_go}
use Rattle.theory_responses.specs.Outbox.Outbox.{Before, Behind, Over}
use Rattle.theory_responses.specs.State.{Kept, Windows, blank, find, is_ready, is_ready_if, are_open, ready}
use Rattle.send_queue.specs.declared.offered.Offered.{Offered}
use Rattle.send_queue.specs.Places.{at, AreRising, IsSplit, IsSplitBelow, is_offered, IsAmong, AreTold, IsToldBehind, AreAllOffered}
use Rattle.send_queue.proofs.Rising.{find_at}
use Rattle.send_queue.proofs.Readying.{rising_upto, rising_from}

-- ---- what is told stays so

-- one for each with something on offer
abbrev one : Bool → ℕ
one b = cond b 1 0

module _ (o : Offered) (ks : List Kept) (told : AreTold o ks) where
  -- where one has something on offer, it is counted
  pub some_counted : (i : ℕ) → i < length ks → is_offered (at ks i) ≡ true → 0 < o.count
  some_counted i lt is =
      let counts : cond {A = ℕ} (is_offered (at ks i)) 1 0 ≡ 1 = ap one is in
      omega (arith, told.counted, get_or-le-sum_by (λ (k : Kept). cond (is_offered k) 1 0) ks i (blank 0) lt, counts)

  -- one that has nothing is counted beside the others
  pub room_left : length ks + 1 < 2 ^ 64 → o.count + 1 < 2 ^ 64
  room_left short = omega (arith, told.counted, count_by-le-length is_offered ks, short)

  -- the stream at a place changes
  pub told_set : (place : ℕ) (new : Kept) (o' : Offered) → place < length ks → new.id ≡ (at ks place).id → IsToldBehind o new.id (is_offered (at ks place)) (is_offered new) o' → AreTold o' (set ks place new)
  told_set place new o' within same behind = record {
    counted = omega (arith, behind.counted, told.counted, sum_by-set (λ (k : Kept). cond (is_offered k) 1 0) ks place new (blank 0) within);
    among = λ i lt is. elim (cases_eq i place) [
      | inl here ↦
          let there : at (set ks place new) i ≡ new = ap (at (set ks place new)) here ∙ get_or-set_same ks place new (blank 0) within in
          subst (λ (k : Kept). IsAmong o' k.id) (sym there) (behind.added (sym (ap is_offered there) ∙ is))
      | inr apart ↦
          let there : at (set ks place new) i ≡ at ks i = get_or-set_other ks place i new (blank 0) apart in
          let inside : i < length ks = omega (arith, lt, length-set ks place new) in
          let was : is_offered (at ks i) ≡ true = sym (ap is_offered there) ∙ is in
          subst (λ (k : Kept). IsAmong o' k.id) (sym there) (behind.others (some_counted i inside was) (at ks i).id (told.among i inside was))
    ];
  }

  -- a stream goes
  pub told_without : (place id : ℕ) (o' : Offered) → place < length ks → IsToldBehind o id (is_offered (at ks place)) false o' → AreTold o' (remove ks place)
  told_without place id o' within behind = record {
    counted = omega (arith, behind.counted, told.counted, sum_by-remove (λ (k : Kept). cond (is_offered k) 1 0) ks place (blank 0) within);
    among = λ i lt is. elim (cases_lt i place) [
      | inl before ↦ other i i (get_or-remove_below ks place (blank 0) i before within) (omega (arith, before, within)) is
      | inr from ↦ other i (i + 1) (get_or-remove_above ks place (blank 0) i from within) (omega (arith, lt, length-remove ks place within)) is
    ];
  }
    where
      other : (i j : ℕ) → at (remove ks place) i ≡ at ks j → j < length ks → is_offered (at (remove ks place) i) ≡ true → IsAmong o' (at (remove ks place) i).id
      other i j there inside is =
          let was : is_offered (at ks j) ≡ true = sym (ap is_offered there) ∙ is in
          subst (λ (k : Kept). IsAmong o' k.id) (sym there) (behind.others (some_counted j inside was) (at ks j).id (told.among j inside was))

  -- a stream comes, with nothing on offer
  pub told_more : (id : ℕ) → AreTold o (ks ++ blank id ∷ [])
  told_more id = record {
    counted = omega (arith, told.counted, sum_by_push (λ (k : Kept). cond (is_offered k) 1 0) ks (blank id));
    among = λ i lt is. elim (cases_lt i (length ks)) [
      | inl inside ↦
          let there : at (ks ++ blank id ∷ []) i ≡ at ks i = get_or_append_left ks (blank id ∷ []) (blank 0) i inside in
          subst (λ (k : Kept). IsAmong o k.id) (sym there) (told.among i inside (sym (ap is_offered there) ∙ is))
      | inr past ↦
          let last : i ≡ length ks = omega (arith, lt, past, length-append ks (blank id ∷ [])) in
          let there : at (ks ++ blank id ∷ []) i ≡ blank id = get_or_push ks (blank id) (blank 0) i (sym last) in
          absurd (let no : false ≡ true = sym (ap is_offered there) ∙ is in cc)
    ];
  }

  -- ---- all of them are found

  -- a stream that isn't among those has nothing on offer
  not_among : (i : ℕ) → i < length ks → (IsAmong o (at ks i).id → ⊥) → is_offered (at ks i) ≡ false
  not_among i lt others = by (is_offered (at ks i)) refl
    where
      by : (b : Bool) → is_offered (at ks i) ≡ b → b ≡ false
      by true is = absurd (others (told.among i lt is))
      by false is = refl

  -- where none is counted, none has
  pub none_counted : o.count ≡ 0 → AreAllOffered ks []
  none_counted none = record {
    before = [];
    behind = ks;
    is = refl;
    none_before = tt;
    none_behind = recursion_from_All (λ (k : Kept). is_offered k ≡ false) ks (λ i d lt. by i lt (is_offered (get_or ks i d)) (ap is_offered (get_or_default ks i d (blank 0) lt)));
  }
    where
      by : (i : ℕ) → i < length ks → (b : Bool) → b ≡ is_offered (at ks i) → b ≡ false
      by i lt true is = absurd (let some : 0 < o.count = some_counted i lt (sym is) in omega (arith, some, none))
      by i lt false is = refl

  -- else those between the lowest and the highest id
  pub between : (low upto : ℕ) → IsSplitBelow ks o.low low → IsSplit (drop low ks) o.high upto → AreAllOffered ks (take upto (drop low ks))
  between low upto below above = record {
    before = take low ks;
    behind = drop upto (drop low ks);
    is = sym (ap (λ xs. take low ks ++ xs) (take-append-drop upto (drop low ks)) ∙ take-append-drop low ks);
    none_before = recursion_from_All (λ (k : Kept). is_offered k ≡ false) (take low ks) (λ i d lt.
        let within : i < low = omega (arith, lt, length-take low ks) in
        let inside : i < length ks = omega (arith, within, below.within) in
        let there : get_or (take low ks) i d ≡ at ks i = get_or-take low ks i d within ∙ get_or_default ks i d (blank 0) inside in
        let less : (get_or (take low ks) i d).id < o.low = All-from_recursion (λ (k : Kept). k.id < o.low) (take low ks) below.below i d lt in
        ap is_offered there ∙ not_among i inside (λ is. let from = is.from in omega (arith, less, from, ap (λ (k : Kept). k.id) there)));
    none_behind = recursion_from_All (λ (k : Kept). is_offered k ≡ false) (drop upto (drop low ks)) (λ i d lt.
        let inside : low + (upto + i) < length ks = omega (arith, lt, length-drop upto (drop low ks), length-drop low ks) in
        let there : get_or (drop upto (drop low ks)) i d ≡ at ks (low + (upto + i)) =
        get_or-drop upto (drop low ks) i d ∙ get_or-drop low ks (upto + i) d ∙ get_or_default ks (low + (upto + i)) d (blank 0) inside in
        let more : o.high < (get_or (drop upto (drop low ks)) i d).id = All-from_recursion (λ (k : Kept). o.high < k.id) (drop upto (drop low ks)) above.above i d lt in
        ap is_offered there ∙ not_among (low + (upto + i)) inside (λ is. let up = is.upto in omega (arith, more, up, ap (λ (k : Kept). k.id) there)));
  }

-- ---- they alone can have a turn

-- nothing goes through closed windows that doesn't through open ones
goes_open : (windows : Bool) (box : Outbox) → can_go true box ≡ false → can_go windows box ≡ false
goes_open windows (Before (first ∷ interims) head body whole) none = none
goes_open windows (Before [] (Some head) body whole) none = none
goes_open windows (Before [] None body whole) none = none
goes_open windows (Behind (octet ∷ octets) whole) none = absurd (let no : true ≡ false = none in cc)
goes_open windows (Behind [] whole) none = none
goes_open windows Over none = none

-- so nothing can go where nothing is on offer
not_ready : (w : Windows) (k : Kept) → is_offered k ≡ false → is_ready w k ≡ false
not_ready w k none = by k.cut none
  where
    by : (cut : Bool) → (not cut && can_go true k.box) ≡ false → (not cut && can_go (are_open w k.id) k.box) ≡ false
    by true e = refl
    by false e = goes_open (are_open w k.id) k.box e

none_of : (w : Windows) (ks : List Kept) → AllByRecursion (λ (k : Kept). is_offered k ≡ false) ks → filter (is_ready w) ks ≡ []
none_of w [] none = refl
none_of w (k ∷ ks) none = ap (λ b. if b then k ∷ filter (is_ready w) ks else filter (is_ready w) ks) (not_ready w k none.0) ∙ none_of w ks none.1

-- each stream is found by its id
each_found : (ks : List Kept) → AreRising ks → AllByRecursion (λ (k : Kept). find k.id ks ≡ Some k) ks
each_found ks rising = recursion_from_All (λ (k : Kept). find k.id ks ≡ Some k) ks (λ i d lt.
    subst (λ (k : Kept). find k.id ks ≡ Some k) (sym (get_or_default ks i d (blank 0) lt))
    (find_at (at ks i).id ks i rising (record { within = lt; has_id = refl })))

-- so those that are ready are those of which something can go
ready_ids : (w : Windows) (all ks : List Kept) → AllByRecursion (λ (k : Kept). find k.id all ≡ Some k) ks
    → filter (λ id. is_ready_if w (find id all)) (map (λ (k : Kept). k.id) ks) ≡ map (λ (k : Kept). k.id) (filter (is_ready w) ks)
ready_ids w all [] found = refl
ready_ids w all (k ∷ ks) found =
    ap (λ o. if is_ready_if w o then k.id ∷ filter (λ id. is_ready_if w (find id all)) (map (λ (x : Kept). x.id) ks) else filter (λ id. is_ready_if w (find id all)) (map (λ (x : Kept). x.id) ks)) found.0
    ∙ by (is_ready w k) (ready_ids w all ks found.1)
  where
    ids : List Kept → List ℕ
    ids xs = map (λ (x : Kept). x.id) xs

    by : (b : Bool) → filter (λ id. is_ready_if w (find id all)) (ids ks) ≡ ids (filter (is_ready w) ks) → (if b then k.id ∷ filter (λ id. is_ready_if w (find id all)) (ids ks) else filter (λ id. is_ready_if w (find id all)) (ids ks)) ≡ ids (if b then k ∷ filter (is_ready w) ks else filter (is_ready w) ks)
    by true rest = ap (λ ns. k.id ∷ ns) rest
    by false rest = rest

ready_is : (w : Windows) (last : ℕ) (ks : List Kept) → AreRising ks → ready w (record { kept = ks; last = last }) ≡ map (λ (k : Kept). k.id) (filter (is_ready w) ks)
ready_is w last ks rising = ready_ids w ks ks (each_found ks rising)

-- among some of them they rise too
pub rising_some : (ks some : List Kept) → AreRising ks → AreAllOffered ks some → AreRising some
rising_some ks some rising all = rising_upto some all.behind (rising_from all.before (some ++ all.behind) (subst AreRising all.is rising))

pub ready_same : (w : Windows) (last : ℕ) (ks some : List Kept) → AreRising ks → AreAllOffered ks some → ready w (record { kept = some; last = last }) ≡ ready w (record { kept = ks; last = last })
ready_same w last ks some rising all =
    let left : filter (is_ready w) ks ≡ filter (is_ready w) some =
    ap (filter (is_ready w)) all.is
    ∙ filter-append (is_ready w) all.before (some ++ all.behind)
    ∙ ap (λ xs. xs ++ filter (is_ready w) (some ++ all.behind)) (none_of w all.before all.none_before)
    ∙ filter-append (is_ready w) some all.behind
    ∙ ap (λ xs. filter (is_ready w) some ++ xs) (none_of w all.behind all.none_behind)
    ∙ append-nil (filter (is_ready w) some) in
    ready_is w last some (rising_some ks some rising all)
    ∙ ap (map (λ (k : Kept). k.id)) (sym left)
    ∙ sym (ready_is w last ks rising)
