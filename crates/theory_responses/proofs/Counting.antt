-- Outboxes are those of the active streams, one for each, in the order in which these were opened.
use Rattle.std.proofs.Common.{◌≡◌, ℕ, Bool, true, false, not, ◌==◌, ◌&&◌, ◌||◌, List, [], ◌∷◌, ◌++◌, map, reverse, refl, sym, ap, ◌∙◌, subst, inl, inr, if◌then◌else◌}
use Rattle.std.specs.Prelude.{Option, Some, None, is_some, filter}
use Rattle.std.specs.List.{list_any}
use Rattle.std.proofs.lemmas.List.{append-nil, reverse-append, map-append}
use Rattle.std.proofs.lemmas.Bool.{eq-eqb, ne_eqb, and_right, or_parts, or_from, or_right}
use Rattle.std.proofs.lemmas.Bool.Decides.{eqb_tells}
use Rattle.std.proofs.Math.Bool.{and-true}
use Rattle.model.specs.Tapes.{Noted, Entry, came}
use Rattle.model.specs.Tapes.Entry.{Came, Sent}
use Rattle.model.specs.Frames.{rst_stream_kind}
use Rattle.model.specs.Decoding.{completed}
use Rattle.model.specs.Logs.Act.{Open, ToUp, Close, CloseClient}
use Rattle.model.specs.Known.{Known}
use Rattle.model.specs.Causes.Cause.{BadAnswer}
use Rattle.model.specs.Lifetimes.{opened, opens_by, is_opened, is_over, is_active, active, is_drained}
use Rattle.model.proofs.OpenedLaws.{opens_new}
use Rattle.model.proofs.ActiveLaws.{active_beside, active_control, active_came}
use Rattle.theory_responses.specs.State.{Kept, State, Move, find, change, without, unless_over, told, gone, answered, answered_if, blank, with_new, entry_of, after, state_of}
use Rattle.theory_responses.specs.State.Move.{Takes, Breaks, Notes, Hears, Fails, Idles, Goes, Sends, Acts}
use Rattle.theory_responses.specs.Policy.{Holds, IsOpened}
use Rattle.theory_responses.specs.Rule.{Seen as Step, moves_of, tape_of, AllMayCome, AreRight, AreTold}
use Rattle.theory_responses.specs.Held.{AreDistinct}
use Rattle.theory_responses.proofs.Keeping.{KeepsId, answered_id, answered_if_id}
use Rattle.theory_responses.proofs.Offering.{Offering}
use Rattle.theory_responses.proofs.Ruling.{opened_by_it}
use Rattle.theory_responses.proofs.Allowing.{placed}

-- ---- filters

-- what is no stream that is over
abbrev pub is_left : Bool → ℕ → ℕ → Bool
is_left over id other = not (over && other == id)

-- a filter by both tests is one behind the other
filter_both : (p q : ℕ → Bool) (xs : List ℕ) → filter (λ x. p x && q x) xs ≡ filter q (filter p xs)
filter_both p q [] = refl
filter_both p q (x ∷ xs) = by (p x) (filter_both p q xs)
  where
    by : (b : Bool) → filter (λ x. p x && q x) xs ≡ filter q (filter p xs) → (if b && q x then x ∷ filter (λ x. p x && q x) xs else filter (λ x. p x && q x) xs) ≡ filter q (if b then x ∷ filter p xs else filter p xs)
    by true more = ap (λ ys. if q x then x ∷ ys else ys) more
    by false more = more

-- a filter by tests that agree on the list
filter_agree : (p q : ℕ → Bool) (xs : List ℕ) → ((x : ℕ) → list_any (λ other. other == x) xs ≡ true → p x ≡ q x) → filter p xs ≡ filter q xs
filter_agree p q [] same = refl
filter_agree p q (x ∷ xs) same =
    ap (λ b. if b then x ∷ filter p xs else filter p xs) (same x (ap (λ b. b || list_any (λ other. other == x) xs) (eq-eqb x x refl)))
    ∙ ap (λ ys. if q x then x ∷ ys else ys) (filter_agree p q xs (λ y there. same y (or_right (x == y) (list_any (λ other. other == y) xs) there)))

filter_joined : (p : ℕ → Bool) (xs ys : List ℕ) → filter p (xs ++ ys) ≡ filter p xs ++ filter p ys
filter_joined p [] ys = refl
filter_joined p (x ∷ xs) ys = by (p x) (filter_joined p xs ys)
  where
    by : (b : Bool) → filter p (xs ++ ys) ≡ filter p xs ++ filter p ys → (if b then x ∷ filter p (xs ++ ys) else filter p (xs ++ ys)) ≡ (if b then x ∷ filter p xs else filter p xs) ++ filter p ys
    by true more = ap (λ zs. x ∷ zs) more
    by false more = more

turned : (x : ℕ) (xs : List ℕ) → reverse (x ∷ xs) ≡ reverse xs ++ x ∷ []
turned x xs = reverse-append (x ∷ []) xs

filter_turned : (p : ℕ → Bool) (xs : List ℕ) → filter p (reverse xs) ≡ reverse (filter p xs)
filter_turned p [] = refl
filter_turned p (x ∷ xs) = ap (filter p) (turned x xs) ∙ filter_joined p (reverse xs) (x ∷ []) ∙ ap (λ ys. ys ++ filter p (x ∷ [])) (filter_turned p xs) ∙ by (p x)
  where
    by : (b : Bool) → reverse (filter p xs) ++ (if b then x ∷ [] else []) ≡ reverse (if b then x ∷ filter p xs else filter p xs)
    by true = sym (turned x (filter p xs))
    by false = append-nil (reverse (filter p xs))

filter_all : (id : ℕ) (xs : List ℕ) → filter (is_left false id) xs ≡ xs
filter_all id [] = refl
filter_all id (x ∷ xs) = ap (λ ys. x ∷ ys) (filter_all id xs)

-- ---- the ids that are kept

abbrev pub ids_of : List Kept → List ℕ
ids_of ks = map (λ (k : Kept). k.id) ks

ids_changed : (stream : ℕ) (f : Kept → Kept) (ks : List Kept) → KeepsId f → ids_of (change stream f ks) ≡ ids_of ks
ids_changed stream f [] keeps = refl
ids_changed stream f (k ∷ ks) keeps = by (k.id == stream) (ids_changed stream f ks keeps)
  where
    by : (b : Bool) → ids_of (change stream f ks) ≡ ids_of ks → ids_of (if b then f k ∷ ks else k ∷ change stream f ks) ≡ k.id ∷ ids_of ks
    by true more = ap (λ n. n ∷ ids_of ks) (keeps k)
    by false more = ap (λ ns. k.id ∷ ns) more

ids_without : (stream : ℕ) (ks : List Kept) → ids_of (without stream ks) ≡ filter (is_left true stream) (ids_of ks)
ids_without stream [] = refl
ids_without stream (k ∷ ks) = by (k.id == stream) (ids_without stream ks)
  where
    by : (b : Bool) → ids_of (without stream ks) ≡ filter (is_left true stream) (ids_of ks)
        → ids_of (if b then without stream ks else k ∷ without stream ks) ≡ (if not b then k.id ∷ filter (is_left true stream) (ids_of ks) else filter (is_left true stream) (ids_of ks))
    by true more = more
    by false more = ap (λ ns. k.id ∷ ns) more

ids_unless : (over : Bool) (stream : ℕ) (ks : List Kept) → ids_of (unless_over over stream ks) ≡ filter (is_left over stream) (ids_of ks)
ids_unless true stream ks = ids_without stream ks
ids_unless false stream ks = sym (filter_all stream (ids_of ks))

-- ---- which streams are active

-- the streams that were opened and are active
active_by : (t : List Entry) → active t ≡ filter (λ id. is_active id t) (opened t)
active_by t = filter_agree (λ id. not (is_over id t)) (λ id. is_active id t) (opened t) (λ id there. ap (λ b. b && not (is_over id t)) (sym there))

module _ (t u : List Entry) (over : Bool) (id : ℕ) (here : is_active id u ≡ (is_active id t && not over)) (there : (other : ℕ) → (id ≡ other → ⊥) → is_active other u ≡ is_active other t) where
  -- one stream may be over, and the others stay
  active_left : (other : ℕ) → is_active other u ≡ (is_active other t && is_left over id other)
  active_left other = elim (eqb_tells other id) [
    | inl x ↦ ap (λ n. is_active n u) x.1 ∙ here ∙ ap (λ n. is_active n t && not over) (sym x.1) ∙ ap (λ b. is_active other t && not b) (sym (and-true over)) ∙ ap (λ b. is_active other t && not (over && b)) (sym x.0)
    | inr x ↦ there other (λ e. x.1 (sym e)) ∙ sym (and-true (is_active other t)) ∙ ap (λ b. is_active other t && not b) (sym (and_right over false refl)) ∙ ap (λ b. is_active other t && not (over && b)) (sym x.0)
  ]

  -- where none is opened
  active_filtered : filter (λ x. is_active x u) (opened t) ≡ filter (is_left over id) (active t)
  active_filtered =
      filter_agree (λ x. is_active x u) (λ x. is_active x t && is_left over id x) (opened t) (λ x in_it. active_left x)
      ∙ filter_both (λ x. is_active x t) (is_left over id) (opened t) ∙ ap (filter (is_left over id)) (sym (active_by t))

  active_same : opened u ≡ opened t → active u ≡ filter (is_left over id) (active t)
  active_same same = active_by u ∙ ap (filter (λ x. is_active x u)) same ∙ active_filtered

-- ---- each move

-- The outboxes are those of the active streams, in the order in which they were opened.
abbrev pub AreOfActive : List Entry → List Kept → Type 0
AreOfActive t ks = ids_of ks ≡ reverse (active t)

module _ (known : Known) (t u : List Entry) (s : State) (ks : List Kept) (h : AreOfActive t s.kept) where
  -- a stream that is over goes
  ids_go : (over : Bool) (id : ℕ) → ids_of ks ≡ ids_of s.kept → active u ≡ filter (is_left over id) (active t) → AreOfActive u (unless_over over id ks)
  ids_go over id same fewer = ids_unless over id ks ∙ ap (filter (is_left over id)) (same ∙ h) ∙ filter_turned (is_left over id) (active t) ∙ ap reverse (sym fewer)

-- a frame of the client
module _ (known : Known) (t : List Entry) (s : State) (noted : Noted) (over : Bool) (offering : Offering known t s) (h : AreOfActive t s.kept) where
  abbrev u : List Entry
  u = Came noted ∷ t

  abbrev own : ℕ
  own = noted.frame.id

  abbrev opens_it : Bool
  opens_it = opens_by (is_drained t) (opened t) (completed (came t) noted.frame) noted.note

  -- it opens no stream that is active
  none_opened : is_active own u ≡ (is_active own t && not over) → (b : Bool) → opens_it ≡ b → filter (λ x. is_active x u) (if b then own ∷ opened t else opened t) ≡ filter (λ x. is_active x u) (opened t)
  none_opened here false e = refl
  none_opened here true e =
      let off : is_active own u ≡ false = here ∙ ap (λ b. (b && not (is_over own t)) && not over) (opens_new t noted e) in
      ap (λ b. if b then own ∷ filter (λ x. is_active x u) (opened t) else filter (λ x. is_active x u) (opened t)) off

  -- the stream stays, or is over
  took_old : is_active own u ≡ (is_active own t && not over) → active u ≡ filter (is_left over own) (active t)
  took_old here = active_by u ∙ none_opened here opens_it refl ∙ active_filtered t u over own here (active_came t noted)

  -- the stream is new
  took_new : find own s.kept ≡ None → is_active own u ≡ true → active u ≡ own ∷ active t
  took_new not_kept on =
      let off : is_active own t ≡ false = sym (offering.lives own) ∙ ap (λ o. is_some o) not_kept in
      let opens : opens_it ≡ true = opened_by_it t noted off on in
      let out : is_opened own t ≡ false = opens_new t noted opens in
      active_by u ∙ ap (λ b. filter (λ x. is_active x u) (if b then own ∷ opened t else opened t)) opens
      ∙ ap (λ b. if b then own ∷ filter (λ x. is_active x u) (opened t) else filter (λ x. is_active x u) (opened t)) on
      ∙ ap (λ xs. own ∷ xs) (filter_agree (λ x. is_active x u) (λ x. is_active x t) (opened t) (λ x there. active_came t noted x (λ e. apart x out there e)) ∙ sym (active_by t))
    where
      apart : (x : ℕ) → is_opened own t ≡ false → list_any (λ other. other == x) (opened t) ≡ true → own ≡ x → ⊥
      apart x out there e = let clash : true ≡ false = sym there ∙ ap (λ n. is_opened n t) (sym e) ∙ out in cc

  ids_taken : (caused : Kept → Kept) → KeepsId caused → (opens : Bool) → IsOpened known t s noted opens over → AreOfActive u (unless_over over own (change own caused (with_new opens own s.kept)))
  ids_taken caused keeps false old = ids_go known t u s (change own caused s.kept) h over own (ids_changed own caused s.kept keeps) (took_old old)
  ids_taken caused keeps true new =
      ap (λ b. ids_of (unless_over b own (change own caused (s.kept ++ blank own ∷ [])))) new.1 ∙ ids_changed own caused (s.kept ++ blank own ∷ []) keeps
      ∙ map-append (λ (k : Kept). k.id) s.kept (blank own ∷ []) ∙ ap (λ xs. xs ++ own ∷ []) h ∙ sym (turned own (active t)) ∙ ap reverse (sym (took_new new.0.not_kept new.2))

-- Each move that is allowed keeps it so.
next_active : (known : Known) (t : List Entry) (s : State) (m : Move) → Offering known t s → Holds known t s m → AreOfActive t s.kept → AreOfActive (entry_of m ∷ t) (after s m).kept
next_active known t s (Takes noted change) offering holds h = ids_taken known t s noted change.over offering h (answered_if change.caused) (answered_if_id change.caused) change.opens holds.opened
next_active known t s (Breaks breach) offering holds h = h
next_active known t s (Notes event) offering holds h = h
next_active known t s (Hears event stream news) offering holds h = ids_changed stream (told news) s.kept (λ k. refl) ∙ h
next_active known t s (Fails event stream) offering holds h = ids_changed stream (answered BadAnswer) s.kept (answered_id BadAnswer) ∙ h
next_active known t s (Idles event) offering holds h = h
next_active known t s (Goes noted item part over) offering holds h =
    let on : is_active noted.frame.id t ≡ true = sym (offering.lives noted.frame.id) ∙ ap (λ o. is_some o) holds.0.found in
    ids_go known t (Sent noted ∷ t) s (change noted.frame.id (gone part) s.kept) h over noted.frame.id (ids_changed noted.frame.id (gone part) s.kept (λ k. refl))
    (active_same t (Sent noted ∷ t) over noted.frame.id (holds.1.active ∙ ap (λ b. b && not over) (sym on)) (active_beside t noted) refl)
next_active known t s (Sends noted) offering holds h =
    ids_go known t (Sent noted ∷ t) s s.kept h (noted.frame.kind == rst_stream_kind) noted.frame.id refl
    (active_same t (Sent noted ∷ t) (noted.frame.kind == rst_stream_kind) noted.frame.id (active_control t noted holds.no_block holds.no_data) (active_beside t noted) refl)
next_active known t s (Acts (Open k route)) offering holds h = h
next_active known t s (Acts (ToUp k octets)) offering holds h = h
next_active known t s (Acts (Close k)) offering holds h = h
next_active known t s (Acts CloseClient) offering holds h = h

-- Behind runs by the rule the outboxes are those of the active streams.
pub are_of_active : (known : Known) (run : List Step) → AllMayCome run → AreRight known run → AreTold known run → AreOfActive (tape_of run) (state_of (moves_of run)).kept
are_of_active known [] may right told = refl
are_of_active known (x ∷ run) may right told =
    let old = placed known run may.0 right.0 told.0 in
    let new = placed known (x ∷ run) may right told in
    next_active known (tape_of run) (state_of (moves_of run)) x.move old.1.offering new.0.2 (are_of_active known run may.0 right.0 told.0)

-- ---- none has two

-- the stream isn't among those that are found
none_among : (stream : ℕ) (ks : List Kept) → find stream ks ≡ None → list_any (λ other. other == stream) (ids_of ks) ≡ false
none_among stream [] none = refl
none_among stream (k ∷ ks) none = by (k.id == stream) none (none_among stream ks)
  where
    by : (b : Bool) → (if b then Some k else find stream ks) ≡ None → (find stream ks ≡ None → list_any (λ other. other == stream) (ids_of ks) ≡ false) → (b || list_any (λ other. other == stream) (ids_of ks)) ≡ false
    by true e more = let clash : ◌≡◌ {A = Option Kept} (Some k) None = e in cc
    by false e more = more e

none_filtered : (p : ℕ → Bool) (id : ℕ) (xs : List ℕ) → list_any (λ other. other == id) xs ≡ false → list_any (λ other. other == id) (filter p xs) ≡ false
none_filtered p id [] none = refl
none_filtered p id (x ∷ xs) none = by (p x) (or_parts (x == id) (list_any (λ other. other == id) xs) none) (none_filtered p id xs)
  where
    by : (b : Bool) → ((x == id) ≡ false) × (list_any (λ other. other == id) xs ≡ false) → (list_any (λ other. other == id) xs ≡ false → list_any (λ other. other == id) (filter p xs) ≡ false)
        → list_any (λ other. other == id) (if b then x ∷ filter p xs else filter p xs) ≡ false
    by true parts more = or_from (x == id) (list_any (λ other. other == id) (filter p xs)) parts.0 (more parts.1)
    by false parts more = more parts.1

distinct_filtered : (p : ℕ → Bool) (xs : List ℕ) → AreDistinct xs → AreDistinct (filter p xs)
distinct_filtered p [] d = tt
distinct_filtered p (x ∷ xs) d = by (p x) (distinct_filtered p xs d.1)
  where
    by : (b : Bool) → AreDistinct (filter p xs) → AreDistinct (if b then x ∷ filter p xs else filter p xs)
    by true more = (none_filtered p x xs d.0, more)
    by false more = more

none_behind : (id last : ℕ) (xs : List ℕ) → list_any (λ other. other == id) xs ≡ false → (last == id) ≡ false → list_any (λ other. other == id) (xs ++ last ∷ []) ≡ false
none_behind id last [] none apart = or_from (last == id) false apart refl
none_behind id last (x ∷ xs) none apart =
    let parts = or_parts (x == id) (list_any (λ other. other == id) xs) none in
    or_from (x == id) (list_any (λ other. other == id) (xs ++ last ∷ [])) parts.0 (none_behind id last xs parts.1 apart)

distinct_more : (id : ℕ) (xs : List ℕ) → AreDistinct xs → list_any (λ other. other == id) xs ≡ false → AreDistinct (xs ++ id ∷ [])
distinct_more id [] d none = (refl, tt)
distinct_more id (x ∷ xs) d none =
    let parts = or_parts (x == id) (list_any (λ other. other == id) xs) none in (
      none_behind x id xs d.0 (elim (eqb_tells x id) [
        | inl e ↦ (let clash : true ≡ false = sym e.0 ∙ parts.0 in cc)
        | inr e ↦ ne_eqb id x (λ same. e.1 (sym same))
      ]),
      distinct_more id xs d.1 parts.1,
    )

distinct_left : (over : Bool) (id : ℕ) (ks olds : List Kept) → ids_of ks ≡ ids_of olds → AreDistinct (ids_of olds) → AreDistinct (ids_of (unless_over over id ks))
distinct_left over id ks olds same d = subst AreDistinct (sym (ids_unless over id ks ∙ ap (filter (is_left over id)) same)) (distinct_filtered (is_left over id) (ids_of olds) d)

distinct_taken : (known : Known) (t : List Entry) (s : State) (noted : Noted) (over : Bool) (caused : Kept → Kept) → KeepsId caused → (opens : Bool) → IsOpened known t s noted opens over → AreDistinct (ids_of s.kept)
    → AreDistinct (ids_of (unless_over over noted.frame.id (change noted.frame.id caused (with_new opens noted.frame.id s.kept))))
distinct_taken known t s noted over caused keeps false old d = distinct_left over noted.frame.id (change noted.frame.id caused s.kept) s.kept (ids_changed noted.frame.id caused s.kept keeps) d
distinct_taken known t s noted over caused keeps true new d =
    let more : AreDistinct (ids_of (s.kept ++ blank noted.frame.id ∷ [])) =
    subst AreDistinct (sym (map-append (λ (k : Kept). k.id) s.kept (blank noted.frame.id ∷ []))) (distinct_more noted.frame.id (ids_of s.kept) d (none_among noted.frame.id s.kept new.0.not_kept)) in
    distinct_left over noted.frame.id (change noted.frame.id caused (s.kept ++ blank noted.frame.id ∷ [])) (s.kept ++ blank noted.frame.id ∷ []) (ids_changed noted.frame.id caused (s.kept ++ blank noted.frame.id ∷ []) keeps) more

next_distinct : (known : Known) (t : List Entry) (s : State) (m : Move) → Holds known t s m → AreDistinct (ids_of s.kept) → AreDistinct (ids_of (after s m).kept)
next_distinct known t s (Takes noted c) holds d = distinct_taken known t s noted c.over (answered_if c.caused) (answered_if_id c.caused) c.opens holds.opened d
next_distinct known t s (Breaks breach) holds d = d
next_distinct known t s (Notes event) holds d = d
next_distinct known t s (Hears event stream news) holds d = subst AreDistinct (sym (ids_changed stream (told news) s.kept (λ k. refl))) d
next_distinct known t s (Fails event stream) holds d = subst AreDistinct (sym (ids_changed stream (answered BadAnswer) s.kept (answered_id BadAnswer))) d
next_distinct known t s (Idles event) holds d = d
next_distinct known t s (Goes noted item part over) holds d = distinct_left over noted.frame.id (change noted.frame.id (gone part) s.kept) s.kept (ids_changed noted.frame.id (gone part) s.kept (λ k. refl)) d
next_distinct known t s (Sends noted) holds d = distinct_left (noted.frame.kind == rst_stream_kind) noted.frame.id s.kept s.kept refl d
next_distinct known t s (Acts act) holds d = d

-- No stream has two outboxes.
pub are_distinct : (known : Known) (run : List Step) → AllMayCome run → AreRight known run → AreTold known run → AreDistinct (ids_of (state_of (moves_of run)).kept)
are_distinct known [] may right told = tt
are_distinct known (x ∷ run) may right told =
    next_distinct known (tape_of run) (state_of (moves_of run)) x.move (placed known (x ∷ run) may right told).0.2 (are_distinct known run may.0 right.0 told.0)
