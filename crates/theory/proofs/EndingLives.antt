-- Just the active streams are kept of responses, and open connections have numbers of their own: whatever was told of answers.
use Rattle.std.proofs.Common.{◌≡◌, ℕ, suc, ◌≤◌, Bool, true, false, not, ◌==◌, ◌&&◌, List, [], ◌∷◌, ◌++◌, map, refl, sym, ap, ◌∙◌, subst, inl, inr, arith, if◌then◌else◌}
use Rattle.std.specs.Prelude.{Option, Some, None, is_some}
use Rattle.std.proofs.lemmas.Bool.{eq-eqb, ne_eqb, and_right}
use Rattle.std.proofs.lemmas.Bool.Decides.{eqb_tells}
use Rattle.model.specs.Frames.{rst_stream_kind, ends_headers}
use Rattle.model.specs.Tapes.{Noted, Entry}
use Rattle.model.specs.Tapes.Entry.{Came, Sent}
use Rattle.model.specs.Decoding.{joined}
use Rattle.model.specs.Known.{Known}
use Rattle.model.specs.Lifetimes.{is_active}
use Rattle.model.specs.Causes.{Cause}
use Rattle.model.specs.Causes.Cause.{BadAnswer}
use Rattle.model.specs.Courses.{upstream_of}
use Rattle.model.specs.Logs.{Act}
use Rattle.model.specs.Logs.Act.{Open, ToUp, Close, CloseClient}
use Rattle.model.specs.Setup.{Setup}
use Rattle.model.proofs.ActiveLaws.{active_beside, active_control, active_came}
use Rattle.theory_responses.specs.State.{Kept, State, Change, Move, find, change, unless_over, told, gone, answered, answered_if, with_new, entry_of, after, state_of}
use Rattle.theory_responses.specs.State.Move.{Takes, Breaks, Notes, Hears, Fails, Idles, Goes, Sends, Acts}
use Rattle.theory_responses.specs.Sight.{Sight, IsRightOf}
use Rattle.theory_responses.specs.Rule.{Seen, MayCome, moves_of, tape_of, sight_of, AllMayCome, AreRight, change_by}
use Rattle.theory_responses.proofs.Keeping.{KeepsId, answered_id, answered_if_id, find_changed, find_other, find_new, find_old, find_beside, some_mapped, some_unless}
use Rattle.theory_responses.proofs.Allowing.{last_right}
use Rattle.theory_requests.specs.Lines.{Line, k_of, line_of, without, with_answer, answer_by, idle_beside, given_to}
use Rattle.theory_requests.specs.Lines.Answer.{Pending}
use Rattle.theory_requests.specs.State as theory_requests
use Rattle.theory_requests.specs.State.{Due, Turn}
use Rattle.theory_requests.specs.State.Due.{Nothing, ToOpen, ToUse, ToSend}
use Rattle.theory_requests.specs.Rule.{MayAct, MayMove, told_of, AreAllowed}
use Rattle.theory_requests.specs.Told.{Told}

-- ---- streams

abbrev pub AreActive : List Entry → List Kept → Type 0
AreActive t ks = (stream : ℕ) → is_some (find stream ks) ≡ is_active stream t

-- a stream that is found has its id
pub found_id : (stream : ℕ) (ks : List Kept) (k : Kept) → find stream ks ≡ Some k → k.id ≡ stream
found_id stream [] k e = let clash : ◌≡◌ {A = Option Kept} None (Some k) = e in cc
found_id stream (x ∷ ks) k e = elim (eqb_tells x.id stream) [
  | inl y ↦ (let is : Some x ≡ Some k = sym (ap (λ b. if b then Some x else find stream ks) y.0) ∙ e in let same : x ≡ k = cc in ap (λ (z : Kept). z.id) (sym same) ∙ y.1)
  | inr y ↦ found_id stream ks k (sym (ap (λ b. if b then Some x else find stream ks) y.0) ∙ e)
]

-- one stream changes, and keeps its id
some_changed : (stream : ℕ) (f : Kept → Kept) (ks : List Kept) → KeepsId f → (other : ℕ) → is_some (find other (change stream f ks)) ≡ is_some (find other ks)
some_changed stream f ks keeps other = elim (eqb_tells stream other) [
  | inl x ↦ subst (λ n. is_some (find n (change stream f ks)) ≡ is_some (find n ks)) x.1 (ap (λ o. is_some o) (find_changed stream f ks keeps) ∙ some_mapped f (find stream ks))
  | inr x ↦ ap (λ o. is_some o) (find_other stream other f ks keeps x.1)
]

-- a stream goes where it is over, and the others stay
goes_if : (u : List Entry) (id : ℕ) (ks : List Kept) (over : Bool) → (is_some (find id ks) && not over) ≡ is_active id u → ((stream : ℕ) → (id ≡ stream → ⊥) → is_some (find stream ks) ≡ is_active stream u) → AreActive u (unless_over over id ks)
goes_if u id ks over here there stream = elim (eqb_tells id stream) [
  | inl x ↦ subst (λ n. is_some (find n (unless_over over id ks)) ≡ is_active n u) x.1 (some_unless over id ks ∙ here)
  | inr x ↦ ap (λ o. is_some o) (find_beside over id stream ks x.1) ∙ there stream x.1
]

none_there : {A : Type 0} (o : Option A) → is_some o ≡ false → o ≡ None
none_there None e = refl
none_there (Some x) e = let clash : true ≡ false = e in cc

-- a frame of the client, by whether its stream is active before and behind
takes_one : (t : List Entry) (noted : Noted) (ks : List Kept) (caused : Option Cause) (a b : Bool) → a ≡ is_active noted.frame.id t → b ≡ is_active noted.frame.id (Came noted ∷ t) → AreActive t ks
    → AreActive (Came noted ∷ t) (unless_over (a && not b) noted.frame.id (change noted.frame.id (answered_if caused) (with_new (not a && b) noted.frame.id ks)))
takes_one t noted ks caused a b was is h =
    goes_if (Came noted ∷ t) id (change id (answered_if caused) (with_new (not a && b) id ks)) (a && not b)
    (ap (λ x. x && not (a && not b)) (some_changed id (answered_if caused) (with_new (not a && b) id ks) (answered_if_id caused) id) ∙ here a b was is)
    (λ stream apart. some_changed id (answered_if caused) (with_new (not a && b) id ks) (answered_if_id caused) stream ∙ ap (λ o. is_some o) (beside (not a && b) stream apart) ∙ h stream ∙ sym (active_came t noted stream apart))
  where
    id : ℕ
    id = noted.frame.id

    beside : (opens : Bool) (stream : ℕ) → (id ≡ stream → ⊥) → find stream (with_new opens id ks) ≡ find stream ks
    beside true stream apart = find_old id stream ks apart
    beside false stream apart = refl

    here : (a b : Bool) → a ≡ is_active id t → b ≡ is_active id (Came noted ∷ t) → (is_some (find id (with_new (not a && b) id ks)) && not (a && not b)) ≡ is_active id (Came noted ∷ t)
    here true true was is = ap (λ x. x && true) (h id ∙ sym was) ∙ is
    here true false was is = and_right (is_some (find id ks)) false refl ∙ is
    here false true was is = ap (λ o. is_some o && true) (find_new id ks (none_there (find id ks) (h id ∙ sym was))) ∙ is
    here false false was is = ap (λ x. x && true) (h id ∙ sym was) ∙ is

module _ (known : Known) (t : List Entry) (s : State) (h : AreActive t s.kept) (before behind : Sight) (right : IsRightOf known t before) where
  pub lives_behind : (m : Move) → IsRightOf known (entry_of m ∷ t) behind → MayCome before behind s m → AreActive (entry_of m ∷ t) (after s m).kept
  lives_behind (Takes noted c) now may =
      subst (λ (x : Change). AreActive (Came noted ∷ t) (after s (Takes noted x)).kept) (sym may.2)
      (takes_one t noted s.kept (change_by before behind noted.frame.id).caused (before.active noted.frame.id) (behind.active noted.frame.id) (right.active noted.frame.id) (now.active noted.frame.id) h)
  lives_behind (Breaks breach) now may = h
  lives_behind (Notes event) now may = h
  lives_behind (Hears event stream news) now may = λ other. some_changed stream (told news) s.kept (λ k. refl) other ∙ h other
  lives_behind (Fails event stream) now may = λ other. some_changed stream (answered BadAnswer) s.kept (answered_id BadAnswer) other ∙ h other
  lives_behind (Idles event) now may = h
  lives_behind (Goes noted item part over) now may =
      goes_if (Sent noted ∷ t) noted.frame.id (change noted.frame.id (gone part) s.kept) over
      (ap (λ b. b && not over) (some_changed noted.frame.id (gone part) s.kept (λ k. refl) noted.frame.id ∙ ap (λ o. is_some o) may.0.found) ∙ sym may.1.active ∙ now.active noted.frame.id)
      (λ other apart. some_changed noted.frame.id (gone part) s.kept (λ k. refl) other ∙ h other ∙ sym (active_beside t noted other apart))
  lives_behind (Sends noted) now may =
      goes_if (Sent noted ∷ t) noted.frame.id s.kept (noted.frame.kind == rst_stream_kind)
      (ap (λ b. b && not (noted.frame.kind == rst_stream_kind)) (h noted.frame.id)
      ∙ sym (active_control t noted (sym (ap (λ b. if ends_headers noted.frame then joined b noted.frame else None) right.block) ∙ may.no_block) may.no_data))
      (λ other apart. h other ∙ sym (active_beside t noted other apart))
  lives_behind (Acts act) now may = h

-- Just the active streams are kept.
pub all_active : (known : Known) (run : List Seen) → AllMayCome run → AreRight known run → AreActive (tape_of run) (state_of (moves_of run)).kept
all_active known [] may right = λ stream. refl
all_active known (x ∷ run) may right =
    lives_behind known (tape_of run) (state_of (moves_of run)) (all_active known run may.0 right.0) (sight_of run) x.sight (last_right known run right.0) x.move right.1 may.1

-- ---- connections

-- each number stands once
abbrev pub AreApart : List Line → Type 0
AreApart [] = Unit {0}
AreApart (l ∷ ls) = (line_of l.k ls ≡ None) × AreApart ls

-- they are no higher than this
abbrev AreBelow : ℕ → List Line → Type 0
AreBelow n [] = Unit {0}
AreBelow n (l ∷ ls) = (l.k ≤ n) × AreBelow n ls

below_more : (n : ℕ) (ls : List Line) → AreBelow n ls → AreBelow (suc n) ls
below_more n [] b = tt
below_more n (l ∷ ls) b = (let under = b.0 in omega (arith, under), below_more n ls b.1)

none_above : (n : ℕ) (ls : List Line) → AreBelow n ls → line_of (suc n) ls ≡ None
none_above n [] b = refl
none_above n (l ∷ ls) b = ap (λ x. if x then Some l else line_of (suc n) ls) (ne_eqb l.k (suc n) (λ e. let under = b.0 in omega (arith, e, under))) ∙ none_above n ls b.1

-- where a number isn't there, nothing goes with it
pub without_none : (k : ℕ) (ls : List Line) → line_of k ls ≡ None → without k_of k ls ≡ ls
without_none k [] e = refl
without_none k (l ∷ ls) e = by (l.k == k) e (without_none k ls)
  where
    by : (b : Bool) → (if b then Some l else line_of k ls) ≡ None → (line_of k ls ≡ None → without k_of k ls ≡ ls) → (if b then without k_of k ls else l ∷ without k_of k ls) ≡ l ∷ ls
    by true none more = let clash : ◌≡◌ {A = Option Line} (Some l) None = none in cc
    by false none more = ap (λ (xs : List Line). l ∷ xs) (more none)

-- where a number is in neither part, it is in neither
none_in_parts : (k : ℕ) (xs ys : List Line) → line_of k (xs ++ ys) ≡ None → (line_of k xs ≡ None) × (line_of k ys ≡ None)
none_in_parts k [] ys e = (refl, e)
none_in_parts k (x ∷ xs) ys e = by (x.k == k) e (none_in_parts k xs ys)
  where
    by : (b : Bool) → (if b then Some x else line_of k (xs ++ ys)) ≡ None → (line_of k (xs ++ ys) ≡ None → (line_of k xs ≡ None) × (line_of k ys ≡ None)) → ((if b then Some x else line_of k xs) ≡ None) × (line_of k ys ≡ None)
    by true none more = let clash : ◌≡◌ {A = Option Line} (Some x) None = none in cc
    by false none more = more none

-- ---- the last of some connections, which has a number of its own

module _ (l : Line) where
  pub last_found : (xs : List Line) → line_of l.k xs ≡ None → line_of l.k (xs ++ l ∷ []) ≡ Some l
  last_found [] none = ap (λ b. if b then Some l else None) (eq-eqb l.k l.k refl)
  last_found (x ∷ xs) none = by (x.k == l.k) none (last_found xs)
    where
      by : (b : Bool) → (if b then Some x else line_of l.k xs) ≡ None → (line_of l.k xs ≡ None → line_of l.k (xs ++ l ∷ []) ≡ Some l) → (if b then Some x else line_of l.k (xs ++ l ∷ [])) ≡ Some l
      by true none more = let clash : ◌≡◌ {A = Option Line} (Some x) None = none in cc
      by false none more = more none

  pub last_goes : (xs : List Line) → line_of l.k xs ≡ None → without k_of l.k (xs ++ l ∷ []) ≡ xs
  last_goes [] none = ap (λ b. if b then [] else l ∷ []) (eq-eqb l.k l.k refl)
  last_goes (x ∷ xs) none = by (x.k == l.k) none (last_goes xs)
    where
      by : (b : Bool) → (if b then Some x else line_of l.k xs) ≡ None → (line_of l.k xs ≡ None → without k_of l.k (xs ++ l ∷ []) ≡ xs) → (if b then without k_of l.k (xs ++ l ∷ []) else x ∷ without k_of l.k (xs ++ l ∷ [])) ≡ x ∷ xs
      by true none more = let clash : ◌≡◌ {A = Option Line} (Some x) None = none in cc
      by false none more = ap (λ (ls : List Line). x ∷ ls) (more none)

  differs : (x : Line) → line_of x.k (l ∷ []) ≡ None → (x.k == l.k) ≡ false
  differs x none = elim (eqb_tells x.k l.k) [
    | inl y ↦ (let found : line_of x.k (l ∷ []) ≡ Some l = ap (λ b. if b then Some l else None) (eq-eqb l.k x.k (sym y.1)) in let clash : ◌≡◌ {A = Option Line} (Some l) None = sym found ∙ none in cc)
    | inr y ↦ y.0
  ]

  pub last_apart : (xs : List Line) → AreApart (xs ++ l ∷ []) → (line_of l.k xs ≡ None) × AreApart xs
  last_apart [] apart = (refl, tt)
  last_apart (x ∷ xs) apart =
      let parts = none_in_parts x.k xs (l ∷ []) apart.0 in
      let more = last_apart xs apart.1 in
      (ap (λ b. if b then Some x else line_of l.k xs) (differs x parts.1) ∙ more.0, (parts.0, more.1))

-- What is kept of connections, and how many were opened.
record AreNumbered (ls : List Line) (count : ℕ) : Type 0 where
  pub apart : AreApart ls
  pub below : AreBelow count ls

none_without : (j k : ℕ) (ls : List Line) → line_of j ls ≡ None → line_of j (without k_of k ls) ≡ None
none_without j k [] e = refl
none_without j k (l ∷ ls) e = by (l.k == k) (l.k == j) refl e (none_without j k ls)
  where
    by : (b c : Bool) → (l.k == j) ≡ c → (if c then Some l else line_of j ls) ≡ None → (line_of j ls ≡ None → line_of j (without k_of k ls) ≡ None) → line_of j (if b then without k_of k ls else l ∷ without k_of k ls) ≡ None
    by b true is none more = let clash : ◌≡◌ {A = Option Line} (Some l) None = none in cc
    by true false is none more = more none
    by false false is none more = ap (λ x. if x then Some l else line_of j (without k_of k ls)) is ∙ more none

apart_without : (k : ℕ) (ls : List Line) → AreApart ls → AreApart (without k_of k ls)
apart_without k [] a = tt
apart_without k (l ∷ ls) a = by (l.k == k) (apart_without k ls a.1)
  where
    by : (b : Bool) → AreApart (without k_of k ls) → AreApart (if b then without k_of k ls else l ∷ without k_of k ls)
    by true more = more
    by false more = (none_without l.k k ls a.0, more)

below_without : (n k : ℕ) (ls : List Line) → AreBelow n ls → AreBelow n (without k_of k ls)
below_without n k [] b = tt
below_without n k (l ∷ ls) b = by (l.k == k) (below_without n k ls b.1)
  where
    by : (x : Bool) → AreBelow n (without k_of k ls) → AreBelow n (if x then without k_of k ls else l ∷ without k_of k ls)
    by true more = more
    by false more = (b.0, more)

-- what changes connections keeps their numbers
abbrev KeepsNumber : (Line → Line) → Type 0
KeepsNumber f = (l : Line) → (f l).k ≡ l.k

none_changed : (f : Line → Line) (j : ℕ) (ls : List Line) → KeepsNumber f → line_of j ls ≡ None → line_of j (map f ls) ≡ None
none_changed f j [] keeps e = refl
none_changed f j (l ∷ ls) keeps e = ap (λ n. if n == j then Some (f l) else line_of j (map f ls)) (keeps l) ∙ by (l.k == j) e (none_changed f j ls keeps)
  where
    by : (b : Bool) → (if b then Some l else line_of j ls) ≡ None → (line_of j ls ≡ None → line_of j (map f ls) ≡ None) → (if b then Some (f l) else line_of j (map f ls)) ≡ None
    by true none more = let clash : ◌≡◌ {A = Option Line} (Some l) None = none in cc
    by false none more = more none

apart_changed : (f : Line → Line) (ls : List Line) → KeepsNumber f → AreApart ls → AreApart (map f ls)
apart_changed f [] keeps a = tt
apart_changed f (l ∷ ls) keeps a = (ap (λ n. line_of n (map f ls)) (keeps l) ∙ none_changed f l.k ls keeps a.0, apart_changed f ls keeps a.1)

below_changed : (f : Line → Line) (n : ℕ) (ls : List Line) → KeepsNumber f → AreBelow n ls → AreBelow n (map f ls)
below_changed f n [] keeps b = tt
below_changed f n (l ∷ ls) keeps b = (subst (λ k. k ≤ n) (sym (keeps l)) b.0, below_changed f n ls keeps b.1)

changed : (f : Line → Line) (n : ℕ) (ls : List Line) → KeepsNumber f → AreNumbered ls n → AreNumbered (map f ls) n
changed f n ls keeps h = record { apart = apart_changed f ls keeps h.apart; below = below_changed f n ls keeps h.below }

module _ (setup : Setup) (before behind : Told) (s : theory_requests.State) (h : AreNumbered s.live s.count) where
  acted : (act : Act) → MayAct before s act → AreNumbered (theory_requests.live_acted s.live s.due act) (theory_requests.count_after s.count (theory_requests.Move.Acts act))
  acted (Open k route) may =
      subst (λ n. AreNumbered (record { k = n; route = route; stream = theory_requests.due_stream s.due; answer = Pending } ∷ s.live) (suc s.count)) (sym may.next)
      (record { apart = (none_above s.count s.live h.below, h.apart); below = (omega arith, below_more s.count s.live h.below) })
  acted (ToUp k octets) may = used s.due
    where
      used : (due : Due) → AreNumbered (theory_requests.lines_used due s.live) s.count
      used (ToUse j stream text stage) = changed (given_to j stream) s.count s.live (λ l. refl) h
      used Nothing = h
      used (ToOpen stream route text stage) = h
      used (ToSend j text) = h
  acted (Close k) may = record { apart = apart_without k s.live h.apart; below = below_without s.count k s.live h.below }
  acted CloseClient may = h

  numbered_behind : (m : theory_requests.Move) → MayMove setup before behind s m → AreNumbered (theory_requests.live_after setup s.live s.due m) (theory_requests.count_after s.count m)
  numbered_behind (theory_requests.Move.Takes noted) may = h
  numbered_behind (theory_requests.Move.Begins noted head ended route text stage) may = h
  numbered_behind (theory_requests.Move.Gathers noted item route text old body written stage) may = h
  numbered_behind (theory_requests.Move.Passes noted item k old written stage) may = h
  numbered_behind (theory_requests.Move.Drops noted item) may = h
  numbered_behind (theory_requests.Move.Breaks breach) may = h
  numbered_behind (theory_requests.Move.Notes event) may = h
  numbered_behind (theory_requests.Move.Hears event heard) may = changed (with_answer (upstream_of event) (answer_by setup.most_idle (idle_beside (upstream_of event) s.live) heard)) s.count s.live (λ l. refl) h
  numbered_behind (theory_requests.Move.Fails k) may = record { apart = apart_without k s.live h.apart; below = below_without s.count k s.live h.below }
  numbered_behind (theory_requests.Move.Sends noted) may = h
  numbered_behind (theory_requests.Move.Acts act) may = acted act may

all_numbered : (setup : Setup) (turns : List Turn) → AreAllowed setup turns → AreNumbered (theory_requests.state_of setup turns).live (theory_requests.state_of setup turns).count
all_numbered setup [] all = record { apart = tt; below = tt }
all_numbered setup (turn ∷ turns) all =
    numbered_behind setup (told_of turns) turn.told (theory_requests.state_of setup turns) (all_numbered setup turns all.0) turn.move all.1.may

-- Open connections have numbers of their own.
pub all_apart : (setup : Setup) (turns : List Turn) → AreAllowed setup turns → AreApart (theory_requests.state_of setup turns).live
all_apart setup turns all = (all_numbered setup turns all).apart
