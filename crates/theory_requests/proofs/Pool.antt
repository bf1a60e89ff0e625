-- What is kept of open connections has the clauses on them, where it rests.
use Rattle.std.proofs.Common.{◌≡◌, ℕ, suc, ◌≤◌, ◌<◌, nat_lt, Bool, true, false, ◌&&◌, ◌||◌, ◌==◌, List, [], ◌∷◌, map, length, refl, sym, ap, ◌∙◌, subst, inl, inr, arith, if◌then◌else◌}
use Rattle.std.specs.Prelude.{Option, Some, None, ◌⊎◌}
use Rattle.std.specs.List.{list_any}
use Rattle.std.proofs.lemmas.Bool.{eq-eqb, ne_eqb, cases_Bool, and_parts, ltb-true, ltb-false, eqb-true}
use Rattle.std.proofs.lemmas.Bool.Decides.{eqb_tells}
use Rattle.model.specs.Tapes.{Entry}
use Rattle.model.specs.Openings.{exchanges, exchange_on, route_of}
use Rattle.model.specs.Known.{Known}
use Rattle.model.specs.Responses.{H1Response}
use Rattle.model.specs.Available.{heard_by}
use Rattle.model.specs.ProgressClause.{Reason, AreClosed}
use Rattle.model.specs.Idle.{is_asked_for_head, IsAllHeard, MayBeKept, IsIdle, AreIdle, FewAreIdle, NoneIdle, NoneIdleBefore, AreDistinct}
use Rattle.theory_requests.specs.Lines.{Answer, Line, k_of, line_of, is_idle, is_finished, idle_ones, lesser, least_idle}
use Rattle.theory_requests.specs.Pool.{Answers, Keeps}
use Rattle.theory_requests.specs.Lines.Answer.{Pending, Idle, Done}
use Rattle.theory_requests.proofs.Lists.{none_passes}

-- ---- idle connections, by what is kept and by the tape

-- one that is found with its answer idle is among them
pub idle_found : (k : ℕ) (ls : List Line) (l : Line) → line_of k ls ≡ Some l → is_idle l.answer ≡ true → list_any (λ j. j == k) (idle_ones ls) ≡ true
idle_found k [] l e idle = cc
idle_found k (x ∷ xs) l e idle = elim (eqb_tells x.k k) [
  | inl same ↦ (let found : Some x ≡ Some l = sym (ap (λ b. if b then Some x else line_of k xs) same.0) ∙ e in
      let is : x ≡ l = cc in
      ap (λ b. list_any (λ j. j == k) (if b then x.k ∷ idle_ones xs else idle_ones xs)) (ap (λ (y : Line). is_idle y.answer) is ∙ idle) ∙ ap (λ b. b || list_any (λ j. j == k) (idle_ones xs)) same.0)
  | inr apart ↦ by (is_idle x.answer) (idle_found k xs l (sym (ap (λ b. if b then Some x else line_of k xs) apart.0) ∙ e) idle)
]
  where
    by : (b : Bool) → list_any (λ j. j == k) (idle_ones xs) ≡ true → list_any (λ j. j == k) (if b then x.k ∷ idle_ones xs else idle_ones xs) ≡ true
    by true e = more (x.k == k)
      where
        more : (c : Bool) → (c || list_any (λ j. j == k) (idle_ones xs)) ≡ true
        more true = refl
        more false = e
    by false e = e

-- where none is to be closed, one that is found isn't
pub none_finished : (k : ℕ) (ls : List Line) (l : Line) → list_any (λ (x : Line). is_finished x.answer) ls ≡ false → line_of k ls ≡ Some l → is_finished l.answer ≡ false
none_finished k ls l none found = none_passes k_of (λ (x : Line). is_finished x.answer) k ls l none found

-- what was heard of an idle connection is all of a response
pub idle_heard : (known : Known) (t : List Entry) (k : ℕ) → MayBeKept known t (exchange_on k t) → IsAllHeard known t (exchange_on k t)
idle_heard known t k m = (m.answered.response, subst (λ (b : Bool). H1Response (heard_by (exchange_on k t) t) b (is_asked_for_head known (exchange_on k t) t) m.answered.response) (sym m.not_ended) m.answered.reads)

module _ (known : Known) (t : List Entry) (ls : List Line) (h : Keeps known t ls) where
  -- one that is kept as idle is so
  pub is_so_idle : (k : ℕ) (l : Line) → line_of k ls ≡ Some l → l.answer ≡ Idle → IsIdle known t k
  is_so_idle k l found e = record { is_open = (h.are_so k l found).opened; kept = subst (Answers known t k) e (h.are_so k l found).answers }

  module _ (none : list_any (λ (x : Line). is_finished x.answer) ls ≡ false) where
    -- an idle connection of the tape is kept as one
    pub idle_kept : (k : ℕ) → IsIdle known t k → (l : Line) × (line_of k ls ≡ Some l) × (l.answer ≡ Idle)
    idle_kept k i = by (h.all k i.is_open).0.answer refl
      where
        by : (a : Answer) → (h.all k i.is_open).0.answer ≡ a → (l : Line) × (line_of k ls ≡ Some l) × (l.answer ≡ Idle)
        by Pending e = let there = h.all k i.is_open in absurd (subst (Answers known t k) e (h.are_so k there.0 there.1).answers (idle_heard known t k i.kept))
        by Idle e = let there = h.all k i.is_open in (there.0, there.1, e)
        by Done e = let there = h.all k i.is_open in absurd (let clash : true ≡ false = sym (ap is_finished e) ∙ none_finished k ls there.0 none there.1 in cc)

-- ---- no more distinct numbers than there are

abbrev pub IsOne : ℕ → List ℕ → Type 0
IsOne k ks = list_any (λ j. j == k) ks ≡ true

remove : ℕ → List ℕ → List ℕ
remove k [] = []
remove k (j ∷ js) = if j == k then js else j ∷ remove k js

removed_length : (k : ℕ) (js : List ℕ) → IsOne k js → length js ≡ suc (length (remove k js))
unfolding remove
removed_length k [] i = cc
removed_length k (j ∷ js) i = elim (eqb_tells j k) [
  | inl same ↦ sym (ap (λ b. suc (length (if b then js else j ∷ remove k js))) same.0)
  | inr apart ↦ (let more = removed_length k js (sym (ap (λ b. b || list_any (λ n. n == k) js) apart.0) ∙ i) in ap suc more ∙ sym (ap (λ b. suc (length (if b then js else j ∷ remove k js))) apart.0))
]

removed_other : (k n : ℕ) (js : List ℕ) → IsOne n js → (n ≡ k → ⊥) → IsOne n (remove k js)
unfolding remove
removed_other k n [] i apart = i
removed_other k n (j ∷ js) i apart = elim (eqb_tells j k) [
  | inl same ↦ ap (λ b. list_any (λ m. m == n) (if b then js else j ∷ remove k js)) same.0 ∙ (sym (ap (λ b. b || list_any (λ m. m == n) js) (ne_eqb j n (λ e. apart (sym e ∙ same.1)))) ∙ i)
  | inr differs ↦ ap (λ b. list_any (λ m. m == n) (if b then js else j ∷ remove k js)) differs.0 ∙ by (j == n) i (removed_other k n js)
]
  where
    by : (b : Bool) → (b || list_any (λ m. m == n) js) ≡ true → (IsOne n js → (n ≡ k → ⊥) → IsOne n (remove k js)) → (b || list_any (λ m. m == n) (remove k js)) ≡ true
    by true e more = refl
    by false e more = more e apart

one_apart : (k n : ℕ) (ks : List ℕ) → list_any (λ j. j == k) ks ≡ false → IsOne n ks → n ≡ k → ⊥
one_apart k n ks none i e = let clash : true ≡ false = sym i ∙ ap (λ m. list_any (λ j. j == m) ks) e ∙ none in cc

pub few_distinct : (ks js : List ℕ) → AreDistinct ks → ((n : ℕ) → IsOne n ks → IsOne n js) → length ks ≤ length js
few_distinct [] js d all = omega arith
few_distinct (k ∷ ks) js d all =
    let size = removed_length k js (all k (ap (λ b. b || list_any (λ j. j == k) ks) (eq-eqb k k refl))) in
    let more = few_distinct ks (remove k js) d.1 (λ n i. removed_other k n js (all n (or_more (k == n) (list_any (λ j. j == n) ks) i)) (one_apart k n ks d.0 i)) in
    omega (arith, size, more)
  where
    or_more : (a b : Bool) → b ≡ true → (a || b) ≡ true
    or_more true b e = refl
    or_more false b e = e

-- ---- the clauses on connections

module _ (known : Known) (t : List Entry) (ls : List Line) (h : Keeps known t ls) (none : list_any (λ (x : Line). is_finished x.answer) ls ≡ false) where
  all_kept : (ks : List ℕ) → AreIdle known t ks → (n : ℕ) → IsOne n ks → IsOne n (idle_ones ls)
  all_kept [] are n i = cc
  all_kept (k ∷ ks) are n i = elim (eqb_tells k n) [
    | inl same ↦ (let l = idle_kept known t ls h none n (subst (IsIdle known t) same.1 are.0) in idle_found n ls l.0 l.1 (ap is_idle l.2))
    | inr apart ↦ all_kept ks are.1 n (sym (ap (λ b. b || list_any (λ j. j == n) ks) apart.0) ∙ i)
  ]

  -- few connections are idle
  pub few_idle : FewAreIdle known t
  few_idle ks distinct are = let less = few_distinct ks (idle_ones ls) distinct (all_kept ks are) in let few = h.few in omega (arith, less, few)

  -- those that are done with aren't open, but for those that may be kept
  pub are_closed : ((k : ℕ) (l : Line) → line_of k ls ≡ Some l → l.answer ≡ Pending → Reason known t (exchange_on k t) → ⊥) → AreClosed known t
  are_closed pending k on reason = by (h.all k on).0.answer refl
    where
      by : (a : Answer) → (h.all k on).0.answer ≡ a → MayBeKept known t (exchange_on k t)
      by Pending e = let there = h.all k on in absurd (pending k there.0 there.1 e reason)
      by Idle e = let there = h.all k on in subst (Answers known t k) e (h.are_so k there.0 there.1).answers
      by Done e = let there = h.all k on in absurd (let clash : true ≡ false = sym (ap is_finished e) ∙ none_finished k ls there.0 none there.1 in cc)

-- ---- the least idle connection of a route

-- one of these is a connection's
abbrev pub HasLine : Line → List Line → Type 0
HasLine l [] = ⊥
HasLine l (x ∷ xs) = (l ≡ x) ⊎ HasLine l xs

pub found_there : (k : ℕ) (ls : List Line) (l : Line) → line_of k ls ≡ Some l → HasLine l ls × (l.k ≡ k)
found_there k [] l e = cc
found_there k (x ∷ xs) l e = elim (eqb_tells x.k k) [
  | inl same ↦ (let found : Some x ≡ Some l = sym (ap (λ b. if b then Some x else line_of k xs) same.0) ∙ e in let is : x ≡ l = cc in (inl (sym is), ap (λ (y : Line). y.k) (sym is) ∙ same.1))
  | inr apart ↦ (let more = found_there k xs l (sym (ap (λ b. if b then Some x else line_of k xs) apart.0) ∙ e) in (inr more.0, more.1))
]

pub has_number : (l : Line) (ls : List Line) → HasLine l ls → list_any (λ j. j == l.k) (map (λ (x : Line). x.k) ls) ≡ true
has_number l [] i = absurd i
has_number l (x ∷ xs) (inl is) = ap (λ b. b || list_any (λ j. j == l.k) (map (λ (y : Line). y.k) xs)) (eq-eqb x.k l.k (ap (λ (y : Line). y.k) (sym is)))
has_number l (x ∷ xs) (inr i) = by (x.k == l.k) (has_number l xs i)
  where
    by : (b : Bool) → list_any (λ j. j == l.k) (map (λ (y : Line). y.k) xs) ≡ true → (b || list_any (λ j. j == l.k) (map (λ (y : Line). y.k) xs)) ≡ true
    by true e = refl
    by false e = e

-- where each is kept once it is found
pub there_found : (l : Line) (ls : List Line) → AreDistinct (map (λ (x : Line). x.k) ls) → HasLine l ls → line_of l.k ls ≡ Some l
there_found l [] d i = absurd i
there_found l (x ∷ xs) d (inl is) = ap (λ b. if b then Some x else line_of l.k xs) (eq-eqb x.k l.k (ap (λ (y : Line). y.k) (sym is))) ∙ ap {A = Line} {B = Option Line} (λ y. Some y) (sym is)
there_found l (x ∷ xs) d (inr i) = elim (eqb_tells x.k l.k) [
  | inl same ↦ absurd (let clash : true ≡ false = sym (has_number l xs i) ∙ ap (λ n. list_any (λ j. j == n) (map (λ (y : Line). y.k) xs)) (sym same.1) ∙ d.0 in cc)
  | inr apart ↦ ap (λ b. if b then Some x else line_of l.k xs) apart.0 ∙ there_found l xs d.1 i
]

-- What the least idle connection of a route is: one of them, and none comes before it.
pub record IsLeast (route k : ℕ) (ls : List Line) : Type 0 where
  pub line : Line
  pub there : HasLine line ls
  pub number : line.k ≡ k
  pub idle : line.answer ≡ Idle
  pub of_route : line.route ≡ route
  pub least : (l : Line) → HasLine l ls → l.answer ≡ Idle → l.route ≡ route → k ≤ l.k

-- or there is none
abbrev pub IsLeastOf : ℕ → List Line → Option ℕ → Type 0
IsLeastOf route ls None = (l : Line) → HasLine l ls → l.answer ≡ Idle → l.route ≡ route → ⊥
IsLeastOf route ls (Some k) = IsLeast route k ls

pub told_idle : (a : Answer) → is_idle a ≡ true → a ≡ Idle
told_idle Pending e = absurd (cc)
told_idle Idle e = refl
told_idle Done e = absurd (cc)

-- one that isn't an idle one of the route changes nothing
least_past : (route : ℕ) (x : Line) (xs : List Line) (found : Option ℕ) → (is_idle x.answer && x.route == route) ≡ false → IsLeastOf route xs found → IsLeastOf route (x ∷ xs) found
least_past route x xs found no_one h = by found h
  where
    other : (l : Line) → l ≡ x → l.answer ≡ Idle → l.route ≡ route → ⊥
    other l is idle of_route =
        let clash : true ≡ false = sym (ap (λ b. b && x.route == route) (ap (λ (y : Line). is_idle y.answer) (sym is) ∙ ap is_idle idle) ∙ eq-eqb x.route route (ap (λ (y : Line). y.route) (sym is) ∙ of_route)) ∙ no_one in cc

    by : (f : Option ℕ) → IsLeastOf route xs f → IsLeastOf route (x ∷ xs) f
    by None n = λ l i idle of_route. elim i [ inl is ↦ other l is idle of_route | inr more ↦ n l more idle of_route ]
    by (Some k) m = record { line = m.line; there = inr m.there; number = m.number; idle = m.idle; of_route = m.of_route; least = λ l i idle of_route. elim i [ inl is ↦ absurd (other l is idle of_route) | inr more ↦ m.least l more idle of_route ] }

-- one that is may be less
least_with : (route : ℕ) (x : Line) (xs : List Line) (found : Option ℕ) → x.answer ≡ Idle → x.route ≡ route → IsLeastOf route xs found → IsLeast route (lesser x.k found) (x ∷ xs)
least_with route x xs None idle of_route n = record { line = x; there = inl refl; number = refl; idle = idle; of_route = of_route; least = λ l i now on. elim i [ inl is ↦ (let e = ap (λ (y : Line). y.k) is in omega (arith, e)) | inr more ↦ absurd (n l more now on) ] }
least_with route x xs (Some j) idle of_route m = elim (cases_Bool (nat_lt j x.k)) [
  | inl less ↦ (let lt : j < x.k = ltb-true j x.k less in
      subst (λ n. IsLeast route n (x ∷ xs)) (sym (ap (λ b. if b then j else x.k) less))
      (record { line = m.line; there = inr m.there; number = m.number; idle = m.idle; of_route = m.of_route; least = λ l i now on. elim i [ inl is ↦ (let e = ap (λ (y : Line). y.k) is in omega (arith, e, lt)) | inr more ↦ m.least l more now on ] }))
  | inr not_less ↦ (let le : x.k ≤ j = ltb-false j x.k not_less in
      subst (λ n. IsLeast route n (x ∷ xs)) (sym (ap (λ b. if b then j else x.k) not_less))
      (record { line = x; there = inl refl; number = refl; idle = idle; of_route = of_route; least = λ l i now on. elim i [ inl is ↦ (let e = ap (λ (y : Line). y.k) is in omega (arith, e)) | inr more ↦ (let below = m.least l more now on in omega (arith, below, le)) ] }))
]

pub least_is : (route : ℕ) (ls : List Line) → IsLeastOf route ls (least_idle route ls)
least_is route [] = λ l i idle of_route. i
least_is route (x ∷ xs) = elim (cases_Bool (is_idle x.answer && x.route == route)) [
  | inl both ↦ (let parts = and_parts (is_idle x.answer) (x.route == route) both in
      subst (IsLeastOf route (x ∷ xs)) (sym (ap (λ b. if b then Some (lesser x.k (least_idle route xs)) else least_idle route xs) both))
      (least_with route x xs (least_idle route xs) (told_idle x.answer parts.0) (eqb-true x.route route parts.1) (least_is route xs)))
  | inr no_one ↦ subst (IsLeastOf route (x ∷ xs)) (sym (ap (λ b. if b then Some (lesser x.k (least_idle route xs)) else least_idle route xs) no_one)) (least_past route x xs (least_idle route xs) no_one (least_is route xs))
]

module _ (known : Known) (t : List Entry) (ls : List Line) (h : Keeps known t ls) (none : list_any (λ (x : Line). is_finished x.answer) ls ≡ false) where
  -- the line of an idle connection
  idle_line : (j : ℕ) → IsIdle known t j → (l : Line) × HasLine l ls × (l.k ≡ j) × (l.answer ≡ Idle) × (route_of j (exchanges t) ≡ l.route)
  idle_line j i =
      let l = idle_kept known t ls h none j i in
      let there = found_there j ls l.0 l.1 in
      (l.0, there.0, there.1, l.2, (h.are_so j l.0 l.1).route)

  -- Where no idle connection of a route is kept, there is none: one may be opened.
  pub none_idle : (route : ℕ) → least_idle route ls ≡ None → NoneIdle known t route
  none_idle route e j i of_route =
      let l = idle_line j i in
      let no_one : IsLeastOf route ls None = subst (IsLeastOf route ls) e (least_is route ls) in
      no_one l.0 l.1 l.3 (sym l.4 ∙ of_route)

  -- And the least that is kept is idle, and the least one: it may be used again.
  pub least_idle_is : (route k : ℕ) → least_idle route ls ≡ Some k → IsIdle known t k × NoneIdleBefore known t route k × (route_of k (exchanges t) ≡ route)
  least_idle_is route k e =
      let m : IsLeast route k ls = subst (IsLeastOf route ls) e (least_is route ls) in
      let found : line_of k ls ≡ Some m.line = ap (λ n. line_of n ls) (sym m.number) ∙ there_found m.line ls h.distinct m.there in (
        is_so_idle known t ls h k m.line found m.idle,
        λ j i of_route. (let l = idle_line j i in let least = m.least l.0 l.1 l.3 (sym l.4 ∙ of_route) in let at = l.2 in omega (arith, least, at)),
        (h.are_so k m.line found).route ∙ m.of_route,
      )
