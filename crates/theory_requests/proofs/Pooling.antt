-- What is kept of open connections stays so behind an entry.
use Rattle.std.proofs.Common.{◌≡◌, ℕ, ◌≤◌, ◌<◌, nat_lt, Bool, true, false, not, ◌||◌, ◌==◌, List, [], ◌∷◌, map, length, refl, sym, ap, ◌∙◌, subst, inl, inr, arith, if◌then◌else◌}
use Rattle.std.specs.Prelude.{Some, ◌⊎◌, filter}
use Rattle.std.specs.List.{list_any}
use Rattle.std.proofs.lemmas.Bool.{eq-eqb, ne_eqb, cases_Bool, or_parts, ltb-true, ltb-false}
use Rattle.std.proofs.lemmas.Bool.Decides.{eqb_tells}
use Rattle.model.specs.Http1.{H1Request}
use Rattle.model.specs.Responses.{IsComplete}
use Rattle.model.specs.Logs.{Event}
use Rattle.model.specs.Tapes.{Entry, is_closed}
use Rattle.model.specs.Tapes.Entry.{Happened}
use Rattle.model.specs.Admission.{is_open}
use Rattle.model.specs.Openings.{Opened, exchange_on, sent_for}
use Rattle.model.specs.Available.{heard_by, ended_by}
use Rattle.model.specs.Known.{Known}
use Rattle.model.specs.ErrorClause.{must_end}
use Rattle.model.specs.Courses.{upstream_of}
use Rattle.model.specs.Idle.{is_asked_for_head, IsAllHeard, IsTooLong, LeavesOpen, MayBeKept, IsIdle, AreIdle, AreDistinct, IsOneTooMany, last_upstream}
use Rattle.theory_requests.specs.Lines.{Answer, Line, k_of, line_of, is_idle, is_finished, idle_ones, Heard, answer_by, idle_beside, with_answer, lines_heard}
use Rattle.theory_requests.specs.Pool.{Verdict, Answers, IsSo, Keeps}
use Rattle.theory_requests.specs.Lines.Answer.{Pending, Idle, Done}
use Rattle.theory_requests.specs.Lines.Heard.{Partly, Keepable, Finished}
use Rattle.theory_requests.proofs.Lists.{mapped_found, mapped_finds}
use Rattle.theory_requests.proofs.Pool.{IsOne, few_distinct, none_finished, idle_heard, HasLine, found_there, there_found, told_idle, is_so_idle}

-- An entry leaves a connection as it is: its exchange, what was heard and sent of that, and whether it asks for a head.
pub record Leaves (known : Known) (t : List Entry) (e : Entry) (k : ℕ) : Type 0 where
  pub opened : is_open k (e ∷ t) ≡ is_open k t
  pub exchange : exchange_on k (e ∷ t) ≡ exchange_on k t
  pub heard : heard_by (exchange_on k t) (e ∷ t) ≡ heard_by (exchange_on k t) t
  pub ended : ended_by (exchange_on k t) (e ∷ t) ≡ ended_by (exchange_on k t) t
  pub sent : sent_for (exchange_on k t) (e ∷ t) ≡ sent_for (exchange_on k t) t
  pub to_head : is_asked_for_head known (exchange_on k t) (e ∷ t) ≡ is_asked_for_head known (exchange_on k t) t
  pub closed : is_closed (e ∷ t) ≡ is_closed t

module _ (known : Known) (t : List Entry) (e : Entry) (k : ℕ) (l : Leaves known t e k) where
  -- whether a whole response was heard
  pub heard_back : IsAllHeard known (e ∷ t) (exchange_on k (e ∷ t)) → IsAllHeard known t (exchange_on k t)
  heard_back c =
      let o = exchange_on k t in
      let here : IsAllHeard known (e ∷ t) o = subst (IsAllHeard known (e ∷ t)) l.exchange c in
      subst (λ x. IsComplete x (ended_by o t) (is_asked_for_head known o t)) l.heard
      (subst (λ x. IsComplete (heard_by o (e ∷ t)) x (is_asked_for_head known o t)) l.ended
      (subst (λ x. IsComplete (heard_by o (e ∷ t)) (ended_by o (e ∷ t)) x) l.to_head here))

  pub heard_there : IsAllHeard known t (exchange_on k t) → IsAllHeard known (e ∷ t) (exchange_on k (e ∷ t))
  heard_there c =
      let o = exchange_on k t in
      subst (IsAllHeard known (e ∷ t)) (sym l.exchange)
      (subst (λ x. IsComplete (heard_by o (e ∷ t)) (ended_by o (e ∷ t)) x) (sym l.to_head)
      (subst (λ x. IsComplete (heard_by o (e ∷ t)) x (is_asked_for_head known o t)) (sym l.ended)
      (subst (λ x. IsComplete x (ended_by o t) (is_asked_for_head known o t)) (sym l.heard) c)))

  -- whether the connection may be kept
  pub kept_back : MayBeKept known (e ∷ t) (exchange_on k (e ∷ t)) → MayBeKept known t (exchange_on k t)
  kept_back c =
      let o = exchange_on k t in
      let m : MayBeKept known (e ∷ t) o = subst (MayBeKept known (e ∷ t)) l.exchange c in record {
        keeps = m.keeps;
        goes_on = sym l.closed ∙ m.goes_on;
        request = m.request;
        sent = subst (λ x. H1Request x m.request) l.sent m.sent;
        answered = subst (λ b. LeavesOpen (heard_by o t) b) l.to_head (subst (λ x. LeavesOpen x (is_asked_for_head known o (e ∷ t))) l.heard m.answered);
        fits = λ long. m.fits (subst (λ b. IsTooLong known (heard_by o (e ∷ t)) b) (sym l.to_head) (subst (λ x. IsTooLong known x (is_asked_for_head known o t)) (sym l.heard) long));
        not_ended = sym l.ended ∙ m.not_ended;
      }

  pub kept_there : MayBeKept known t (exchange_on k t) → MayBeKept known (e ∷ t) (exchange_on k (e ∷ t))
  kept_there m =
      let o = exchange_on k t in
      subst (MayBeKept known (e ∷ t)) (sym l.exchange) (record {
        keeps = m.keeps;
        goes_on = l.closed ∙ m.goes_on;
        request = m.request;
        sent = subst (λ x. H1Request x m.request) (sym l.sent) m.sent;
        answered = subst (λ b. LeavesOpen (heard_by o (e ∷ t)) b) (sym l.to_head) (subst (λ x. LeavesOpen x (is_asked_for_head known o t)) (sym l.heard) m.answered);
        fits = λ long. m.fits (subst (λ b. IsTooLong known (heard_by o t) b) l.to_head (subst (λ x. IsTooLong known x (is_asked_for_head known o (e ∷ t))) l.heard long));
        not_ended = l.ended ∙ m.not_ended;
      })

  -- an idle one stays so
  pub idle_there : IsIdle known t k → IsIdle known (e ∷ t) k
  idle_there i = record { is_open = l.opened ∙ i.is_open; kept = kept_there i.kept }

  -- so what is kept of it is so
  pub answers_there : (a : Answer) → (is_finished a ≡ true → IsOneTooMany known t k → IsOneTooMany known (e ∷ t) k ⊎ (must_end known (e ∷ t) ≡ true)) → (must_end known t ≡ true → must_end known (e ∷ t) ≡ true) → Answers known t k a → Answers known (e ∷ t) k a
  answers_there Pending crowd ends a = λ c. a (heard_back c)
  answers_there Idle crowd ends a = kept_there a
  answers_there Done crowd ends a = (heard_there a.0, λ m. elim (a.1 (kept_back m)) [ inl many ↦ crowd refl many | inr over ↦ inr (ends over) ])

  pub so_there : (x : Line) → (is_finished x.answer ≡ true → IsOneTooMany known t k → IsOneTooMany known (e ∷ t) k ⊎ (must_end known (e ∷ t) ≡ true)) → (must_end known t ≡ true → must_end known (e ∷ t) ≡ true) → IsSo known t k x → IsSo known (e ∷ t) k x
  so_there x crowd ends s = record {
    opened = l.opened ∙ s.opened;
    route = ap (λ (o : Opened). o.route) l.exchange ∙ s.route;
    stream = ap (λ (o : Opened). o.stream) l.exchange ∙ s.stream;
    answers = answers_there x.answer crowd ends s.answers;
  }

-- idle connections stay so, each of which an entry leaves
pub all_idle_there : (known : Known) (t : List Entry) (e : Entry) (ks : List ℕ) → ((k : ℕ) → IsIdle known t k → Leaves known t e k) → AreIdle known t ks → AreIdle known (e ∷ t) ks
all_idle_there known t e [] leaves i = tt
all_idle_there known t e (k ∷ ks) leaves i = (idle_there known t e k (leaves k i.0) i.0, all_idle_there known t e ks leaves i.1)

-- and so does one that was one too many, where nothing came in
pub many_there : (known : Known) (t : List Entry) (e : Entry) (k : ℕ) → last_upstream (e ∷ t) ≡ last_upstream t → ((j : ℕ) → IsIdle known t j → Leaves known t e j) → IsOneTooMany known t k → IsOneTooMany known (e ∷ t) k
many_there known t e k same leaves m = record {
  is_new = same ∙ m.is_new;
  others = m.others;
  distinct = m.distinct;
  are_idle = all_idle_there known t e m.others leaves m.are_idle;
  many = m.many;
}

-- ---- an entry that leaves all connections

pub keeps_same : (known : Known) (t : List Entry) (e : Entry) (ls : List Line) → ((k : ℕ) → is_open k t ≡ true → Leaves known t e k) → ((k : ℕ) → is_open k (e ∷ t) ≡ true → is_open k t ≡ true) → (must_end known t ≡ true → must_end known (e ∷ t) ≡ true) → (last_upstream (e ∷ t) ≡ last_upstream t) ⊎ (list_any (λ (x : Line). is_finished x.answer) ls ≡ false) → Keeps known t ls → Keeps known (e ∷ t) ls
keeps_same known t e ls leaves back ends new h = record {
  are_so = λ k l found. (let s = h.are_so k l found in so_there known t e k (leaves k s.opened) l (crowd k l found) ends s);
  all = λ k on. h.all k (back k on);
  distinct = h.distinct;
  few = h.few;
}
  where
    crowd : (k : ℕ) (l : Line) → line_of k ls ≡ Some l → is_finished l.answer ≡ true → IsOneTooMany known t k → IsOneTooMany known (e ∷ t) k ⊎ (must_end known (e ∷ t) ≡ true)
    crowd k l found is m = elim new [
      | inl same ↦ inl (many_there known t e k same (λ j i. leaves j i.is_open) m)
      | inr none ↦ absurd (let clash : true ≡ false = sym is ∙ none_finished k ls l none found in cc)
    ]

-- ---- lists of numbers

-- a list without a number
abbrev pub but : ℕ → List ℕ → List ℕ
but k js = filter (λ j. not (j == k)) js

one_more : (a b : Bool) → b ≡ true → (a || b) ≡ true
one_more true b e = refl
one_more false b e = e

none_parts : (j k : ℕ) (js : List ℕ) → list_any (λ n. n == k) (j ∷ js) ≡ false → ((j == k) ≡ false) × (list_any (λ n. n == k) js ≡ false)
none_parts j k js e = or_parts (j == k) (list_any (λ n. n == k) js) e

-- it isn't there
but_none : (k : ℕ) (js : List ℕ) → list_any (λ n. n == k) (but k js) ≡ false
but_none k [] = refl
but_none k (j ∷ js) = by (j == k) refl (but_none k js)
  where
    by : (b : Bool) → (j == k) ≡ b → list_any (λ n. n == k) (but k js) ≡ false → list_any (λ n. n == k) (if not b then j ∷ but k js else but k js) ≡ false
    by true is more = more
    by false is more = ap (λ b. b || list_any (λ n. n == k) (but k js)) is ∙ more

-- what isn't in a list isn't in it without a number either
but_out : (k n : ℕ) (js : List ℕ) → list_any (λ m. m == n) js ≡ false → list_any (λ m. m == n) (but k js) ≡ false
but_out k n [] e = refl
but_out k n (j ∷ js) e = let parts = none_parts j n js e in by (j == k) (but_out k n js parts.1)
  where
    by : (b : Bool) → list_any (λ m. m == n) (but k js) ≡ false → list_any (λ m. m == n) (if not b then j ∷ but k js else but k js) ≡ false
    by true more = more
    by false more = ap (λ b. b || list_any (λ m. m == n) (but k js)) (none_parts j n js e).0 ∙ more

but_distinct : (k : ℕ) (js : List ℕ) → AreDistinct js → AreDistinct (but k js)
but_distinct k [] d = tt
but_distinct k (j ∷ js) d = by (j == k) (but_distinct k js d.1)
  where
    by : (b : Bool) → AreDistinct (but k js) → AreDistinct (if not b then j ∷ but k js else but k js)
    by true more = more
    by false more = (but_out k j js d.0, more)

-- all others are
but_in : (k n : ℕ) (js : List ℕ) → IsOne n js → (n ≡ k → ⊥) → IsOne n (but k js)
but_in k n [] i apart = i
but_in k n (j ∷ js) i apart = elim (eqb_tells j n) [
  | inl same ↦ ap (λ b. list_any (λ m. m == n) (if not b then j ∷ but k js else but k js)) (ne_eqb j k (λ e. apart (sym same.1 ∙ e))) ∙ ap (λ b. b || list_any (λ m. m == n) (but k js)) same.0
  | inr differs ↦ by (j == k) (but_in k n js (sym (ap (λ b. b || list_any (λ m. m == n) js) differs.0) ∙ i) apart)
]
  where
    by : (b : Bool) → IsOne n (but k js) → IsOne n (if not b then j ∷ but k js else but k js)
    by true more = more
    by false more = one_more (j == n) (list_any (λ m. m == n) (but k js)) more

-- and they were there
but_back : (k n : ℕ) (js : List ℕ) → IsOne n (but k js) → IsOne n js
but_back k n [] i = i
but_back k n (j ∷ js) i = by (j == k) (but_back k n js) i
  where
    by : (b : Bool) → (IsOne n (but k js) → IsOne n js) → IsOne n (if not b then j ∷ but k js else but k js) → IsOne n (j ∷ js)
    by true back i = one_more (j == n) (list_any (λ m. m == n) js) (back i)
    by false back i = or_back (j == n) i
      where
        or_back : (c : Bool) → (c || list_any (λ m. m == n) (but k js)) ≡ true → (c || list_any (λ m. m == n) js) ≡ true
        or_back true i = refl
        or_back false i = back i

-- ---- numbers of idle connections

abbrev pub numbers : List Line → List ℕ
numbers ls = map (λ (l : Line). l.k) ls

-- what isn't a number of a connection isn't one of an idle one
idle_out : (n : ℕ) (ls : List Line) → list_any (λ m. m == n) (numbers ls) ≡ false → list_any (λ m. m == n) (idle_ones ls) ≡ false
idle_out n [] e = refl
idle_out n (l ∷ ls) e = by (is_idle l.answer) (idle_out n ls (none_parts l.k n (numbers ls) e).1)
  where
    by : (b : Bool) → list_any (λ m. m == n) (idle_ones ls) ≡ false → list_any (λ m. m == n) (if b then l.k ∷ idle_ones ls else idle_ones ls) ≡ false
    by true more = ap (λ b. b || list_any (λ m. m == n) (idle_ones ls)) (none_parts l.k n (numbers ls) e).0 ∙ more
    by false more = more

pub idle_distinct : (ls : List Line) → AreDistinct (numbers ls) → AreDistinct (idle_ones ls)
idle_distinct [] d = tt
idle_distinct (l ∷ ls) d = by (is_idle l.answer) (idle_distinct ls d.1)
  where
    by : (b : Bool) → AreDistinct (idle_ones ls) → AreDistinct (if b then l.k ∷ idle_ones ls else idle_ones ls)
    by true more = (idle_out l.k ls d.0, more)
    by false more = more

-- an idle one is a connection that is kept so
idle_back : (n : ℕ) (ls : List Line) → IsOne n (idle_ones ls) → (l : Line) × HasLine l ls × (l.k ≡ n) × (l.answer ≡ Idle)
idle_back n [] i = cc
idle_back n (l ∷ ls) i = by (is_idle l.answer) refl (idle_back n ls) i
  where
    by : (b : Bool) → is_idle l.answer ≡ b → (IsOne n (idle_ones ls) → (m : Line) × HasLine m ls × (m.k ≡ n) × (m.answer ≡ Idle)) → IsOne n (if b then l.k ∷ idle_ones ls else idle_ones ls) → (m : Line) × HasLine m (l ∷ ls) × (m.k ≡ n) × (m.answer ≡ Idle)
    by true idle back i = elim (eqb_tells l.k n) [
      | inl same ↦ (l, inl refl, same.1, told_idle l.answer idle)
      | inr apart ↦ (let more = back (sym (ap (λ c. c || list_any (λ m. m == n) (idle_ones ls)) apart.0) ∙ i) in (more.0, inr more.1, more.2, more.3))
    ]
    by false idle back i = let more = back i in (more.0, inr more.1, more.2, more.3)

-- each of some numbers is idle
each_idle : (known : Known) (t : List Entry) (ks : List ℕ) → ((n : ℕ) → IsOne n ks → IsIdle known t n) → AreIdle known t ks
each_idle known t [] all = tt
each_idle known t (k ∷ ks) all = (all k (ap (λ b. b || list_any (λ m. m == k) ks) (eq-eqb k k refl)), each_idle known t ks (λ n i. all n (one_more (k == n) (list_any (λ m. m == n) ks) i)))

-- ---- an answer

pub answer_numbers : (k : ℕ) (a : Answer) (ls : List Line) → numbers (map (with_answer k a) ls) ≡ numbers ls
answer_numbers k a [] = refl
answer_numbers k a (l ∷ ls) = ap (λ (ns : List ℕ). l.k ∷ ns) (answer_numbers k a ls)

-- which are idle then: others that were
pub answer_idle : (k : ℕ) (a : Answer) (n : ℕ) (ls : List Line) → IsOne n (idle_ones (map (with_answer k a) ls)) → (n ≡ k → ⊥) → IsOne n (idle_ones ls)
answer_idle k a n [] i apart = i
answer_idle k a n (l ∷ ls) i apart = elim (eqb_tells l.k k) [
  | inl same ↦ by_it (is_idle (with_answer k a l).answer) same.1 (answer_idle k a n ls) i
  | inr differs ↦ (let as_was : is_idle (with_answer k a l).answer ≡ is_idle l.answer = ap (λ b. is_idle (if b then a else l.answer)) differs.0 in
      by_other (is_idle l.answer) (answer_idle k a n ls) (sym (ap (λ b. list_any (λ m. m == n) (if b then l.k ∷ idle_ones (map (with_answer k a) ls) else idle_ones (map (with_answer k a) ls))) as_was) ∙ i))
]
  where
    rest : (b : Bool) → IsOne n (idle_ones ls) → IsOne n (if b then l.k ∷ idle_ones ls else idle_ones ls)
    rest true e = one_more (l.k == n) (list_any (λ m. m == n) (idle_ones ls)) e
    rest false e = e

    by_it : (b : Bool) → l.k ≡ k → (IsOne n (idle_ones (map (with_answer k a) ls)) → (n ≡ k → ⊥) → IsOne n (idle_ones ls)) → IsOne n (if b then l.k ∷ idle_ones (map (with_answer k a) ls) else idle_ones (map (with_answer k a) ls)) → IsOne n (idle_ones (l ∷ ls))
    by_it true same more i = rest (is_idle l.answer) (more (sym (ap (λ b. b || list_any (λ m. m == n) (idle_ones (map (with_answer k a) ls))) (ne_eqb l.k n (λ e. apart (sym e ∙ same)))) ∙ i) apart)
    by_it false same more i = rest (is_idle l.answer) (more i apart)

    by_other : (b : Bool) → (IsOne n (idle_ones (map (with_answer k a) ls)) → (n ≡ k → ⊥) → IsOne n (idle_ones ls)) → IsOne n (if b then l.k ∷ idle_ones (map (with_answer k a) ls) else idle_ones (map (with_answer k a) ls)) → IsOne n (if b then l.k ∷ idle_ones ls else idle_ones ls)
    by_other true more i = by_first (l.k == n) i
      where
        by_first : (c : Bool) → (c || list_any (λ m. m == n) (idle_ones (map (with_answer k a) ls))) ≡ true → (c || list_any (λ m. m == n) (idle_ones ls)) ≡ true
        by_first true i = refl
        by_first false i = more i apart
    by_other false more i = more i apart

-- unless it is idle now it isn't among them
pub answer_not : (k : ℕ) (a : Answer) (ls : List Line) → is_idle a ≡ false → IsOne k (idle_ones (map (with_answer k a) ls)) → ⊥
answer_not k a ls no_one i =
    let back = idle_back k (map (with_answer k a) ls) i in at ls back.0 back.1 back.2 back.3
  where
    at : (xs : List Line) (l : Line) → HasLine l (map (with_answer k a) xs) → l.k ≡ k → l.answer ≡ Idle → ⊥
    at [] l i number idle = i
    at (x ∷ xs) l (inl is) number idle =
        let here : x.k ≡ k = ap (λ (y : Line). y.k) (sym is) ∙ number in
        let clash : true ≡ false = sym (ap is_idle idle) ∙ ap (λ (y : Line). is_idle y.answer) is ∙ ap (λ b. is_idle (if b then a else x.answer)) (eq-eqb x.k k here) ∙ no_one in cc
    at (x ∷ xs) l (inr i) number idle = at xs l i number idle

-- ---- an upstream answers

module _ (known : Known) (t : List Entry) (ls : List Line) (h : Keeps known t ls) (none : list_any (λ (x : Line). is_finished x.answer) ls ≡ false) (goes_on : must_end known t ≡ false) (event : Event) (heard : Heard) (open_same : (j : ℕ) → is_open j (Happened event ∷ t) ≡ is_open j t) (leaves : (j : ℕ) → (j ≡ upstream_of event → ⊥) → is_open j t ≡ true → Leaves known t (Happened event) j) (is_so : Verdict known (Happened event ∷ t) (exchange_on (upstream_of event) t) heard) where
  abbrev k : ℕ
  k = upstream_of event

  abbrev others : List ℕ
  others = but k (idle_ones ls)

  abbrev answer : Answer
  answer = answer_by known.setup.most_idle (idle_beside k ls) heard

  abbrev new : List Line
  new = lines_heard known.setup.most_idle k heard ls

  -- the others that are idle
  other_idle : (n : ℕ) → IsOne n others → IsIdle known (Happened event ∷ t) n
  other_idle n i =
      let apart : n ≡ k → ⊥ = λ e. (let clash : true ≡ false = sym i ∙ ap (λ m. list_any (λ j. j == m) others) e ∙ but_none k (idle_ones ls) in cc) in
      let back = idle_back n ls (but_back k n (idle_ones ls) i) in
      let found : line_of n ls ≡ Some back.0 = ap (λ m. line_of m ls) (sym back.2) ∙ there_found back.0 ls h.distinct back.1 in
      let was = is_so_idle known t ls h n back.0 found back.3 in
      idle_there known t (Happened event) n (leaves n apart was.is_open) was

  too_many : known.setup.most_idle ≤ length others → IsOneTooMany known (Happened event ∷ t) k
  too_many many = record {
    is_new = refl;
    others = others;
    distinct = (but_none k (idle_ones ls), but_distinct k (idle_ones ls) (idle_distinct ls h.distinct));
    are_idle = each_idle known (Happened event ∷ t) others other_idle;
    many = many;
  }

  -- its own answer
  own : (x : Heard) → Verdict known (Happened event ∷ t) (exchange_on k t) x → Answers known (Happened event ∷ t) k (answer_by known.setup.most_idle (idle_beside k ls) x)
  own Partly v = v
  own Keepable v = by (nat_lt (length others) known.setup.most_idle) refl
    where
      by : (b : Bool) → nat_lt (length others) known.setup.most_idle ≡ b → Answers known (Happened event ∷ t) k (if b then Idle else Done)
      by true e = v
      by false e = (idle_heard known (Happened event ∷ t) k v, λ m. inl (too_many (ltb-false (length others) known.setup.most_idle e)))
  own Finished v = (v.0, λ m. absurd (v.1 m))

  room_for : (x : Heard) → is_idle (answer_by known.setup.most_idle (idle_beside k ls) x) ≡ true → length others < known.setup.most_idle
  room_for Partly e = absurd (cc)
  room_for Keepable e = by (nat_lt (length others) known.setup.most_idle) refl e
    where
      by : (b : Bool) → nat_lt (length others) known.setup.most_idle ≡ b → is_idle (if b then Idle else Done) ≡ true → length others < known.setup.most_idle
      by true less e = ltb-true (length others) known.setup.most_idle less
      by false no_less e = absurd (cc)
  room_for Finished e = absurd (cc)

  distinct_now : AreDistinct (numbers new)
  distinct_now = subst AreDistinct (sym (answer_numbers k answer ls)) h.distinct

  few_now : length (idle_ones new) ≤ known.setup.most_idle
  few_now = elim (cases_Bool (is_idle answer)) [
    | inl idle ↦ (let less = few_distinct (idle_ones new) (k ∷ others) (idle_distinct new distinct_now) (λ n i. with_it n i) in let room = room_for heard idle in omega (arith, less, room))
    | inr no_one ↦ (let less = few_distinct (idle_ones new) (idle_ones ls) (idle_distinct new distinct_now) (λ n i. without_it no_one n i) in let few = h.few in omega (arith, less, few))
  ]
    where
      with_it : (n : ℕ) → IsOne n (idle_ones new) → IsOne n (k ∷ others)
      with_it n i = elim (eqb_tells k n) [
        | inl same ↦ ap (λ b. b || list_any (λ j. j == n) others) same.0
        | inr apart ↦ one_more (k == n) (list_any (λ j. j == n) others) (but_in k n (idle_ones ls) (answer_idle k answer n ls i (λ e. apart.1 (sym e))) (λ e. apart.1 (sym e)))
      ]

      without_it : is_idle answer ≡ false → (n : ℕ) → IsOne n (idle_ones new) → IsOne n (idle_ones ls)
      without_it no_one n i = elim (eqb_tells n k) [
        | inl same ↦ absurd (answer_not k answer ls no_one (subst (λ m. IsOne m (idle_ones new)) same.1 i))
        | inr apart ↦ answer_idle k answer n ls i apart.1
      ]

  so_now : (n : ℕ) (l : Line) → line_of n new ≡ Some l → IsSo known (Happened event ∷ t) n l
  so_now n l found =
      let was = mapped_found k_of (with_answer k answer) (λ x. refl) n ls l found in
      let s = h.are_so n was.0 was.1 in
      let number : was.0.k ≡ n = (found_there n ls was.0 was.1).1 in
      subst (IsSo known (Happened event ∷ t) n) (sym was.2) (elim (eqb_tells n k) [
        | inl same ↦ record {
          opened = open_same n ∙ s.opened;
          route = s.route;
          stream = s.stream;
          answers = subst (λ b. Answers known (Happened event ∷ t) n (if b then answer else was.0.answer)) (sym (eq-eqb was.0.k k (number ∙ same.1))) (subst (λ m. Answers known (Happened event ∷ t) m answer) (sym same.1) (own heard is_so));
        }
        | inr apart ↦ (let same = so_there known t (Happened event) n (leaves n apart.1 s.opened) was.0 (λ is many. absurd (let clash : true ≡ false = sym is ∙ none_finished n ls was.0 none was.1 in cc)) (λ ends. absurd (let clash : true ≡ false = sym ends ∙ goes_on in cc)) s in
            record {
              opened = same.opened;
              route = same.route;
              stream = same.stream;
              answers = subst (λ b. Answers known (Happened event ∷ t) n (if b then answer else was.0.answer)) (sym (ne_eqb was.0.k k (λ e. apart.1 (sym number ∙ e)))) same.answers;
            })
      ])

  -- What is kept of connections stays so behind an answer.
  pub keeps_heard : Keeps known (Happened event ∷ t) new
  keeps_heard = record {
    are_so = so_now;
    all = λ n on. (let was = h.all n (sym (open_same n) ∙ on) in (with_answer k answer was.0, mapped_finds k_of (with_answer k answer) (λ x. refl) n ls was.0 was.1));
    distinct = distinct_now;
    few = few_now;
  }
