-- A connection is opened, closed, or fails: what is kept stays so; and one that is closed is done with.
use Rattle.std.proofs.Common.{◌≡◌, ℕ, suc, ◌≤◌, Bool, true, false, ◌||◌, ◌==◌, List, [], ◌∷◌, length, refl, sym, ap, ◌∙◌, subst, inl, inr, arith, if◌then◌else◌}
use Rattle.std.specs.Prelude.{Some, ◌⊎◌}
use Rattle.std.specs.List.{list_any}
use Rattle.std.proofs.lemmas.Bool.{eq-eqb, ne_eqb, cases_Bool, or_parts}
use Rattle.std.proofs.lemmas.Bool.Decides.{eqb_tells}
use Rattle.model.specs.Logs.Act.{Open, Close}
use Rattle.model.specs.Tapes.{Entry}
use Rattle.model.specs.Tapes.Entry.{Did}
use Rattle.model.specs.Admission.{is_open}
use Rattle.model.specs.Openings.{Opened, exchanges, exchange_on, route_of, given, last_stream, IsGivenNone}
use Rattle.model.specs.Known.{Known}
use Rattle.model.specs.ErrorClause.{must_end}
use Rattle.model.specs.Idle.{IsAllHeard, MayBeKept, IsIdle, AreIdle, AreDistinct, IsOneTooMany}
use Rattle.theory_requests.specs.Lines.{Answer, Line, k_of, line_of, is_idle, is_finished, idle_ones, lines_opened, lines_without}
use Rattle.theory_requests.specs.Pool.{Answers, IsSo, Keeps}
use Rattle.theory_requests.specs.Lines.Answer.{Pending, Idle, Done}
use Rattle.theory_requests.proofs.Lists.{find_other, found_without}
use Rattle.theory_requests.proofs.Pool.{IsOne, none_finished, idle_heard}
use Rattle.theory_requests.proofs.Pooling.{Leaves, idle_there, so_there, numbers}
use Rattle.theory_requests.proofs.Reusing.{none_heard, opens_leave, closes_leave}

-- a number of a connection finds one
number_line : (k : ℕ) (ls : List Line) → IsOne k (numbers ls) → (l : Line) × (line_of k ls ≡ Some l)
number_line k [] i = cc
number_line k (l ∷ ls) i = elim (eqb_tells l.k k) [
  | inl same ↦ (l, ap (λ b. if b then Some l else line_of k ls) same.0)
  | inr apart ↦ (let more = number_line k ls (sym (ap (λ b. b || list_any (λ j. j == k) (numbers ls)) apart.0) ∙ i) in (more.0, ap (λ b. if b then Some l else line_of k ls) apart.0 ∙ more.1))
]

-- ---- opened

module _ (known : Known) (t : List Entry) (ls : List Line) (h : Keeps known t ls) (none : list_any (λ (x : Line). is_finished x.answer) ls ≡ false) (k route : ℕ) (fresh : is_open k t ≡ false) (none_given : IsGivenNone (last_stream t) (exchanges t)) (some : last_stream t ≡ 0 → ⊥) (ends : must_end known t ≡ true → must_end known (Did (Open k route) ∷ t) ≡ true) where
  abbrev e : Entry
  e = Did (Open k route)

  abbrev first : Line
  first = record { k = k; route = route; stream = last_stream t; answer = Pending }

  exchange_now : exchange_on k (e ∷ t) ≡ record { k = k; route = route; stream = last_stream t }
  exchange_now = ap {A = Bool} {B = Opened} (λ b. record { k = k; route = if b then route else route_of k (exchanges t); stream = if b then last_stream t else given k (exchanges t) }) (eq-eqb k k refl)

  not_heard : IsAllHeard known (e ∷ t) (exchange_on k (e ∷ t)) → ⊥
  not_heard c = none_heard known (record { k = k; route = route; stream = last_stream t }) t (Open k route) none_given some refl refl (subst (IsAllHeard known (e ∷ t)) exchange_now c)

  not_there : (n : ℕ) (l : Line) → line_of n ls ≡ Some l → n ≡ k → ⊥
  not_there n l found same = let clash : true ≡ false = sym (h.are_so n l found).opened ∙ ap (λ m. is_open m t) same ∙ fresh in cc

  so_now : (n : ℕ) (l : Line) → line_of n (lines_opened k route (last_stream t) ls) ≡ Some l → IsSo known (e ∷ t) n l
  so_now n l found = elim (eqb_tells k n) [
    | inl same ↦ (let is : Some first ≡ Some l = sym (ap (λ b. if b then Some first else line_of n ls) same.0) ∙ found in
        let line : first ≡ l = cc in
        subst (IsSo known (e ∷ t) n) line (subst (λ m. IsSo known (e ∷ t) m first) same.1 (record {
          opened = ap (λ b. if b then true else is_open k t) (eq-eqb k k refl);
          route = ap (λ (o : Opened). o.route) exchange_now;
          stream = ap (λ (o : Opened). o.stream) exchange_now;
          answers = not_heard;
        })))
    | inr apart ↦ (let was : line_of n ls ≡ Some l = sym (ap (λ b. if b then Some first else line_of n ls) apart.0) ∙ found in
        so_there known t e n (opens_leave known t n k route (λ x. apart.1 (sym x))) l (λ is many. absurd (let clash : true ≡ false = sym is ∙ none_finished n ls l none was in cc)) ends (h.are_so n l was))
  ]

  all_now : (n : ℕ) → is_open n (e ∷ t) ≡ true → (l : Line) × (line_of n (lines_opened k route (last_stream t) ls) ≡ Some l)
  all_now n on = elim (eqb_tells k n) [
    | inl same ↦ (first, ap (λ b. if b then Some first else line_of n ls) same.0)
    | inr apart ↦ (let was = h.all n (sym (ap (λ b. if b then true else is_open n t) (ne_eqb n k (λ x. apart.1 (sym x)))) ∙ on) in (was.0, ap (λ b. if b then Some first else line_of n ls) apart.0 ∙ was.1))
  ]

  pub keeps_opened : Keeps known (e ∷ t) (lines_opened k route (last_stream t) ls)
  keeps_opened = record {
    are_so = so_now;
    all = all_now;
    distinct = (elim (cases_Bool (list_any (λ j. j == k) (numbers ls))) [ inl is ↦ absurd (let l = number_line k ls is in not_there k l.0 l.1 refl) | inr no_one ↦ no_one ], h.distinct);
    few = h.few;
  }

-- ---- lists without one

without_out : (k n : ℕ) (ls : List Line) → list_any (λ j. j == n) (numbers ls) ≡ false → list_any (λ j. j == n) (numbers (lines_without k ls)) ≡ false
without_out k n [] e = refl
without_out k n (l ∷ ls) e = by (l.k == k) (without_out k n ls (or_parts (l.k == n) (list_any (λ j. j == n) (numbers ls)) e).1)
  where
    by : (b : Bool) → list_any (λ j. j == n) (numbers (lines_without k ls)) ≡ false → list_any (λ j. j == n) (numbers (if b then lines_without k ls else l ∷ lines_without k ls)) ≡ false
    by true more = more
    by false more = ap (λ b. b || list_any (λ j. j == n) (numbers (lines_without k ls))) (or_parts (l.k == n) (list_any (λ j. j == n) (numbers ls)) e).0 ∙ more

without_distinct : (k : ℕ) (ls : List Line) → AreDistinct (numbers ls) → AreDistinct (numbers (lines_without k ls))
without_distinct k [] d = tt
without_distinct k (l ∷ ls) d = by (l.k == k) (without_distinct k ls d.1)
  where
    by : (b : Bool) → AreDistinct (numbers (lines_without k ls)) → AreDistinct (numbers (if b then lines_without k ls else l ∷ lines_without k ls))
    by true more = more
    by false more = (without_out k l.k ls d.0, more)

without_few : (k : ℕ) (ls : List Line) → length (idle_ones (lines_without k ls)) ≤ length (idle_ones ls)
without_few k [] = omega arith
without_few k (l ∷ ls) = by (l.k == k) (is_idle l.answer) (without_few k ls)
  where
    by : (b c : Bool) → length (idle_ones (lines_without k ls)) ≤ length (idle_ones ls) → length (idle_ones (if b then lines_without k ls else l ∷ lines_without k ls)) ≤ length (if is_idle l.answer then l.k ∷ idle_ones ls else idle_ones ls)
    by b c less = at b (is_idle l.answer) refl
      where
        at : (b c : Bool) → is_idle l.answer ≡ c → length (idle_ones (if b then lines_without k ls else l ∷ lines_without k ls)) ≤ length (if c then l.k ∷ idle_ones ls else idle_ones ls)
        at true true is = omega (arith, less)
        at true false is = less
        at false true is = subst (λ (c : Bool). length (if c then l.k ∷ idle_ones (lines_without k ls) else idle_ones (lines_without k ls)) ≤ suc (length (idle_ones ls))) (sym is) (omega (arith, less))
        at false false is = subst (λ (c : Bool). length (if c then l.k ∷ idle_ones (lines_without k ls) else idle_ones (lines_without k ls)) ≤ length (idle_ones ls)) (sym is) less

-- ---- one is open no longer

module _ (known : Known) (t : List Entry) (ls : List Line) (h : Keeps known t ls) (k : ℕ) (e : Entry) (leaves : (j : ℕ) → (j ≡ k → ⊥) → Leaves known t e j) (shut : is_open k (e ∷ t) ≡ false) (ends : must_end known t ≡ true → must_end known (e ∷ t) ≡ true) (crowd : (j : ℕ) → (j ≡ k → ⊥) → (l : Line) → line_of j ls ≡ Some l → is_finished l.answer ≡ true → IsOneTooMany known t j → IsOneTooMany known (e ∷ t) j ⊎ (must_end known (e ∷ t) ≡ true)) where
  apart_of : (n : ℕ) → is_open n (e ∷ t) ≡ true → n ≡ k → ⊥
  apart_of n on same = let clash : true ≡ false = sym on ∙ ap (λ m. is_open m (e ∷ t)) same ∙ shut in cc

  pub keeps_without : Keeps known (e ∷ t) (lines_without k ls)
  keeps_without = record {
    are_so = λ n l found. (let was = found_without k_of k n ls l found in so_there known t e n (leaves n was.0) l (crowd n was.0 l was.1) ends (h.are_so n l was.1));
    all = λ n on. (let apart = apart_of n on in let was = h.all n (sym (leaves n apart).opened ∙ on) in (was.0, find_other k_of k n ls (λ e. apart (sym e)) ∙ was.1));
    distinct = without_distinct k ls h.distinct;
    few = (let less = without_few k ls in let few = h.few in omega (arith, less, few));
  }

-- ---- closed

module _ (known : Known) (t : List Entry) (ls : List Line) (h : Keeps known t ls) (k : ℕ) (l : Line) (found : line_of k ls ≡ Some l) (not_idle : l.answer ≡ Idle → must_end known t ≡ true) (ends : must_end known t ≡ true → must_end known (Did (Close k) ∷ t) ≡ true) where
  -- where it may be kept though it is closed, the end is to come, or it was one too many
  pub closed_why : MayBeKept known t (exchange_on k t) → IsOneTooMany known t k ⊎ (must_end known t ≡ true)
  closed_why m = by l.answer refl
    where
      by : (a : Answer) → l.answer ≡ a → IsOneTooMany known t k ⊎ (must_end known t ≡ true)
      by Pending e = absurd (subst (Answers known t k) e (h.are_so k l found).answers (idle_heard known t k m))
      by Idle e = inr (not_idle e)
      by Done e = let a : Answers known t k Done = subst (Answers known t k) e (h.are_so k l found).answers in a.1 m

  -- others that were idle still are, but for this one
  still_idle : (ks : List ℕ) → list_any (λ j. j == k) ks ≡ false → AreIdle known t ks → AreIdle known (Did (Close k) ∷ t) ks
  still_idle [] apart are = tt
  still_idle (n ∷ ks) apart are =
      let parts = or_parts (n == k) (list_any (λ j. j == k) ks) apart in
      (idle_there known t (Did (Close k)) n (closes_leave known t n k (λ same. (let clash : true ≡ false = sym (eq-eqb n k same) ∙ parts.0 in cc))) are.0, still_idle ks parts.1 are.1)

  one_idle : (ks : List ℕ) → IsOne k ks → AreIdle known t ks → IsIdle known t k
  one_idle [] i are = cc
  one_idle (n ∷ ks) i are = elim (eqb_tells n k) [
    | inl same ↦ subst (IsIdle known t) same.1 are.0
    | inr apart ↦ one_idle ks (sym (ap (λ b. b || list_any (λ j. j == k) ks) apart.0) ∙ i) are.1
  ]

  crowd_closed : (j : ℕ) → (j ≡ k → ⊥) → (x : Line) → line_of j ls ≡ Some x → is_finished x.answer ≡ true → IsOneTooMany known t j → IsOneTooMany known (Did (Close k) ∷ t) j ⊎ (must_end known (Did (Close k) ∷ t) ≡ true)
  crowd_closed j apart x at is m = elim (cases_Bool (list_any (λ n. n == k) m.others)) [
    | inl there ↦ (elim (closed_why (one_idle m.others there m.are_idle).kept) [
      | inl many ↦ absurd (apart (sym m.is_new ∙ many.is_new))
      | inr over ↦ inr (ends over)
    ])
    | inr out ↦ inl (record { is_new = m.is_new; others = m.others; distinct = m.distinct; are_idle = still_idle m.others out m.are_idle; many = m.many })
  ]

  -- What is kept stays so behind the close.
  pub keeps_closed : Keeps known (Did (Close k) ∷ t) (lines_without k ls)
  keeps_closed =
      keeps_without known t ls h k (Did (Close k)) (λ j apart. closes_leave known t j k apart) (ap (λ b. if b then false else is_open k t) (eq-eqb k k refl)) ends crowd_closed
