-- An idle connection is given to another stream, and one is opened for a stream: what is kept stays so.
use Rattle.std.proofs.Common.{◌≡◌, ℕ, ◌≤◌, Bool, true, false, not, ◌==◌, List, [], ◌∷◌, map, length, refl, sym, ap, ◌∙◌, subst, inl, inr, arith, if◌then◌else◌}
use Rattle.std.specs.Prelude.{Some}
use Rattle.std.specs.List.{list_any}
use Rattle.std.proofs.lemmas.Bool.{eq-eqb, ne_eqb}
use Rattle.std.proofs.lemmas.Bool.Decides.{eqb_tells}
use Rattle.model.specs.Responses.{IsComplete}
use Rattle.model.specs.Logs.{Act}
use Rattle.model.specs.Logs.Act.{Open, ToUp, Close}
use Rattle.model.specs.Tapes.{Entry}
use Rattle.model.specs.Tapes.Entry.{Did}
use Rattle.model.specs.Admission.{is_open}
use Rattle.model.specs.Openings.{Opened, exchanges, exchange_on, route_of, given, begins_another, last_stream, IsGivenNone}
use Rattle.model.specs.Available.{heard_by, ended_by}
use Rattle.model.specs.Known.{Known}
use Rattle.model.specs.Offers.{is_to_head}
use Rattle.model.specs.ErrorClause.{must_end}
use Rattle.model.specs.Idle.{is_asked_for_head, IsAllHeard, AreDistinct}
use Rattle.model.proofs.ItemLaws.{items_stay}
use Rattle.model.proofs.OfferLemmas.{nothing_complete}
use Rattle.model.proofs.ExchangeLaws.{another_on, first_on, sent_beside, given_one, unheard}
use Rattle.theory_requests.specs.Lines.{Line, k_of, line_of, is_idle, is_finished, idle_ones, with_answer, given_to, lines_given}
use Rattle.theory_requests.specs.Pool.{Answers, IsSo, Keeps}
use Rattle.theory_requests.specs.Lines.Answer.{Pending}
use Rattle.theory_requests.proofs.Lists.{mapped_found, mapped_finds}
use Rattle.theory_requests.proofs.Pool.{IsOne, few_distinct, none_finished, found_there}
use Rattle.model.proofs.AloneLaws as alone
use Rattle.theory_requests.proofs.Pooling.{Leaves, so_there, numbers, idle_distinct, answer_idle, answer_not}

-- the newest exchange of a connection
abbrev newest : ℕ → List Opened → Opened
newest k os = record { k = k; route = route_of k os; stream = given k os }

-- ---- no whole response was heard for a stream that was given none

pub none_heard : (known : Known) (o : Opened) (t : List Entry) (act : Act) → IsGivenNone o.stream (exchanges t) → (o.stream ≡ 0 → ⊥) → heard_by o (Did act ∷ t) ≡ heard_by o t → ended_by o (Did act ∷ t) ≡ ended_by o t → IsAllHeard known (Did act ∷ t) o → ⊥
none_heard known o t act n some heard ended c =
    let empty = unheard o t n some in
    nothing_complete false (is_asked_for_head known o (Did act ∷ t)) (subst (λ x. IsComplete x false (is_asked_for_head known o (Did act ∷ t))) (heard ∙ empty.0) (subst (λ b. IsComplete (heard_by o (Did act ∷ t)) b (is_asked_for_head known o (Did act ∷ t))) (ended ∙ empty.1) c))

-- ---- acts leave other connections

asked_same : (known : Known) (o : Opened) (t : List Entry) (act : Act) → is_asked_for_head known o (Did act ∷ t) ≡ is_asked_for_head known o t
asked_same known o t act = ap is_to_head (sym (items_stay known o.stream t (Did act) refl))

-- a front of the list that is another connection's
route_past : (j : ℕ) (o : Opened) (os : List Opened) → (o.k ≡ j → ⊥) → newest j (o ∷ os) ≡ newest j os
route_past j o os apart = ap {A = Bool} {B = Opened} (λ b. record { k = j; route = if b then o.route else route_of j os; stream = if b then o.stream else given j os }) (ne_eqb o.k j apart)

exchange_beside : (j k : ℕ) (octets : List ℕ) (t : List Entry) → (j ≡ k → ⊥) → exchange_on j (Did (ToUp k octets) ∷ t) ≡ exchange_on j t
exchange_beside j k octets t apart = by (begins_another (given k (exchanges t)) (last_stream t) octets)
  where
    by : (b : Bool) → newest j (if b then another_on k t ∷ exchanges t else exchanges t) ≡ exchange_on j t
    by true = route_past j (another_on k t) (exchanges t) (λ e. apart (sym e))
    by false = refl

pub sends_leave : (known : Known) (t : List Entry) (j k : ℕ) (octets : List ℕ) → (j ≡ k → ⊥) → Leaves known t (Did (ToUp k octets)) j
sends_leave known t j k octets apart = record {
  opened = refl;
  exchange = exchange_beside j k octets t apart;
  heard = refl;
  ended = refl;
  sent = sent_beside (exchange_on j t) t k octets apart;
  to_head = asked_same known (exchange_on j t) t (ToUp k octets);
  closed = refl;
}

pub opens_leave : (known : Known) (t : List Entry) (j k route : ℕ) → (j ≡ k → ⊥) → Leaves known t (Did (Open k route)) j
opens_leave known t j k route apart = record {
  opened = ap (λ b. if b then true else is_open j t) (ne_eqb j k apart);
  exchange = route_past j (first_on k route t) (exchanges t) (λ e. apart (sym e));
  heard = refl;
  ended = refl;
  sent = refl;
  to_head = asked_same known (exchange_on j t) t (Open k route);
  closed = refl;
}

pub closes_leave : (known : Known) (t : List Entry) (j k : ℕ) → (j ≡ k → ⊥) → Leaves known t (Did (Close k)) j
closes_leave known t j k apart = record {
  opened = ap (λ b. if b then false else is_open j t) (ne_eqb j k apart);
  exchange = refl;
  heard = refl;
  ended = refl;
  sent = refl;
  to_head = asked_same known (exchange_on j t) t (Close k);
  closed = refl;
}

-- ---- lines that change

given_idle : (k stream : ℕ) (ls : List Line) → idle_ones (map (given_to k stream) ls) ≡ idle_ones (map (with_answer k Pending) ls)
given_idle k stream [] = refl
given_idle k stream (l ∷ ls) = ap (λ (js : List ℕ). if is_idle (if l.k == k then Pending else l.answer) then l.k ∷ js else js) (given_idle k stream ls)

given_numbers : (k stream : ℕ) (ls : List Line) → numbers (map (given_to k stream) ls) ≡ numbers ls
given_numbers k stream [] = refl
given_numbers k stream (l ∷ ls) = ap (λ (ns : List ℕ). l.k ∷ ns) (given_numbers k stream ls)

-- ---- an idle connection is given to a stream

module _ (known : Known) (t : List Entry) (ls : List Line) (h : Keeps known t ls) (none : list_any (λ (x : Line). is_finished x.answer) ls ≡ false) (k octet : ℕ) (octets : List ℕ) (on : is_open k t ≡ true) (none_given : IsGivenNone (last_stream t) (exchanges t)) (some : last_stream t ≡ 0 → ⊥) (ends : must_end known t ≡ true → must_end known (Did (ToUp k (octet ∷ octets)) ∷ t) ≡ true) where
  abbrev e : Entry
  e = Did (ToUp k (octet ∷ octets))

  abbrev new : List Line
  new = lines_given k (last_stream t) ls

  -- another exchange begins
  pub begins : begins_another (given k (exchanges t)) (last_stream t) (octet ∷ octets) ≡ true
  begins = ap not (ne_eqb (given k (exchanges t)) (last_stream t) (λ same. given_one k (last_stream t) (exchanges t) none_given some (sym same)))

  pub now : exchanges (e ∷ t) ≡ another_on k t ∷ exchanges t
  now = ap (λ b. if b then another_on k t ∷ exchanges t else exchanges t) begins

  exchange_now : exchange_on k (e ∷ t) ≡ another_on k t
  exchange_now =
      ap (newest k) now
      ∙ ap {A = Bool} {B = Opened} (λ b. record { k = k; route = if b then route_of k (exchanges t) else route_of k (exchanges t); stream = if b then last_stream t else given k (exchanges t) }) (eq-eqb k k refl)

  not_heard : IsAllHeard known (e ∷ t) (exchange_on k (e ∷ t)) → ⊥
  not_heard c = none_heard known (another_on k t) t (ToUp k (octet ∷ octets)) none_given some refl refl (subst (IsAllHeard known (e ∷ t)) exchange_now c)

  distinct_now : AreDistinct (numbers new)
  distinct_now = subst AreDistinct (sym (given_numbers k (last_stream t) ls)) h.distinct

  few_now : length (idle_ones new) ≤ known.setup.most_idle
  few_now =
      let less = few_distinct (idle_ones new) (idle_ones ls) (idle_distinct new distinct_now) within in
      let few = h.few in omega (arith, less, few)
    where
      as_pending : (n : ℕ) → IsOne n (idle_ones new) → IsOne n (idle_ones (map (with_answer k Pending) ls))
      as_pending n i = subst (IsOne n) (given_idle k (last_stream t) ls) i

      within : (n : ℕ) → IsOne n (idle_ones new) → IsOne n (idle_ones ls)
      within n i = elim (eqb_tells n k) [
        | inl same ↦ absurd (answer_not k Pending ls refl (subst (λ m. IsOne m (idle_ones (map (with_answer k Pending) ls))) same.1 (as_pending n i)))
        | inr apart ↦ answer_idle k Pending n ls (as_pending n i) apart.1
      ]

  so_now : (n : ℕ) (l : Line) → line_of n new ≡ Some l → IsSo known (e ∷ t) n l
  so_now n l found =
      let was = mapped_found k_of (given_to k (last_stream t)) (λ x. refl) n ls l found in
      let s = h.are_so n was.0 was.1 in
      let number : was.0.k ≡ n = (found_there n ls was.0 was.1).1 in
      subst (IsSo known (e ∷ t) n) (sym was.2) (elim (eqb_tells n k) [
        | inl same ↦ subst (λ b. IsSo known (e ∷ t) n (record { k = was.0.k; route = was.0.route; stream = if b then last_stream t else was.0.stream; answer = if b then Pending else was.0.answer })) (sym (eq-eqb was.0.k k (number ∙ same.1)))
            (subst (λ m. route_of m (exchanges t) ≡ was.0.route → IsSo known (e ∷ t) m (record { k = was.0.k; route = was.0.route; stream = last_stream t; answer = Pending })) (sym same.1)
            (λ route. record { opened = on; route = ap (λ (o : Opened). o.route) exchange_now ∙ route; stream = ap (λ (o : Opened). o.stream) exchange_now; answers = not_heard }) s.route)
        | inr apart ↦ subst (λ b. IsSo known (e ∷ t) n (record { k = was.0.k; route = was.0.route; stream = if b then last_stream t else was.0.stream; answer = if b then Pending else was.0.answer })) (sym (ne_eqb was.0.k k (λ x. apart.1 (sym number ∙ x))))
            (so_there known t e n (sends_leave known t n k (octet ∷ octets) apart.1) was.0 (λ is many. absurd (let clash : true ≡ false = sym is ∙ none_finished n ls was.0 none was.1 in cc)) ends s)
      ])

  pub keeps_given : Keeps known (e ∷ t) new
  keeps_given = record {
    are_so = so_now;
    all = λ n up. (let was = h.all n up in (given_to k (last_stream t) was.0, mapped_finds k_of (given_to k (last_stream t)) (λ x. refl) n ls was.0 was.1));
    distinct = distinct_now;
    few = few_now;
  }

-- ---- octets go out for the exchange that a connection is given to

module _ (known : Known) (t : List Entry) (ls : List Line) (h : Keeps known t ls) (none : list_any (λ (x : Line). is_finished x.answer) ls ≡ false) (k : ℕ) (octets : List ℕ) (pending : (l : Line) → line_of k ls ≡ Some l → l.answer ≡ Pending) (its : given k (exchanges t) ≡ last_stream t) (ends : must_end known t ≡ true → must_end known (Did (ToUp k octets) ∷ t) ≡ true) where
  same_exchanges : exchanges (Did (ToUp k octets) ∷ t) ≡ exchanges t
  same_exchanges = alone.same_exchanges t k octets its

  not_whole : (l : Line) → line_of k ls ≡ Some l → IsAllHeard known (Did (ToUp k octets) ∷ t) (exchange_on k (Did (ToUp k octets) ∷ t)) → ⊥
  not_whole l found c =
      let o = exchange_on k t in
      let here : IsAllHeard known (Did (ToUp k octets) ∷ t) o = subst (IsAllHeard known (Did (ToUp k octets) ∷ t)) (ap (newest k) same_exchanges) c in
      subst (Answers known t k) (pending l found) (h.are_so k l found).answers (subst (λ b. IsComplete (heard_by o t) (ended_by o t) b) (asked_same known o t (ToUp k octets)) here)

  so_sent : (n : ℕ) (l : Line) → line_of n ls ≡ Some l → IsSo known (Did (ToUp k octets) ∷ t) n l
  so_sent n l found = elim (eqb_tells n k) [
    | inl same ↦ (let s = h.are_so n l found in
        let at_k : line_of k ls ≡ Some l = ap (λ m. line_of m ls) (sym same.1) ∙ found in
        record {
          opened = s.opened;
          route = ap (route_of n) same_exchanges ∙ s.route;
          stream = ap (given n) same_exchanges ∙ s.stream;
          answers = subst (Answers known (Did (ToUp k octets) ∷ t) n) (sym (pending l at_k)) (subst (λ m. IsAllHeard known (Did (ToUp k octets) ∷ t) (exchange_on m (Did (ToUp k octets) ∷ t)) → ⊥) (sym same.1) (not_whole l at_k));
        })
    | inr apart ↦ so_there known t (Did (ToUp k octets)) n (sends_leave known t n k octets apart.1) l (λ is many. absurd (let clash : true ≡ false = sym is ∙ none_finished n ls l none found in cc)) ends (h.are_so n l found)
  ]

  pub keeps_sent : Keeps known (Did (ToUp k octets) ∷ t) ls
  keeps_sent = record { are_so = so_sent; all = λ n on. h.all n on; distinct = h.distinct; few = h.few }
