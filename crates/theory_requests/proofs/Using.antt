-- An idle connection is given to the stream that it is due for: what it was given for before is past.
use Rattle.std.proofs.Common.{◌≡◌, ℕ, ◌+◌, ◌<◌, Bool, true, false, List, [], ◌∷◌, ◌++◌, length, refl, sym, ap, ◌∙◌, subst, inl, inr, if◌then◌else◌, arith, append-nil, length-append}
use Rattle.std.specs.Prelude.{Some, ◌⊎◌, option_map}
use Rattle.std.proofs.lemmas.Bool.{eq-eqb, ne_eqb}
use Rattle.std.proofs.lemmas.Bool.Decides.{eqb_tells}
use Rattle.model.specs.Logs.Act.{ToUp}
use Rattle.model.specs.Messages.{Item, Field, ends_with}
use Rattle.model.specs.Tapes.{Entry}
use Rattle.model.specs.Tapes.Entry.{Did}
use Rattle.model.specs.Openings.{Opened, exchanges, exchange_on, last_stream, given, route_of, sent_for, begins_another, IsGivenNone}
use Rattle.model.specs.Admission.{is_open}
use Rattle.model.specs.Available.{IsIn}
use Rattle.model.specs.Known.{Known}
use Rattle.model.specs.Courses.{items}
use Rattle.model.specs.Idle.{MayBeKept, IsIdle, NoneIdleBefore}
use Rattle.model.specs.RequestClause.{IfAnother, MayBeServed, MayBeUsedAgain}
use Rattle.h1_writer.specs.Sending.{Stage, Sending, head_of}
use Rattle.h1_writer.specs.Sending.Stage.{Whole, Counting, Holding, Chunking}
use Rattle.request_rules.specs.Heads.{parts_of}
use Rattle.theory_requests.specs.Written.{IsWritten}
use Rattle.theory_requests.specs.Told.{Told, IsTold}
use Rattle.theory_requests.specs.Lines.{k_of, line_of, given_to, lines_given}
use Rattle.theory_requests.specs.Pool.{Keeps}
use Rattle.theory_requests.specs.State.{held_used, lines_used, Due, State, after}
use Rattle.theory_requests.specs.State.Due.{Nothing, ToUse}
use Rattle.theory_requests.specs.State.Move.{Acts}
use Rattle.theory_requests.specs.Rule.{MayUse}
use Rattle.model.proofs.ItemLaws.{items_stay}
use Rattle.model.proofs.ExchangeLaws.{another_on, nothing_sent, sent_own, sent_other, open_exchange}
use Rattle.model.proofs.DeliveryReadings.{one_connection}
use Rattle.theory_requests.proofs.Lists.{found_key, find_map}
use Rattle.theory_requests.proofs.Pool.{least_idle_is}
use Rattle.theory_requests.proofs.Reusing.{begins, now, sends_leave, keeps_given}
use Rattle.theory_requests.proofs.Texts.{one_ends}
use Rattle.theory_requests.proofs.Standing.{owed, text_of, IsNewest, IsPast, IsSentWhole, Given, IsDueFor, IsStarting, IsDue, IsFor, IsGoing, Stands}
use Rattle.theory_requests.proofs.Passing.{let_go_left}
use Rattle.theory_requests.proofs.Starting.{active_some, given_none_in, going_not_kept, starts_next}
use Rattle.model.specs.Http2.{passed_trailers, first_block}
use Rattle.std.specs.List.{concat, list_any}
use Rattle.model.specs.Lifetimes.{is_active}
use Rattle.model.specs.Http1.{H1Request}

-- ---- a text that is written has octets

head_some : (keep : Bool) (head : List Field) (ended : Bool) → 1 < length (head_of keep (parts_of head) ended)
head_some keep head ended = simp length-append (omega arith)

pub written_some : (keep : Bool) (xs : List Item) (text : List ℕ) (stage : Stage) → IsWritten keep xs text stage → text ≡ [] → ⊥
written_some keep xs text stage w none = by stage w.sending
  where
    nothing : (rest : List ℕ) (ended : Bool) → text ≡ head_of keep (parts_of w.head) ended ++ rest → ⊥
    nothing rest ended is =
        let size : 0 ≡ length (head_of keep (parts_of w.head) ended) + length rest = ap length (sym none) ∙ ap length is ∙ length-append (head_of keep (parts_of w.head) ended) rest in
        let some = head_some keep w.head ended in
        omega (arith, size, some)

    by : (x : Stage) → Sending keep (parts_of w.head) w.ended text w.pieces (passed_trailers (first_block w.more)) x → ⊥
    by Whole s = nothing _ w.ended s.is
    by (Counting left) s = nothing _ false s.is
    by Chunking s = nothing _ false s.is
    by (Holding octet) s =
        let size : 1 ≡ length (head_of keep (parts_of w.head) false) + length (concat w.pieces) = ap (λ x. length (x ++ octet ∷ [])) (sym none) ∙ ap length s.is ∙ length-append (head_of keep (parts_of w.head) false) (concat w.pieces) in
        let some = head_some keep w.head false in
        omega (arith, size, some)

-- ---- the octets go out

module _ (known : Known) (t : List Entry) (s : State) (h : Stands known t s) (k octet : ℕ) (octets : List ℕ) (may : MayUse s k (octet ∷ octets)) where
  abbrev pub e : Entry
  e = Did (ToUp k (octet ∷ octets))

  is_due : (route : ℕ) × IsStarting known t s.live may.stream route (octet ∷ octets) may.stage (Some k)
  is_due = subst (IsDue known t s.live) may.due h.due

  abbrev route : ℕ
  route = is_due.0

  abbrev due : IsStarting known t s.live may.stream route (octet ∷ octets) may.stage (Some k)
  due = is_due.1

  -- the connection is idle, and the least one of its route
  least : IsIdle known t k × NoneIdleBefore known t route k × (route_of k (exchanges t) ≡ route)
  least = least_idle_is known t s.live h.keeps due.none_finished route k due.least

  on : is_open k t ≡ true
  on = least.0.is_open

  there : IsIn (exchange_on k t) (exchanges t)
  there = open_exchange k t on

  none_given : IsGivenNone (last_stream t) (exchanges t)
  none_given = given_none_in (last_stream t) (exchanges t) (λ o i same. due.none_given o (record { is_opened = i; is_given = same ∙ due.last }))

  some : last_stream t ≡ 0 → ⊥
  some = active_some (last_stream t) t (subst (λ n. is_active n t ≡ true) (sym due.last) due.in_time.active)

  others : (o : Opened) → IsIn o (exchanges t) → o.stream ≡ last_stream t → ⊥
  others o i same = due.none_given o (record { is_opened = i; is_given = same ∙ due.last })

  pub is_now : exchanges (e ∷ t) ≡ another_on k t ∷ exchanges t
  is_now = now known t s.live h.keeps due.none_finished k octet octets on none_given some (λ ends. ends)

  -- nothing is owed before, nor behind
  old_owed : (o : Opened) → owed o t s.due ≡ []
  old_owed o = ap (owed o t) may.due

  old_sent : (o : Opened) → IsIn o (exchanges t) → sent_for o (e ∷ t) ≡ sent_for o t
  old_sent o i = sent_other o t k (octet ∷ octets) (others o i)

  new_text : text_of (another_on k t) (e ∷ t) Nothing ≡ octet ∷ octets
  new_text =
      append-nil (sent_for (another_on k t) (e ∷ t)) ∙ sent_own (another_on k t) t k (octet ∷ octets) refl refl ∙ ap (λ x. x ++ octet ∷ octets) (nothing_sent (another_on k t) t none_given h.goes)

  -- ---- the exchange before is past

  its_own : (o : Opened) → IsIn o (exchanges t) → o.k ≡ k → IsNewest t o → o ≡ exchange_on k t
  its_own o i at newest = one_connection (exchanges t) o (exchange_on k t) h.apart i there (sym newest ∙ ap (λ n. given n (exchanges t)) at)

  now_given : given k (exchanges (e ∷ t)) ≡ last_stream t
  now_given = ap (given k) is_now ∙ ap (λ b. if b then last_stream t else given k (exchanges t)) (eq-eqb k k refl)

  own_text : (o : Opened) → text_of o t s.due ≡ sent_for o t
  own_text o = ap (λ x. sent_for o t ++ x) (old_owed o) ∙ append-nil (sent_for o t)

  sent_whole : (o : Opened) → IsIn o (exchanges t) → Given known t s.due o → o.k ≡ k → IsNewest t o → IsSentWhole known.setup.keep (sent_for o t) (items known o.stream t)
  sent_whole o i g at newest = elim g.sent.reads [
    | inl whole ↦ subst (λ x. IsSentWhole known.setup.keep x (items known o.stream t)) (own_text o) whole
    | inr p ↦ absurd (p.part.reads.no_more (text_of o t s.due) [] least.0.kept.request (subst (λ x. H1Request x least.0.kept.request) (ap (λ x. sent_for x t) (sym (its_own o i at newest)) ∙ sym (own_text o)) least.0.kept.sent) (sym (append-nil (text_of o t s.due))))
  ]

  old_place : (o : Opened) → IsIn o (exchanges t) → Given known t s.due o → IsNewest t o → IsNewest (e ∷ t) o ⊎ IsPast known (e ∷ t) o
  old_place o i g newest = elim (eqb_tells k o.k) [
    | inr apart ↦ inl (ap (given o.k) is_now ∙ ap (λ b. if b then last_stream t else given o.k (exchanges t)) apart.0 ∙ newest)
    | inl same ↦ (
        let whole = sent_whole o i g (sym same.1) newest in
        let same_items : items known o.stream (e ∷ t) ≡ items known o.stream t = sym (items_stay known o.stream t e refl) in
        inr (record {
          later = λ newest_now. others o i (sym newest_now ∙ ap (λ n. given n (exchanges (e ∷ t))) (sym same.1) ∙ now_given);
          ended = ap (λ xs. list_any ends_with xs) same_items ∙ one_ends (items known o.stream t) whole.means.ends;
          whole = subst (λ xs. IsSentWhole known.setup.keep (sent_for o (e ∷ t)) xs) (sym same_items) (subst (λ x. IsSentWhole known.setup.keep x (items known o.stream t)) (sym (old_sent o i)) whole);
        }))
  ]

  -- another exchange begins in time

  pub may_be_used : MayBeUsedAgain known t k
  may_be_used = record { served = subst (MayBeServed known t) (sym due.last) due.in_time; idle = least.0; least = subst (λ r. NoneIdleBefore known t r k) (sym least.2) least.1 }

  pub another : begins_another (given k (exchanges t)) (last_stream t) (octet ∷ octets) ≡ true
  another = begins known t s.live h.keeps due.none_finished k octet octets on none_given some (λ ends. ends)

  -- ---- what is kept behind it

  module _ (told behind : Told) (is_told : IsTold known t told) (open_yet : told.closed ≡ false) where
    abbrev pub u : State
    u = after known.setup behind s (Acts (ToUp k (octet ∷ octets)))

    lines_are : u.live ≡ lines_given k may.stream s.live
    lines_are = ap (λ d. lines_used d s.live) may.due

    line_is : (n : ℕ) → line_of n u.live ≡ option_map (given_to k may.stream) (line_of n s.live)
    line_is n = ap (line_of n) lines_are ∙ find_map k_of (given_to k may.stream) (λ l. refl) n s.live

    -- a request that isn't whole goes out on another
    old_line : (other n : ℕ) (stage : Stage) → IsGoing known t s other n stage → IsFor u.live n other
    old_line other n stage w =
        let l = w.line.0 in
        let number : l.k ≡ n = found_key k_of n s.live l w.line.1 in
        let apart : n ≡ k → ⊥ = λ same. going_not_kept known t s h other n stage w (old_owed w.o) ((h.keeps.are_so n l w.line.1).stream ∙ w.line.2) (subst (λ m. MayBeKept known t (exchange_on m t)) (sym same) least.0.kept) in
        (given_to k may.stream l, line_is n ∙ ap (option_map (given_to k may.stream)) w.line.1, ap (λ b. if b then may.stream else l.stream) (ne_eqb l.k k (λ same. apart (sym number ∙ same))) ∙ w.line.2)

    new_line : IsFor u.live k may.stream
    new_line =
        let l = h.keeps.all k on in
        (given_to k may.stream l.0, line_is k ∙ ap (option_map (given_to k may.stream)) l.1, ap (λ b. if b then may.stream else l.0.stream) (eq-eqb l.0.k k (found_key k_of k s.live l.0 l.1)))

    keeps_now : Keeps known (e ∷ t) u.live
    keeps_now =
        subst (Keeps known (e ∷ t)) (ap (λ n. lines_given k n s.live) due.last ∙ sym lines_are)
        (keeps_given known t s.live h.keeps due.none_finished k octet octets on none_given some (λ ends. ends))

    only_for : (d : Due) → d ≡ ToUse k may.stream (octet ∷ octets) may.stage → (other : ℕ) → IsDueFor d other → may.stream ≡ other
    only_for d is other for = subst (λ x. IsDueFor x other) is for

    pub uses_next : Stands known (e ∷ t) u
    uses_next = starts_next known t e s u h (record {
      stream = may.stream;
      route = route;
      text = octet ∷ octets;
      stage = may.stage;
      idle = Some k;
      due = due;
      due_for = only_for s.due may.due;
      new = another_on k t;
      of_stream = due.last;
      of_route = least.2;
      now = is_now;
      same_items = λ other. sym (items_stay known other t e refl);
      new_text = new_text;
      old_text = λ o i. append-nil (sent_for o (e ∷ t)) ∙ old_sent o i ∙ sym (own_text o);
      old_sent = old_sent;
      still_shut = λ o i shut. shut;
      old_place = old_place;
      held_is = ap (λ d. held_used d s.held) may.due;
      new_line = new_line;
      old_line = old_line;
      missing = λ o i none. line_is o.k ∙ ap (option_map (given_to k may.stream)) none;
      numbered = h.numbered;
      count = h.count;
      is_due = tt;
      keeps = keeps_now;
      goes = (on, h.goes);
      in_time = (subst (λ b. IfAnother b (MayBeUsedAgain known t k)) (sym another) may_be_used, h.in_time);
      let_go = let_go_left known t e s h (λ ends. ends) (λ j shut at. sends_leave known t j k (octet ∷ octets) (λ same. let clash : true ≡ false = sym on ∙ ap (λ n. is_open n t) (sym same) ∙ shut in cc));
      closes = λ c. c;
      shut = λ closed. absurd (let clash : true ≡ false = sym closed ∙ sym is_told.closed ∙ open_yet in cc);
    })

-- the octets that are due aren't none
pub used_some : (known : Known) (t : List Entry) (s : State) → Stands known t s → (k : ℕ) (octets : List ℕ) → MayUse s k octets → octets ≡ [] → ⊥
used_some known t s h k octets may none =
    let due : (route : ℕ) × IsStarting known t s.live may.stream route octets may.stage (Some k) = subst (IsDue known t s.live) may.due h.due in
    written_some known.setup.keep (items known may.stream t) octets may.stage due.1.written none

-- Octets with which an idle connection is given to a stream go out.
pub used_next : (known : Known) (t : List Entry) (s : State) → (h : Stands known t s) → (told behind : Told) → IsTold known t told → told.closed ≡ false → (k : ℕ) (octets : List ℕ) → MayUse s k octets → Stands known (Did (ToUp k octets) ∷ t) (after known.setup behind s (Acts (ToUp k octets)))
used_next known t s h told behind is_told open_yet k [] may = absurd (used_some known t s h k [] may refl)
used_next known t s h told behind is_told open_yet k (octet ∷ octets) may = uses_next known t s h k octet octets may told behind is_told open_yet
