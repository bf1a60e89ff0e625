-- A connection is opened for a text that is due.
use Rattle.std.proofs.Common.{◌≡◌, ℕ, suc, ◌<◌, true, false, ◌==◌, ◌&&◌, List, [], ◌∷◌, ◌++◌, length, refl, sym, ap, ◌∙◌, subst, inl, if◌then◌else◌, arith}
use Rattle.std.specs.Prelude.{None}
use Rattle.std.proofs.lemmas.Bool.{eq-eqb, ne_eqb}
use Rattle.model.specs.Logs.Act.{Open}
use Rattle.model.specs.Tapes.{Entry}
use Rattle.model.specs.Tapes.Entry.{Did}
use Rattle.model.specs.Openings.{Opened, opens, exchanges, exchange_on, last_stream, given, sent_for, IsGivenNone}
use Rattle.model.specs.Admission.{is_open}
use Rattle.model.specs.Available.{IsIn}
use Rattle.model.specs.Known.{Known}
use Rattle.model.specs.Courses.{items}
use Rattle.model.specs.RequestClause.{MayBeServed}
use Rattle.h1_writer.specs.Sending.{Stage}
use Rattle.theory_requests.specs.Told.{Told, IsTold}
use Rattle.theory_requests.specs.Lines.{Line, k_of, line_of, lines_opened}
use Rattle.theory_requests.specs.Lines.Answer.{Pending}
use Rattle.theory_requests.specs.Pool.{Keeps}
use Rattle.theory_requests.specs.State.{held_opened, due_opened, due_stream, Due, State, after}
use Rattle.theory_requests.specs.State.Due.{ToOpen, ToSend}
use Rattle.theory_requests.specs.State.Move.{Acts}
use Rattle.theory_requests.specs.Rule.{MayOpen}
use Rattle.model.proofs.ItemLaws.{items_stay}
use Rattle.model.proofs.ExchangeLaws.{nothing_sent}
use Rattle.theory_requests.proofs.Lists.{find_first, find_past}
use Rattle.theory_requests.proofs.Numbers.{within_opened, next_shut}
use Rattle.theory_requests.proofs.Pool.{none_idle}
use Rattle.theory_requests.proofs.Reusing.{opens_leave}
use Rattle.theory_requests.proofs.Losing.{keeps_opened}
use Rattle.theory_requests.proofs.Standing.{owed, text_of, IsDueFor, IsStarting, IsDue, IsFor, IsGoing, Stands}
use Rattle.theory_requests.proofs.Passing.{let_go_left}
use Rattle.theory_requests.proofs.Starting.{active_some, given_none_in, starts_next}
use Rattle.model.specs.Lifetimes.{is_active}

module _ (known : Known) (t : List Entry) (s : State) (h : Stands known t s) (told behind : Told) (is_told : IsTold known t told) (open_yet : told.closed ≡ false) (k route : ℕ) (may : MayOpen s k route) where
  abbrev pub e : Entry
  e = Did (Open k route)

  abbrev pub u : State
  u = after known.setup behind s (Acts (Open k route))

  due : IsStarting known t s.live may.stream route may.text may.stage None
  due = subst (IsDue known t s.live) may.due h.due

  abbrev pub new : Opened
  new = record { k = k; route = route; stream = last_stream t }

  u_due : u.due ≡ ToSend k may.text
  u_due = ap (λ d. due_opened d k) may.due

  for_stream : due_stream s.due ≡ last_stream t
  for_stream = ap due_stream may.due ∙ sym due.last

  abbrev pub first : Line
  first = record { k = k; route = route; stream = due_stream s.due; answer = Pending }

  none_given : IsGivenNone (last_stream t) (exchanges t)
  none_given = given_none_in (last_stream t) (exchanges t) (λ o i same. due.none_given o (record { is_opened = i; is_given = same ∙ due.last }))

  -- the number is that of no other
  next : length (opens t) < k
  next = let is = may.next in let count = h.count in omega (arith, is, count)

  other_k : (o : Opened) → IsIn o (exchanges t) → o.k ≡ k → ⊥
  other_k o i same = let less = within_opened t o h.numbered h.goes i in let above = next in omega (arith, less, above, same)

  same_items : (stream : ℕ) → items known stream (e ∷ t) ≡ items known stream t
  same_items stream = sym (items_stay known stream t e refl)

  -- what is due is due to the new exchange alone
  new_text : text_of new (e ∷ t) u.due ≡ may.text
  new_text =
      ap (λ d. sent_for new t ++ owed new (e ∷ t) d) u_due
      ∙ ap (λ x. x ++ (if k == k && last_stream t == last_stream t then may.text else [])) (nothing_sent new t none_given h.goes)
      ∙ ap (λ b. if b && last_stream t == last_stream t then may.text else []) (eq-eqb k k refl) ∙ ap (λ b. if b then may.text else []) (eq-eqb (last_stream t) (last_stream t) refl)

  old_text : (o : Opened) → IsIn o (exchanges t) → text_of o (e ∷ t) u.due ≡ text_of o t s.due
  old_text o i =
      ap (λ d. sent_for o t ++ owed o (e ∷ t) d) u_due
      ∙ ap (λ b. sent_for o t ++ (if b && o.stream == last_stream t then may.text else [])) (ne_eqb o.k k (other_k o i))
      ∙ sym (ap (λ d. sent_for o t ++ owed o t d) may.due)

  old_lines : (n : ℕ) → (n ≡ k → ⊥) → line_of n u.live ≡ line_of n s.live
  old_lines n apart = find_past k_of n first s.live (λ e. apart (sym e))

  old_line : (other n : ℕ) (stage : Stage) → IsGoing known t s other n stage → IsFor u.live n other
  old_line other n stage w = (w.line.0, old_lines n (λ same. other_k w.o w.given.is_opened (w.number ∙ same)) ∙ w.line.1, w.line.2)

  keeps_now : Keeps known (e ∷ t) u.live
  keeps_now =
      subst (λ n. Keeps known (e ∷ t) (lines_opened k route n s.live)) (sym for_stream)
      (keeps_opened known t s.live h.keeps due.none_finished k route (next_shut t k h.numbered next) none_given (active_some (last_stream t) t (subst (λ n. is_active n t ≡ true) (sym due.last) due.in_time.active)) (λ ends. ends))

  only_for : (d : Due) → d ≡ ToOpen may.stream route may.text may.stage → (other : ℕ) → IsDueFor d other → may.stream ≡ other
  only_for d is other for = subst (λ x. IsDueFor x other) is for

  pub opens_next : Stands known (e ∷ t) u
  opens_next = starts_next known t e s u h (record {
    stream = may.stream;
    route = route;
    text = may.text;
    stage = may.stage;
    idle = None;
    due = due;
    due_for = only_for s.due may.due;
    new = new;
    of_stream = due.last;
    of_route = refl;
    now = refl;
    same_items = same_items;
    new_text = new_text;
    old_text = old_text;
    old_sent = λ o i. refl;
    still_shut = λ o i shut. ap (λ b. if b then true else is_open o.k t) (ne_eqb o.k k (other_k o i)) ∙ shut;
    old_place = λ o i g newest. inl (ap (λ b. if b then last_stream t else given o.k (exchanges t)) (ne_eqb k o.k (λ same. other_k o i (sym same))) ∙ newest);
    held_is = ap (λ d. held_opened d k s.held) may.due;
    new_line = (first, find_first k_of k first s.live refl, for_stream ∙ due.last);
    old_line = old_line;
    missing = λ o i none. old_lines o.k (other_k o i) ∙ none;
    numbered = (may.next ∙ ap suc h.count, h.numbered);
    count = ap suc h.count;
    is_due = subst (IsDue known (e ∷ t) u.live) (sym u_due) (record { line = first; found = find_first k_of k first s.live refl; stream = for_stream; pending = refl; none_finished = due.none_finished });
    keeps = keeps_now;
    goes = h.goes;
    in_time = (subst (MayBeServed known t) (sym due.last) due.in_time, none_idle known t s.live h.keeps due.none_finished route due.least, h.in_time);
    let_go = let_go_left known t e s h (λ ends. ends) (λ j shut there. opens_leave known t j k route (other_k (exchange_on j t) there));
    closes = λ c. c;
    shut = λ closed. absurd (let clash : true ≡ false = sym closed ∙ sym is_told.closed ∙ open_yet in cc);
  })
