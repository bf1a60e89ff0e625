-- Octets that are due go out on the connection that their stream was given.
use Rattle.std.proofs.Common.{◌≡◌, ℕ, Bool, true, false, ◌==◌, List, [], ◌∷◌, ◌++◌, refl, sym, ap, ◌∙◌, subst, inl, inr, if◌then◌else◌, append-nil}
use Rattle.std.specs.Prelude.{Some}
use Rattle.std.proofs.lemmas.Bool.{cases_Bool, and_parts, eqb-true}
use Rattle.model.specs.Logs.Act.{ToUp}
use Rattle.model.specs.Tapes.{Entry}
use Rattle.model.specs.Tapes.Entry.{Did}
use Rattle.model.specs.Openings.{Opened, exchanges, last_stream, given, is_of, sent_for}
use Rattle.model.specs.Admission.{is_open}
use Rattle.model.specs.Available.{IsIn}
use Rattle.model.specs.Known.{Known}
use Rattle.model.specs.Courses.{items}
use Rattle.model.specs.RequestClause.{IfAnother, MayBeUsedAgain}
use Rattle.theory_requests.specs.Told.{Told}
use Rattle.theory_requests.specs.Lines.{Line, line_of}
use Rattle.theory_requests.specs.Lines.Answer.{Pending}
use Rattle.theory_requests.specs.State.{held_used, lines_used, Due, State, after, held_of}
use Rattle.theory_requests.specs.State.Due.{Nothing, ToSend}
use Rattle.theory_requests.specs.State.Move.{Acts}
use Rattle.model.proofs.ItemLaws.{items_stay}
use Rattle.model.proofs.AloneLaws.{none_begins, same_exchanges}
use Rattle.theory_requests.proofs.Reusing.{sends_leave, keeps_sent}
use Rattle.theory_requests.proofs.Standing.{owed, text_of, IsPast, IsSent, IsDueFor, IsSending, IsDue, IsFor, Stands, stands_next}
use Rattle.theory_requests.proofs.Passing.{let_go_left, sent_same, fares_same, way_same}
use Rattle.theory_requests.specs.Pool.{Keeps}

-- octets that are sent to an exchange, or to another
with_octets : (b : Bool) (text octets : List ℕ) → (if b then text ++ octets else text) ≡ text ++ (if b then octets else [])
with_octets true text octets = refl
with_octets false text octets = sym (append-nil text)

module _ (known : Known) (t : List Entry) (s : State) (h : Stands known t s) (k : ℕ) (octets : List ℕ) (is_due : s.due ≡ ToSend k octets) where
  abbrev pub e : Entry
  e = Did (ToUp k octets)

  due : IsSending t s.live k
  due = subst (IsDue known t s.live) is_due h.due

  on : is_open k t ≡ true
  on = (h.keeps.are_so k due.line due.found).opened

  -- the last frame is of the connection's stream
  pub its : given k (exchanges t) ≡ last_stream t
  its = (h.keeps.are_so k due.line due.found).stream ∙ due.stream

  pub same : exchanges (e ∷ t) ≡ exchanges t
  same = same_exchanges t k octets its

  same_items : (stream : ℕ) → items known stream (e ∷ t) ≡ items known stream t
  same_items stream = sym (items_stay known stream t e refl)

  -- what was due is sent
  same_text : (o : Opened) → text_of o (e ∷ t) Nothing ≡ text_of o t s.due
  same_text o =
      append-nil (sent_for o (e ∷ t)) ∙ with_octets (is_of o k (last_stream t)) (sent_for o t) octets ∙ sym (ap (λ d. sent_for o t ++ owed o t d) is_due)

  -- a past exchange is sent nothing
  past : (o : Opened) → IsIn o (exchanges t) → IsPast known t o → sent_for o (e ∷ t) ≡ sent_for o t
  past o i p = elim (cases_Bool (is_of o k (last_stream t))) [
    | inl own ↦ (let parts = and_parts (o.k == k) (o.stream == last_stream t) own in
        absurd (p.later (ap (λ n. given n (exchanges t)) (eqb-true o.k k parts.0) ∙ its ∙ sym (eqb-true o.stream (last_stream t) parts.1))))
    | inr other ↦ ap (λ b. if b then sent_for o t ++ octets else sent_for o t) other
  ]

  pending : (l : Line) → line_of k s.live ≡ Some l → l.answer ≡ Pending
  pending l found = let both : Some due.line ≡ Some l = sym due.found ∙ found in let is : due.line ≡ l = cc in ap (λ (x : Line). x.answer) (sym is) ∙ due.pending

  none_for : (d : Due) → d ≡ ToSend k octets → (stream : ℕ) → IsDueFor d stream → ⊥
  none_for d is stream for = subst (λ x. IsDueFor x stream) is for

  -- what is kept behind it
  module _ (behind : Told) where
    abbrev pub u : State
    u = after known.setup behind s (Acts (ToUp k octets))

    same_lines : u.live ≡ s.live
    same_lines = ap (λ d. lines_used d s.live) is_due

    same_held : u.held ≡ s.held
    same_held = ap (λ d. held_used d s.held) is_due

    pub sends_next : Stands known (e ∷ t) u
    sends_next = stands_next known t e s u h (record {
      same = same;
      same_opens = refl;
      count = refl;
      sent = λ o i g. subst (λ x. IsSent known (e ∷ t) x o) (sym (same_text o)) (sent_same known t e o (text_of o t s.due) i (same_items o.stream) (λ shut. shut) g.sent);
      past = past;
      fares = λ stream. fares_same known t e s.due Nothing stream (λ for. absurd (none_for s.due is_due stream for)) same (same_items stream) (h.fares stream);
      held = λ stream x found.
          way_same known t e s u stream x.way (same_items stream) same (λ o g. same_text o) (λ n stage is line. subst (λ ls. IsFor ls n stream) (sym same_lines) line) (λ n none. ap (line_of n) same_lines ∙ none)
          (h.held stream x (ap (held_of stream) (sym same_held) ∙ found));
      due = tt;
      keeps = subst (Keeps known (e ∷ t)) (sym same_lines) (keeps_sent known t s.live h.keeps due.none_finished k octets pending its (λ ends. ends));
      goes = (on, h.goes);
      in_time = (subst (λ b. IfAnother b (MayBeUsedAgain known t k)) (sym (none_begins (given k (exchanges t)) (last_stream t) octets its)) tt, h.in_time);
      let_go = let_go_left known t e s h (λ ends. ends) (λ j shut at. sends_leave known t j k octets (λ at_it. let clash : true ≡ false = sym on ∙ ap (λ n. is_open n t) (sym at_it) ∙ shut in cc));
      closes = λ c. c;
      shut = λ closed. same_lines ∙ h.shut closed;
    })
