-- Where nothing is due, what each exchange was sent is all that was written for it, and requests that aren't whole are passed on as
-- they come.
use Rattle.std.proofs.Common.{◌≡◌, false, List, sym, ap, ◌∙◌, subst, inl, inr, append-nil}
use Rattle.std.specs.List.{list_any}
use Rattle.model.specs.Messages.{ends_with}
use Rattle.model.specs.Http2.{body_of}
use Rattle.model.specs.Tapes.{Entry}
use Rattle.model.specs.Openings.{Opened, exchanges, sent_for}
use Rattle.model.specs.Available.{IsIn}
use Rattle.model.specs.Known.{Known}
use Rattle.model.specs.Courses.{items}
use Rattle.model.specs.ProgressClause.{AllStreamed}
use Rattle.model.specs.Http1.{HasCome}
use Rattle.theory_requests.specs.State.{State}
use Rattle.theory_requests.specs.State.Due.{Nothing}
use Rattle.theory_requests.proofs.Texts.{none_end}
use Rattle.theory_requests.proofs.Coming.{has_come}
use Rattle.theory_requests.proofs.Standing.{text_of, IsSent, IsDueFor, Stands}

module _ (known : Known) (t : List Entry) (s : State) (h : Stands known t s) (nothing : s.due ≡ Nothing) where
  -- nothing is due, so what was sent is all
  pub sent_all : (o : Opened) → IsIn o (exchanges t) → IsSent known t (sent_for o t) o
  sent_all o i = subst (λ x. IsSent known t x o) (ap (text_of o t) nothing ∙ append-nil (sent_for o t)) (h.given o i).sent

  -- where requests are passed on as they come, all that came is there
  pub all_streamed : AllStreamed known t
  all_streamed streaming stream head active has goes_on = elim (h.fares stream) [
    | inl none ↦ absurd (none.no_head streaming head has)
    | inr some ↦ (elim some [
      | inl due ↦ absurd (subst (λ d. IsDueFor d stream) nothing due)
      | inr g ↦ record {
        o = g.0;
        given = record { is_opened = g.1.is_opened; is_given = g.1.is_given };
        has_come = λ opened.
            let w = (sent_all g.0 g.1.is_opened).writes opened in
            subst (λ n. HasCome (sent_for g.0 t) (body_of (items known n t))) g.1.is_given
            (has_come known.setup.keep (items known g.0.stream t) (sent_for g.0 t) w.0 w.1 (λ whole. none_end (items known g.0.stream t) (subst (λ n. list_any ends_with (items known n t) ≡ false) (sym g.1.is_given) goes_on) (w.1.ends whole)));
      }
    ])
  ]
