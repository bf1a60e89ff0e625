-- Nothing is due, and connections are closed, as before.
use Rattle.std.proofs.Common.{◌≡◌, ℕ, true, false, List, [], ◌∷◌, refl, sym, ap, ◌∙◌, subst, inr, if◌then◌else◌}
use Rattle.std.specs.List.{list_any}
use Rattle.model.specs.Messages.{ends_with}
use Rattle.model.specs.Http1.{H1Requests, forward, HasCome}
use Rattle.model.specs.Http2.{HasHead, H2Request, body_of}
use Rattle.model.specs.Logs.Act.{Open, ToUp, Close, CloseClient}
use Rattle.model.specs.Tapes.{Entry}
use Rattle.model.specs.Tapes.Entry.{Came, Breached, Happened, Sent, Did}
use Rattle.model.specs.Responses.{IsComplete}
use Rattle.model.specs.Openings.{Opened, opens}
use Rattle.model.specs.Available.{IsIn}
use Rattle.model.specs.Known.{Known}
use Rattle.model.specs.Courses.{Course}
use Rattle.model.specs.Offers.{is_to_head}
use Rattle.model.specs.Idle.{IsAllHeard}
use Rattle.model.specs.Readiness.{IsReady}
use Rattle.model.specs.ProgressClause.{had_closed, is_first_end, was_cut, AllForwarded, AllStreamed, NoneReady, Reason, AreClosed, ClosesRightly, ProgressHolds}
use Rattle.model.specs.ProgressClause.Reason.{Over, Complete, Answered, ClientClosed}
use Rattle.model.proofs.GivenLaws.{open_given}
use Rattle.model.proofs.AloneLaws.{newest_is}
use Rattle.one_exchange.specs.Connections.{heard, has_ended}
use Rattle.one_exchange.specs.Courses.{course_once}
use Rattle.one_exchange.specs.Progress.{was_cut_once, AllForwardedOnce, AllStreamedOnce, IsReadyOnce, NoneReadyOnce, ReasonOnce, AreClosedOnce, ClosesRightlyOnce, ProgressHoldsOnce}
use Rattle.one_exchange.specs.Progress.ReasonOnce.{OverOnce, CompleteOnce, AnsweredOnce, ClosedOnce}
use Rattle.one_exchange.proofs.Alone.{Stands, before, one_each, heard_is, ended_is, text_is, newest}
use Rattle.one_exchange.proofs.Courses.{course_is}
use Rattle.one_exchange.proofs.Offered.{given_once, offered_now}

cut_is : (known : Known) (stream : ℕ) (t : List Entry) → Stands known t → was_cut_once stream t ≡ was_cut stream t
cut_is known stream [] s = refl
cut_is known stream (Came noted ∷ t) s =
    let was = before known (Came noted) t s in
    let same = cut_is known stream t was in
    λ i. if is_first_end stream t noted then had_closed stream (sym (one_each known t was) i) t else same i
cut_is known stream (Breached breach ∷ t) s = cut_is known stream t (before known (Breached breach) t s)
cut_is known stream (Happened event ∷ t) s = cut_is known stream t (before known (Happened event) t s)
cut_is known stream (Sent noted ∷ t) s = cut_is known stream t (before known (Sent noted) t s)
cut_is known stream (Did act ∷ t) s = cut_is known stream t (before known (Did act) t s)

module _ (known : Known) (t : List Entry) (s : Stands known t) where
  -- ---- what is due

  pub all_forwarded : AllForwarded known t → AllForwardedOnce known t
  all_forwarded h = λ stream request place means match not_cut.
      let means_now = subst (λ (c : Course). H2Request c.items request) (course_is known stream t s) means in
      let f = h stream request place means_now match (sym (cut_is known stream t s) ∙ not_cut) in
      let given = given_once known t s stream f.o f.given in
      record {
        o = f.o;
        given = given;
        reads = subst (λ (text : List ℕ). H1Requests text (forward request ∷ []) []) (sym (text_is known t s f.o given.is_opened)) f.reads;
      }

  pub all_streamed : AllStreamed known t → AllStreamedOnce known t
  all_streamed h = λ streaming stream head active has no_end.
      let same = course_is known stream t s in
      let has_now = subst (λ (c : Course). HasHead c.items head) same has in
      let f = h streaming stream head active has_now (sym (ap (λ (c : Course). list_any ends_with c.items) same) ∙ no_end) in
      let given = given_once known t s stream f.o f.given in
      record {
        o = f.o;
        given = given;
        has_come = λ on. subst (λ X. X) (λ i. HasCome (sym (text_is known t s f.o given.is_opened) i) (body_of (sym same i).items)) (f.has_come on);
      }

  pub ready_now : (stream : ℕ) → IsReadyOnce known t stream → IsReady known t stream
  ready_now stream r = record {
    is_active = r.is_active;
    read = r.read;
    offered = r.offered;
    reads = r.reads;
    is_offered = offered_now known t s stream r.offered r.is_offered;
    can_go = r.can_go;
  }

  none_ready : NoneReady known t → NoneReadyOnce known t
  none_ready h = λ few stream r. h few stream (ready_now stream r)

  -- ---- the ends of connections

  whole_is : (o : Opened) → IsIn o (opens t) → IsAllHeard known t o ≡ IsComplete (heard o.k t) (has_ended o.k t) (is_to_head (course_once known o.stream t).items)
  whole_is o i = λ j. IsComplete (heard_is known t s o i j) (ended_is known t s o i j) (is_to_head (sym (course_is known o.stream t s) j).items)

  reason_once : (o : Opened) → IsIn o (opens t) → Reason known t o → ReasonOnce known t o
  reason_once o i (Over over) = OverOnce over
  reason_once o i (Complete whole) = CompleteOnce (subst (λ X. X) (whole_is o i) whole)
  reason_once o i (Answered found is) = AnsweredOnce found (ap (λ (c : Course). c.cause) (course_is known o.stream t s) ∙ is)
  reason_once o i (ClientClosed closed) = ClosedOnce closed

  reason_now : (o : Opened) → IsIn o (opens t) → ReasonOnce known t o → Reason known t o
  reason_now o i (OverOnce over) = Over over
  reason_now o i (CompleteOnce whole) = Complete (subst (λ X. X) (sym (whole_is o i)) whole)
  reason_now o i (AnsweredOnce found is) = Answered found (sym (ap (λ (c : Course). c.cause) (course_is known o.stream t s)) ∙ is)
  reason_now o i (ClosedOnce closed) = ClientClosed closed

  are_closed : AreClosed known t → AreClosedOnce known t
  are_closed h = λ o i on r.
      let kept = h o.k on (subst (Reason known t) (sym (newest known t s o i)) (reason_now o i r)) in
      let clash : false ≡ true = sym s.off ∙ kept.keeps in cc

  closes : (earlier : List Entry) → ((o : Opened) → IsIn o (opens earlier) → IsIn o (opens t)) → ClosesRightly known t earlier → ClosesRightlyOnce known t earlier
  closes [] within c = tt
  closes (Came noted ∷ earlier) within c = closes earlier within c
  closes (Breached breach ∷ earlier) within c = closes earlier within c
  closes (Happened event ∷ earlier) within c = closes earlier within c
  closes (Sent noted ∷ earlier) within c = closes earlier within c
  closes (Did (Open k route) ∷ earlier) within c = closes earlier (λ o i. within o (inr i)) c
  closes (Did (ToUp k octets) ∷ earlier) within c = closes earlier within c
  closes (Did (Close k) ∷ earlier) within c =
      let done = c.0 in
      let found = open_given k earlier done.was_open in
      let there = within found.0 found.1 in
      let same = newest_is t (one_each known t s) s.numbered k found.0 there found.2 in
      let reason = reason_once found.0 there (subst (Reason known t) same done.reason) in
      (done.was_open, record { o = found.0; is_opened = there; number = found.2; reason = reason }, closes earlier within c.1)
  closes (Did CloseClient ∷ earlier) within c = closes earlier within c

  pub progress_holds : ProgressHolds known t → ProgressHoldsOnce known t
  progress_holds h = record {
    forwarded = all_forwarded h.forwarded;
    streamed = all_streamed h.streamed;
    none_ready = none_ready h.none_ready;
    closed = are_closed h.closed;
    closes = closes t (λ o i. i) h.closes;
    go_to_open = h.go_to_open;
  }
