-- What a connection was sent is the request of its one exchange.
use Rattle.std.proofs.Common.{ℕ, ◌⊎◌, List, [], ◌∷◌, sym, ap, ◌∙◌, subst, inl, inr}
use Rattle.std.specs.List.{list_any}
use Rattle.model.specs.Messages.{Request, ends_with}
use Rattle.model.specs.Http1.{H1Request, forward}
use Rattle.model.specs.Http2.{HasHead}
use Rattle.model.specs.Octets.{IsStrictFront}
use Rattle.model.specs.Logs.Act.{Open, ToUp, Close, CloseClient}
use Rattle.model.specs.Tapes.{Entry}
use Rattle.model.specs.Tapes.Entry.{Came, Breached, Happened, Sent, Did}
use Rattle.model.specs.Openings.{Opened, opens, sent_for, last_stream}
use Rattle.model.specs.Available.{IsIn}
use Rattle.model.specs.Known.{Known}
use Rattle.model.specs.Courses.{Course, items}
use Rattle.model.specs.RequestClause.{IsSentWhole, IsSentInPart, IsSent, IsServed, GoesOnTo, MayBeServed, BeginInTime, RequestsHold}
use Rattle.model.proofs.OpenLaws.{one_alone, whole_alone, part_alone}
use Rattle.model.proofs.AloneLaws.{reads_alone}
use Rattle.one_exchange.specs.Requests.{IsSentWholeOnce, IsSentInPartOnce, IsServedOnce, MayBeServedOnce, OpenInTime, RequestsHoldOnce}
use Rattle.one_exchange.proofs.Alone.{Stands, before, one_each, text_is}
use Rattle.one_exchange.proofs.Courses.{course_is, must_end_is}

whole_once : (known : Known) (t : List Entry) (o : Opened) (text : List ℕ) → IsSentWhole known t (o ∷ []) text → IsSentWholeOnce text (items known o.stream t)
whole_once known t o text w = let alone = whole_alone known t o text w in record { request = alone.request; means = alone.means; reads = alone.reads }

part_once : (known : Known) (t : List Entry) (o : Opened) (text : List ℕ) → IsSentInPart known t o [] text → IsSentInPartOnce text (items known o.stream t)
part_once known t o text p = let alone = part_alone known t o text p in record {
  some = alone.some;
  reads = alone.reads;
  goes_on = λ request may. on request (alone.goes_on request may);
  in_chunks = alone.in_chunks;
}
  where
    on : (request : Request) → GoesOnTo known text (request ∷ []) → (whole : List ℕ) × H1Request whole (forward request) × IsStrictFront text whole
    on request g = (g.whole, one_alone g.whole (forward request) g.all.reads, g.is_front)

module _ (known : Known) where
  served_once : (t : List Entry) (stream : ℕ) → Stands known t → MayBeServed known t stream → MayBeServedOnce known t stream
  served_once t stream s m = let same = course_is known stream t s in record {
    active = m.active;
    no_cause = ap (λ (c : Course). c.cause) same ∙ m.no_cause;
    goes_on = must_end_is known t s ∙ m.goes_on;
    whole = λ passing. ap (λ (c : Course). list_any ends_with c.items) same ∙ m.whole passing;
  }

  open_in_time : (t : List Entry) → Stands known t → BeginInTime known t → OpenInTime known t
  open_in_time [] s b = tt
  open_in_time (Came noted ∷ t) s b = open_in_time t (before known (Came noted) t s) b
  open_in_time (Breached breach ∷ t) s b = open_in_time t (before known (Breached breach) t s) b
  open_in_time (Happened event ∷ t) s b = open_in_time t (before known (Happened event) t s) b
  open_in_time (Sent noted ∷ t) s b = open_in_time t (before known (Sent noted) t s) b
  open_in_time (Did (Open k route) ∷ t) s b =
      let was = before known (Did (Open k route)) t s in (served_once t (last_stream t) was b.0, open_in_time t was b.2)
  open_in_time (Did (ToUp k octets) ∷ t) s b = open_in_time t (before known (Did (ToUp k octets)) t s) b.1
  open_in_time (Did (Close k) ∷ t) s b = open_in_time t (before known (Did (Close k)) t s) b
  open_in_time (Did CloseClient ∷ t) s b = open_in_time t (before known (Did CloseClient) t s) b

module _ (known : Known) (t : List Entry) (s : Stands known t) (h : RequestsHold known t) where
  -- a text is the request of a connection's stream, whole or in part
  abbrev IsTextOf : Opened → List ℕ → Type 0
  IsTextOf o text = IsSentWholeOnce text (items known o.stream t) ⊎ IsSentInPartOnce text (items known o.stream t)

  sent_once : (o : Opened) → IsIn o (opens t) → IsTextOf o (sent_for o t)
  sent_once o i = by (reads_alone known t o s.off h i s.goes)
    where
      by : IsSent known t (o ∷ []) (sent_for o t) → IsTextOf o (sent_for o t)
      by (inl whole) = inl (whole_once known t o (sent_for o t) whole)
      by (inr part) = inr (part_once known t o (sent_for o t) part)

  is_served : (o : Opened) → IsIn o (opens t) → IsServedOnce known t o
  is_served o i =
      let same = sym (course_is known o.stream t s) in
      let text = sym (text_is known t s o i) in
      let of : IsServed known t o = h.served o (subst (IsIn o) (sym (one_each known t s)) i) in record {
        head = of.head;
        has_head = subst (λ (c : Course). HasHead c.items of.head) same of.has_head;
        well_formed = of.well_formed;
        by_route = of.by_route;
        sent = subst (λ X. X) (λ j. IsSentWholeOnce (text j) (same j).items ⊎ IsSentInPartOnce (text j) (same j).items) (sent_once o i);
      }

  pub requests_hold : RequestsHoldOnce known t
  requests_hold = record { numbered = s.numbered; apart = s.apart; in_time = open_in_time known t s h.in_time; served = is_served }
