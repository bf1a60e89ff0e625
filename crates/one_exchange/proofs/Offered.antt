-- What is on offer for a stream is the same.
use Rattle.std.proofs.Common.{◌≡◌, ℕ, List, sym, ap, ◌∙◌, subst, inl, inr}
use Rattle.model.specs.Tapes.{Entry}
use Rattle.model.specs.Openings.{Opened, opens}
use Rattle.model.specs.Deliveries.{Delivery}
use Rattle.model.specs.Available.{IsIn, IsShown, heard_by, ended_by}
use Rattle.model.specs.Known.{Known}
use Rattle.model.specs.Causes.{reply}
use Rattle.model.specs.Courses.{Course, course}
use Rattle.model.specs.Offers.{is_to_head, HasNoReply, IsGiven, IsOffered, WasOffered, IsDelivered}
use Rattle.model.specs.ResponseClause.{ResponsesHold}
use Rattle.one_exchange.specs.Connections.{heard, has_ended}
use Rattle.one_exchange.specs.Courses.{course_once}
use Rattle.one_exchange.specs.Responses.{IsGivenOnce, IsOfferedOnce, WasOfferedOnce, IsDeliveredOnce, ResponsesHoldOnce}
use Rattle.one_exchange.proofs.Alone.{Stands, before_all, one_each, heard_is, ended_is}
use Rattle.one_exchange.proofs.Courses.{course_is}

module _ (known : Known) (t : List Entry) (s : Stands known t) where
  pub given_once : (stream : ℕ) (o : Opened) → IsGiven t stream o → IsGivenOnce t stream o
  given_once stream o g = record { is_opened = subst (IsIn o) (one_each known t s) g.is_opened; is_given = g.is_given }

  pub given_now : (stream : ℕ) (o : Opened) → IsGivenOnce t stream o → IsGiven t stream o
  given_now stream o g = record { is_opened = subst (IsIn o) (sym (one_each known t s)) g.is_opened; is_given = g.is_given }

  -- what is shown of a connection is what is shown of its exchange
  abbrev IsShownNow : ℕ → Opened → Delivery → Type 0
  IsShownNow stream o d = IsShown known.setup.passing (heard_by o t) (ended_by o t) (is_to_head (course known stream t).items) d

  abbrev IsShownOnce : ℕ → Opened → Delivery → Type 0
  IsShownOnce stream o d = IsShown known.setup.passing (heard o.k t) (has_ended o.k t) (is_to_head (course_once known stream t).items) d

  shows_is : (stream : ℕ) (o : Opened) (d : Delivery) → IsIn o (opens t) → IsShownNow stream o d ≡ IsShownOnce stream o d
  shows_is stream o d i =
      let same = sym (course_is known stream t s) in
      λ j. IsShown known.setup.passing (heard_is known t s o i j) (ended_is known t s o i j) (is_to_head (same j).items) d

  pub offered_once : (stream : ℕ) (d : Delivery) → IsOffered known t stream d → IsOfferedOnce known t stream d
  offered_once stream d (inl r) = let same = course_is known stream t s in inl (record {
    cause = r.cause;
    has_cause = ap (λ (c : Course). c.cause) same ∙ r.has_cause;
    head_not_out = ap (λ (c : Course). c.head_out) same ∙ r.head_not_out;
    says = r.says ∙ sym (ap (λ (c : Course). reply c.heads_out r.cause) same);
  })
  offered_once stream d (inr p) = let given = given_once stream p.o p.given in inr (record {
    no_reply = subst HasNoReply (sym (course_is known stream t s)) p.no_reply;
    o = p.o;
    given = given;
    shows = subst (λ X. X) (shows_is stream p.o d given.is_opened) p.shows;
  })

  pub offered_now : (stream : ℕ) (d : Delivery) → IsOfferedOnce known t stream d → IsOffered known t stream d
  offered_now stream d (inl r) = let same = sym (course_is known stream t s) in inl (record {
    cause = r.cause;
    has_cause = ap (λ (c : Course). c.cause) same ∙ r.has_cause;
    head_not_out = ap (λ (c : Course). c.head_out) same ∙ r.head_not_out;
    says = r.says ∙ sym (ap (λ (c : Course). reply c.heads_out r.cause) same);
  })
  offered_now stream d (inr p) = inr (record {
    no_reply = subst HasNoReply (course_is known stream t s) p.no_reply;
    o = p.o;
    given = given_now stream p.o p.given;
    shows = subst (λ X. X) (sym (shows_is stream p.o d p.given.is_opened)) p.shows;
  })

-- ---- the clause on responses

was_offered : (known : Known) (t : List Entry) (stream : ℕ) (d : Delivery) → Stands known t → WasOffered known t stream d → WasOfferedOnce known t stream d
was_offered known t stream d s w = record {
  later = w.later;
  earlier = w.earlier;
  is = w.is;
  no_more = w.no_more;
  source = w.source;
  offered = offered_once known w.earlier (before_all known w.later w.earlier (subst (Stands known) w.is s)) stream w.source w.offered;
  part = w.part;
}

delivered : (known : Known) (t : List Entry) (stream : ℕ) → Stands known t → IsDelivered known t stream → IsDeliveredOnce known t stream
delivered known t stream s d = record {
  delivery = d.delivery;
  reads = d.reads;
  offered = elim d.offered [ inl none ↦ inl none | inr was ↦ inr (was_offered known t stream d.delivery s was) ];
}

pub responses_hold : (known : Known) (t : List Entry) → Stands known t → ResponsesHold known t → ResponsesHoldOnce known t
responses_hold known t s h = record {
  table = h.table;
  decodes = h.decodes;
  decoded = h.decoded;
  together = h.together;
  none_begun = h.none_begun;
  limits = h.limits;
  delivered = λ stream. delivered known t stream s (h.delivered stream);
}
