-- One thing is shown of what an upstream answered, and one thing is on offer for a stream.
use Rattle.std.proofs.Common.{◌≡◌, ℕ, Bool, true, false, List, sym, ap, ◌∙◌, subst, inl, inr}
use Rattle.std.specs.Prelude.{Option, Some, None}
use Rattle.model.specs.Responses.{Response}
use Rattle.model.specs.Setup.{Passing}
use Rattle.model.specs.Tapes.{Entry}
use Rattle.model.specs.Openings.{Opened, exchanges, AreApart}
use Rattle.model.specs.Deliveries.{Delivery}
use Rattle.model.specs.Available.{heard_by, ended_by, shown, IsAnswered, IsBegun, IsShown}
use Rattle.model.specs.Known.{Known}
use Rattle.model.specs.Causes.{Cause, reply}
use Rattle.model.specs.Courses.{course, items}
use Rattle.model.specs.Offers.{is_to_head, IsReplied, IsPassedOn, IsOffered}
use Rattle.model.proofs.ResponseReadings.{one_response}
use Rattle.model.proofs.DeliveryReadings.{one_connection}
use Rattle.model.proofs.SeenLaws.{one_seen}

-- ---- what is shown of a text

one_answered : (text : List ℕ) (ended to_head : Bool) (d e : Delivery) → IsAnswered text ended to_head d → IsAnswered text ended to_head e → d ≡ e
one_answered text ended to_head d e p q =
    p.says ∙ ap (λ (r : Response). record { interims = r.interims; head = Some r.head; body = r.body; ends = Some r.trailers }) (one_response text ended to_head p.response q.response p.is_whole q.is_whole) ∙ sym q.says

one_begun : (passing : Passing) (text : List ℕ) (ended to_head : Bool) (d e : Delivery) → IsBegun passing text ended to_head d → IsBegun passing text ended to_head e → d ≡ e
one_begun passing text ended to_head d e p q =
    let same = one_seen text to_head p.interims q.interims p.head q.head p.octets q.octets p.seen q.seen in
    p.says ∙ (λ i. shown passing (same.interims i) (same.head i) (same.octets i)) ∙ sym q.says

pub one_shown : (passing : Passing) (text : List ℕ) (ended to_head : Bool) (d e : Delivery) → IsShown passing text ended to_head d → IsShown passing text ended to_head e → d ≡ e
one_shown passing text ended to_head d e (inl p) (inl q) = one_answered text ended to_head d e p q
one_shown passing text ended to_head d e (inl p) (inr q) = absurd (q.not_whole (p.response, p.is_whole))
one_shown passing text ended to_head d e (inr p) (inl q) = absurd (p.not_whole (q.response, q.is_whole))
one_shown passing text ended to_head d e (inr p) (inr q) = one_begun passing text ended to_head d e p q

-- ---- what is on offer for a stream

one_replied : (known : Known) (t : List Entry) (stream : ℕ) (d e : Delivery) → IsReplied known t stream d → IsReplied known t stream e → d ≡ e
one_replied known t stream d e p q =
    let some : Some p.cause ≡ Some q.cause = sym p.has_cause ∙ q.has_cause in
    let causes : p.cause ≡ q.cause = cc in
    p.says ∙ ap (reply (course known stream t).heads_out) causes ∙ sym q.says

not_both : (known : Known) (t : List Entry) (stream : ℕ) (d e : Delivery) → IsReplied known t stream d → IsPassedOn known t stream e → ⊥
not_both known t stream d e p q = elim q.no_reply [
  | inl none ↦ let clash : ◌≡◌ {A = Option Cause} None (Some p.cause) = sym none ∙ p.has_cause in cc
  | inr out ↦ let clash : true ≡ false = sym out ∙ p.head_not_out in cc
]

module _ (known : Known) (t : List Entry) (stream : ℕ) (apart : AreApart (exchanges t)) where
  one_passed : (d e : Delivery) → IsPassedOn known t stream d → IsPassedOn known t stream e → d ≡ e
  one_passed d e p q =
      let same : p.o ≡ q.o = one_connection (exchanges t) p.o q.o apart p.given.is_opened q.given.is_opened (p.given.is_given ∙ sym q.given.is_given) in
      let to_head = is_to_head (items known stream t) in
      one_shown known.setup.passing (heard_by q.o t) (ended_by q.o t) to_head d e (subst (λ (o : Opened). IsShown known.setup.passing (heard_by o t) (ended_by o t) to_head d) same p.shows) q.shows

  pub one_offer : (d e : Delivery) → IsOffered known t stream d → IsOffered known t stream e → d ≡ e
  one_offer d e (inl p) (inl q) = one_replied known t stream d e p q
  one_offer d e (inl p) (inr q) = absurd (not_both known t stream d e p q)
  one_offer d e (inr p) (inl q) = absurd (not_both known t stream e d q p)
  one_offer d e (inr p) (inr q) = one_passed d e p q
