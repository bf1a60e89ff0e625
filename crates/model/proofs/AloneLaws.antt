-- Where no connection is kept, each has one exchange, and what it was sent is that exchange's.
use Rattle.std.proofs.Common.{◌≡◌, ℕ, suc, ◌<◌, false, not, List, [], ◌∷◌, length, refl, sym, ap, ◌∙◌, subst, inl, inr, arith, if◌then◌else◌}
use Rattle.std.proofs.lemmas.Bool.{eq-eqb, ne_eqb}
use Rattle.model.specs.Logs.Act.{ToUp}
use Rattle.model.specs.Tapes.{Entry, sent_up}
use Rattle.model.specs.Tapes.Entry.{Did}
use Rattle.model.specs.Openings.{Opened, opens, exchanges, exchanges_of, exchange_on, given, route_of, last_stream, begins_another, sent_for, texts_of, AreNumbered, AreApart, GoToOpen}
use Rattle.model.specs.Available.{IsIn}
use Rattle.model.specs.Known.{Known}
use Rattle.model.specs.RequestClause.{BeginInTime, IsSent, RequestsHold}
use Rattle.model.proofs.DeliveryReadings.{number_within, one_number}
use Rattle.model.proofs.ExchangeLaws.{none_kept, newest_in, opened_exchange, texts_joined}

none_of : (k : ℕ) (os : List Opened) → AreNumbered os → length os < k → exchanges_of k os ≡ []
none_of k [] n lt = refl
none_of k (p ∷ os) n lt = let first : p.k ≡ suc (length os) = n.0 in ap (λ b. if b then p ∷ exchanges_of k os else exchanges_of k os) (ne_eqb p.k k (λ e. absurd (omega (arith, lt, e, first)))) ∙ none_of k os n.1 (omega (arith, lt))

-- each has one
pub one_of : (os : List Opened) (o : Opened) → AreNumbered os → IsIn o os → exchanges_of o.k os ≡ o ∷ []
one_of [] o n i = absurd i
one_of (p ∷ os) o n (inl same) =
    let k : p.k ≡ o.k = ap (λ (x : Opened). x.k) (sym same) in
    let first : p.k ≡ suc (length os) = n.0 in
    ap (λ b. if b then p ∷ exchanges_of o.k os else exchanges_of o.k os) (eq-eqb p.k o.k k) ∙ (λ i. sym same i ∷ none_of o.k os n.1 (omega (arith, k, first)) i)
one_of (p ∷ os) o n (inr i) =
    let first : p.k ≡ suc (length os) = n.0 in
    let less = number_within os o n.1 i in
    ap (λ b. if b then p ∷ exchanges_of o.k os else exchanges_of o.k os) (ne_eqb p.k o.k (λ e. absurd (omega (arith, e, first, less)))) ∙ one_of os o n.1 i

module _ (known : Known) (t : List Entry) (off : known.setup.keep ≡ false) (numbered : AreNumbered (opens t)) (apart : AreApart (opens t)) (in_time : BeginInTime known t) (goes : GoToOpen t) where
  pub one_each : exchanges t ≡ opens t
  one_each = none_kept known t off in_time

  pub exchanges_are : (o : Opened) → IsIn o (opens t) → exchanges_of o.k (exchanges t) ≡ o ∷ []
  exchanges_are o i = ap (exchanges_of o.k) one_each ∙ one_of (opens t) o numbered i

  pub sent_is : (o : Opened) → IsIn o (opens t) → sent_up o.k t ≡ sent_for o t
  sent_is o i = texts_joined o.k t (subst AreApart (sym one_each) apart) goes ∙ ap (λ (os : List Opened). texts_of os t) (exchanges_are o i)

-- octets that are put out while the last frame is of the connection's stream begin no other
pub none_begins : (so_far stream : ℕ) (octets : List ℕ) → so_far ≡ stream → begins_another so_far stream octets ≡ false
none_begins so_far stream [] e = refl
none_begins so_far stream (octet ∷ octets) e = ap not (eq-eqb so_far stream e)

pub same_exchanges : (t : List Entry) (k : ℕ) (octets : List ℕ) → given k (exchanges t) ≡ last_stream t → exchanges (Did (ToUp k octets) ∷ t) ≡ exchanges t
same_exchanges t k octets its =
    ap (λ b. if b then record { k = k; route = route_of k (exchanges t); stream = last_stream t } ∷ exchanges t else exchanges t) (none_begins (given k (exchanges t)) (last_stream t) octets its)

-- the newest exchange of a connection is the one that it was opened for
pub newest_is : (t : List Entry) → exchanges t ≡ opens t → AreNumbered (opens t) → (k : ℕ) (o : Opened) → IsIn o (opens t) → o.k ≡ k → exchange_on k t ≡ o
newest_is t same numbered k o i at = one_number (opens t) (exchange_on k t) o numbered (subst (IsIn (exchange_on k t)) same (newest_in k (exchanges t) o (opened_exchange o t i) at)) i (sym at)

-- ---- behind the clause on requests

module _ (known : Known) (t : List Entry) (o : Opened) (off : known.setup.keep ≡ false) (r : RequestsHold known t) (there : IsIn o (opens t)) where
  opened_apart : AreApart (opens t)
  opened_apart = subst AreApart (none_kept known t off r.in_time) r.apart

  pub newest_alone : exchange_on o.k t ≡ o
  newest_alone = newest_is t (none_kept known t off r.in_time) r.numbered o.k o there refl

  pub sent_alone : GoToOpen t → sent_up o.k t ≡ sent_for o t
  sent_alone goes = sent_is known t off r.numbered opened_apart r.in_time goes o there

  pub reads_alone : GoToOpen t → IsSent known t (o ∷ []) (sent_for o t)
  reads_alone goes =
      subst (IsSent known t (o ∷ [])) (sent_alone goes)
      (subst (λ (os : List Opened). IsSent known t os (sent_up o.k t)) (exchanges_are known t off r.numbered opened_apart r.in_time goes o there) (r.sent o there))
