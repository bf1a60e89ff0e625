-- Exchanges on connections: which there are, and that what a connection was sent is what its exchanges were sent, in their order.
use Rattle.std.proofs.Common.{◌≡◌, ℕ, Bool, true, false, not, ◌&&◌, ◌==◌, List, [], ◌∷◌, ◌++◌, refl, sym, ap, ◌∙◌, subst, inl, inr, arith, if◌then◌else◌, append_assoc}
use Rattle.std.proofs.lemmas.List.{append-nil}
use Rattle.std.proofs.lemmas.Bool.{ne_eqb, eq-eqb, and_right}
use Rattle.std.proofs.lemmas.Bool.Decides.{eqb_tells}
use Rattle.model.specs.Logs.Event.{Client, ClientEnd, ClientTook, Up, UpEnd, UpFailed, UpTook, Drain}
use Rattle.model.specs.Logs.Act.{Open, ToUp, Close, CloseClient}
use Rattle.model.specs.Tapes.{Entry, sent_up}
use Rattle.model.specs.Tapes.Entry.{Came, Breached, Happened, Sent, Did}
use Rattle.model.specs.Openings.{Opened, opens, last_stream, given, route_of, begins_another, exchanges, exchanges_of, exchange_on, is_of, sent_for, texts_of, IsGivenNone, AreApart, GoToOpen}
use Rattle.model.specs.Admission.{is_open}
use Rattle.model.specs.Available.{heard_by, ended_by, IsIn}
use Rattle.model.specs.Known.{Known}
use Rattle.model.specs.Idle.{IsIdle, FewAreIdle}
use Rattle.model.specs.RequestClause.{IfAnother, MayBeUsedAgain, BeginInTime}
use Rattle.model.proofs.DeliveryReadings.{given_none}
use Rattle.model.proofs.GivenLaws.{open_given}

-- the exchange that octets begin
abbrev pub another_on : ℕ → List Entry → Opened
another_on k t = record { k = k; route = route_of k (exchanges t); stream = last_stream t }

-- the exchange that a connection is opened for
abbrev pub first_on : ℕ → ℕ → List Entry → Opened
first_on k route t = record { k = k; route = route; stream = last_stream t }

-- ---- no exchange but those that connections were opened for, where none is kept

pub none_kept : (known : Known) (t : List Entry) → known.setup.keep ≡ false → BeginInTime known t → exchanges t ≡ opens t
none_kept known [] off b = refl
none_kept known (Came noted ∷ t) off b = none_kept known t off b
none_kept known (Breached breach ∷ t) off b = none_kept known t off b
none_kept known (Happened event ∷ t) off b = none_kept known t off b
none_kept known (Sent noted ∷ t) off b = none_kept known t off b
none_kept known (Did (Open k route) ∷ t) off b = ap (λ (os : List Opened). record { k = k; route = route; stream = last_stream t } ∷ os) (none_kept known t off b.2)
none_kept known (Did (ToUp k octets) ∷ t) off b = by (begins_another (given k (exchanges t)) (last_stream t) octets) b.0 ∙ none_kept known t off b.1
  where
    by : (another : Bool) → IfAnother another (MayBeUsedAgain known t k) → (if another then another_on k t ∷ exchanges t else exchanges t) ≡ exchanges t
    by false h = refl
    by true h = absurd (let no : false ≡ true = sym off ∙ h.idle.kept.keeps in cc)
none_kept known (Did (Close k) ∷ t) off b = none_kept known t off b
none_kept known (Did CloseClient ∷ t) off b = none_kept known t off b

-- ---- each connection has an exchange

-- an exchange stays one when octets are put out
pub kept_in : (o : Opened) (k : ℕ) (octets : List ℕ) (t : List Entry) → IsIn o (exchanges t) → IsIn o (exchanges (Did (ToUp k octets) ∷ t))
kept_in o k octets t i = by (begins_another (given k (exchanges t)) (last_stream t) octets)
  where
    by : (another : Bool) → IsIn o (if another then another_on k t ∷ exchanges t else exchanges t)
    by false = i
    by true = inr i

pub opened_exchange : (o : Opened) (t : List Entry) → IsIn o (opens t) → IsIn o (exchanges t)
opened_exchange o [] i = i
opened_exchange o (Came noted ∷ t) i = opened_exchange o t i
opened_exchange o (Breached breach ∷ t) i = opened_exchange o t i
opened_exchange o (Happened event ∷ t) i = opened_exchange o t i
opened_exchange o (Sent noted ∷ t) i = opened_exchange o t i
opened_exchange o (Did (Open k route) ∷ t) (inl same) = inl same
opened_exchange o (Did (Open k route) ∷ t) (inr i) = inr (opened_exchange o t i)
opened_exchange o (Did (ToUp k octets) ∷ t) i = kept_in o k octets t (opened_exchange o t i)
opened_exchange o (Did (Close k) ∷ t) i = opened_exchange o t i
opened_exchange o (Did CloseClient ∷ t) i = opened_exchange o t i

-- the newest exchange of a connection that has one
pub newest_in : (k : ℕ) (os : List Opened) (o : Opened) → IsIn o os → o.k ≡ k → IsIn (record { k = k; route = route_of k os; stream = given k os }) os
newest_in k [] o i e = absurd i
newest_in k (p ∷ os) o i e = elim (eqb_tells p.k k) [
  | inl x ↦ inl (λ j. record { k = sym x.1 j; route = ap (λ b. if b then p.route else route_of k os) x.0 j; stream = ap (λ b. if b then p.stream else given k os) x.0 j })
  | inr x ↦ elim i [
    | inl same ↦ absurd (x.1 (sym (ap (λ (z : Opened). z.k) same) ∙ e))
    | inr rest ↦ inr (subst (λ (z : Opened). IsIn z os) (λ j. record { k = k; route = sym (ap (λ b. if b then p.route else route_of k os) x.0) j; stream = sym (ap (λ b. if b then p.stream else given k os) x.0) j }) (newest_in k os o rest e))
  ]
]

-- so has one that was given to a stream
pub given_in : (k : ℕ) (os : List Opened) → (given k os ≡ 0 → ⊥) → IsIn (record { k = k; route = route_of k os; stream = given k os }) os
given_in k [] some = some refl
given_in k (p ∷ os) some = elim (eqb_tells p.k k) [
  | inl x ↦ newest_in k (p ∷ os) p (inl refl) x.1
  | inr x ↦ inr (subst (λ (z : Opened). IsIn z os) (λ j. record { k = k; route = sym (ap (λ b. if b then p.route else route_of k os) x.0) j; stream = sym (ap (λ b. if b then p.stream else given k os) x.0) j }) (given_in k os (λ e. some (ap (λ b. if b then p.stream else given k os) x.0 ∙ e))))
]

-- an open connection has one
pub open_exchange : (k : ℕ) (t : List Entry) → is_open k t ≡ true → IsIn (exchange_on k t) (exchanges t)
open_exchange k t on = let o = open_given k t on in newest_in k (exchanges t) o.0 (opened_exchange o.0 t o.1) o.2

-- ---- what an exchange was sent

-- octets for a connection while the last frame is of another stream are another exchange's
pub sent_other : (o : Opened) (t : List Entry) (k : ℕ) (octets : List ℕ) → (o.stream ≡ last_stream t → ⊥) → sent_for o (Did (ToUp k octets) ∷ t) ≡ sent_for o t
sent_other o t k octets apart = ap (λ b. if b then sent_for o t ++ octets else sent_for o t) (ap (λ b. o.k == k && b) (ne_eqb o.stream (last_stream t) apart) ∙ and_right (o.k == k) false refl)

-- and so are those for another connection
pub sent_beside : (o : Opened) (t : List Entry) (k : ℕ) (octets : List ℕ) → (o.k ≡ k → ⊥) → sent_for o (Did (ToUp k octets) ∷ t) ≡ sent_for o t
sent_beside o t k octets apart = ap (λ b. if b && o.stream == last_stream t then sent_for o t ++ octets else sent_for o t) (ne_eqb o.k k apart)

-- its own are put behind what it was sent
pub sent_own : (o : Opened) (t : List Entry) (k : ℕ) (octets : List ℕ) → o.k ≡ k → o.stream ≡ last_stream t → sent_for o (Did (ToUp k octets) ∷ t) ≡ sent_for o t ++ octets
sent_own o t k octets e s =
    ap (λ b. if b && o.stream == last_stream t then sent_for o t ++ octets else sent_for o t) (eq-eqb o.k k e)
    ∙ ap (λ b. if b then sent_for o t ++ octets else sent_for o t) (eq-eqb o.stream (last_stream t) s)

-- none are nothing
pub sent_none : (o : Opened) (t : List Entry) (k : ℕ) → sent_for o (Did (ToUp k []) ∷ t) ≡ sent_for o t
sent_none o t k = by (is_of o k (last_stream t))
  where
    by : (own : Bool) → (if own then sent_for o t ++ [] else sent_for o t) ≡ sent_for o t
    by true = append-nil (sent_for o t)
    by false = refl

-- a stream that was given no connection was given none before octets were put out
pub none_before : (s k : ℕ) (octets : List ℕ) (t : List Entry) → IsGivenNone s (exchanges (Did (ToUp k octets) ∷ t)) → IsGivenNone s (exchanges t)
none_before s k octets t n = by (begins_another (given k (exchanges t)) (last_stream t) octets) n
  where
    by : (another : Bool) → IsGivenNone s (if another then another_on k t ∷ exchanges t else exchanges t) → IsGivenNone s (exchanges t)
    by false n = n
    by true n = n.1

-- Octets that are put out for an open connection are of an exchange that is there.
pub sent_is_given : (k octet : ℕ) (octets : List ℕ) (t : List Entry) → is_open k t ≡ true → IsGivenNone (last_stream t) (exchanges (Did (ToUp k (octet ∷ octets)) ∷ t)) → ⊥
sent_is_given k octet octets t on n = elim (eqb_tells (given k (exchanges t)) (last_stream t)) [
  | inl x ↦ given_none (exchanges t) (last_stream t) (exchange_on k t) (subst (λ (b : Bool). IsGivenNone (last_stream t) (if not b then another_on k t ∷ exchanges t else exchanges t)) x.0 n) (open_exchange k t on) (sym x.1)
  | inr x ↦ (let m = subst (λ (b : Bool). IsGivenNone (last_stream t) (if not b then another_on k t ∷ exchanges t else exchanges t)) x.0 n in m.0 refl)
]

-- What was given to no stream was sent nothing.
pub nothing_sent : (o : Opened) (t : List Entry) → IsGivenNone o.stream (exchanges t) → GoToOpen t → sent_for o t ≡ []
nothing_sent o [] n g = refl
nothing_sent o (Came noted ∷ t) n g = nothing_sent o t n g
nothing_sent o (Breached breach ∷ t) n g = nothing_sent o t n g
nothing_sent o (Happened event ∷ t) n g = nothing_sent o t n g
nothing_sent o (Sent noted ∷ t) n g = nothing_sent o t n g
nothing_sent o (Did (Open k route) ∷ t) n g = nothing_sent o t n.1 g
nothing_sent o (Did (ToUp k []) ∷ t) n g = sent_none o t k ∙ nothing_sent o t n g.1
nothing_sent o (Did (ToUp k (octet ∷ octets)) ∷ t) n g = elim (eqb_tells o.stream (last_stream t)) [
  | inl x ↦ absurd (sent_is_given k octet octets t g.0 (subst (λ (s : ℕ). IsGivenNone s (exchanges (Did (ToUp k (octet ∷ octets)) ∷ t))) x.1 n))
  | inr x ↦ sent_other o t k (octet ∷ octets) x.1 ∙ nothing_sent o t (none_before o.stream k (octet ∷ octets) t n) g.1
]
nothing_sent o (Did (Close k) ∷ t) n g = nothing_sent o t n g
nothing_sent o (Did CloseClient ∷ t) n g = nothing_sent o t n g

-- ---- what was heard of an exchange

-- a connection was given to a stream of its exchanges, if to any
pub given_one : (k s : ℕ) (os : List Opened) → IsGivenNone s os → (s ≡ 0 → ⊥) → s ≡ given k os → ⊥
given_one k s [] n some e = some e
given_one k s (o ∷ os) n some e = elim (eqb_tells o.k k) [
  | inl x ↦ n.0 (e ∙ ap (λ b. if b then o.stream else given k os) x.0)
  | inr x ↦ given_one k s os n.1 some (e ∙ ap (λ b. if b then o.stream else given k os) x.0)
]

apart_of : (o : Opened) (k : ℕ) (os : List Opened) → IsGivenNone o.stream os → (o.stream ≡ 0 → ⊥) → is_of o k (given k os) ≡ false
apart_of o k os n some = ap (λ b. o.k == k && b) (ne_eqb o.stream (given k os) (given_one k o.stream os n some)) ∙ and_right (o.k == k) false refl

-- Nothing was heard for a stream that was given none.
pub unheard : (o : Opened) (t : List Entry) → IsGivenNone o.stream (exchanges t) → (o.stream ≡ 0 → ⊥) → (heard_by o t ≡ []) × (ended_by o t ≡ false)
unheard o [] n some = (refl, refl)
unheard o (Came noted ∷ t) n some = unheard o t n some
unheard o (Breached breach ∷ t) n some = unheard o t n some
unheard o (Happened (Client piece) ∷ t) n some = unheard o t n some
unheard o (Happened ClientEnd ∷ t) n some = unheard o t n some
unheard o (Happened (ClientTook count) ∷ t) n some = unheard o t n some
unheard o (Happened (Up k piece) ∷ t) n some = let more = unheard o t n some in (ap (λ b. if b then heard_by o t ++ piece else heard_by o t) (apart_of o k (exchanges t) n some) ∙ more.0, more.1)
unheard o (Happened (UpEnd k) ∷ t) n some = let more = unheard o t n some in (more.0, ap (λ b. if b then true else ended_by o t) (apart_of o k (exchanges t) n some) ∙ more.1)
unheard o (Happened (UpFailed k) ∷ t) n some = unheard o t n some
unheard o (Happened (UpTook k count) ∷ t) n some = unheard o t n some
unheard o (Happened Drain ∷ t) n some = unheard o t n some
unheard o (Sent noted ∷ t) n some = unheard o t n some
unheard o (Did (Open k route) ∷ t) n some = unheard o t n.1 some
unheard o (Did (ToUp k octets) ∷ t) n some = unheard o t (none_before o.stream k octets t n) some
unheard o (Did (Close k) ∷ t) n some = unheard o t n some
unheard o (Did CloseClient ∷ t) n some = unheard o t n some

-- ---- what a connection was sent

-- with those of one more, if it is of the connection
abbrev texts_if : Bool → Opened → List Opened → List Entry → List ℕ
texts_if here o os t = texts_of (if here then o ∷ os else os) t

texts_same : (os : List Opened) (e : Entry) (t : List Entry) → ((o : Opened) → sent_for o (e ∷ t) ≡ sent_for o t) → texts_of os (e ∷ t) ≡ texts_of os t
texts_same [] e t h = refl
texts_same (o ∷ os) e t h = λ i. texts_same os e t h i ++ h o i

-- where octets are none of theirs
texts_other : (k j : ℕ) (octets : List ℕ) (os : List Opened) (t : List Entry) → IsGivenNone (last_stream t) os → texts_of (exchanges_of k os) (Did (ToUp j octets) ∷ t) ≡ texts_of (exchanges_of k os) t
texts_other k j octets [] t n = refl
texts_other k j octets (o ∷ os) t n = by (o.k == k) (texts_other k j octets os t n.1)
  where
    by : (here : Bool) → texts_of (exchanges_of k os) (Did (ToUp j octets) ∷ t) ≡ texts_of (exchanges_of k os) t → texts_of (if here then o ∷ exchanges_of k os else exchanges_of k os) (Did (ToUp j octets) ∷ t) ≡ texts_of (if here then o ∷ exchanges_of k os else exchanges_of k os) t
    by true more = λ i. more i ++ sent_other o t j octets (λ e. n.0 (sym e)) i
    by false more = more

-- where they are for another connection
texts_beside : (k j : ℕ) (octets : List ℕ) (os : List Opened) (t : List Entry) → (k ≡ j → ⊥) → texts_of (exchanges_of k os) (Did (ToUp j octets) ∷ t) ≡ texts_of (exchanges_of k os) t
texts_beside k j octets [] t apart = refl
texts_beside k j octets (o ∷ os) t apart = elim (eqb_tells o.k k) [
  | inl x ↦ by (o.k == k) (texts_beside k j octets os t apart) (sent_beside o t j octets (λ e. apart (sym x.1 ∙ e)))
  | inr x ↦ ap (λ b. texts_if b o (exchanges_of k os) (Did (ToUp j octets) ∷ t)) x.0 ∙ texts_beside k j octets os t apart ∙ sym (ap (λ b. texts_if b o (exchanges_of k os) t) x.0)
]
  where
    by : (here : Bool) → texts_of (exchanges_of k os) (Did (ToUp j octets) ∷ t) ≡ texts_of (exchanges_of k os) t → sent_for o (Did (ToUp j octets) ∷ t) ≡ sent_for o t → texts_of (if here then o ∷ exchanges_of k os else exchanges_of k os) (Did (ToUp j octets) ∷ t) ≡ texts_of (if here then o ∷ exchanges_of k os else exchanges_of k os) t
    by true more own = λ i. more i ++ own i
    by false more own = more

-- where they are those of the connection's newest exchange
texts_own : (k : ℕ) (octets : List ℕ) (os : List Opened) (t : List Entry) (o : Opened) → AreApart os → IsIn o os → o.k ≡ k → given k os ≡ last_stream t → texts_of (exchanges_of k os) (Did (ToUp k octets) ∷ t) ≡ texts_of (exchanges_of k os) t ++ octets
texts_own k octets [] t o a i e g = absurd i
texts_own k octets (p ∷ os) t o a i e g = elim (eqb_tells p.k k) [
  | inl x ↦ (let own : p.stream ≡ last_stream t = sym (ap (λ b. if b then p.stream else given k os) x.0) ∙ g in
      let others = texts_other k k octets os t (subst (λ (s : ℕ). IsGivenNone s os) own a.0) in
      ap (λ b. texts_if b p (exchanges_of k os) (Did (ToUp k octets) ∷ t)) x.0
      ∙ (λ i. others i ++ sent_own p t k octets x.1 own i)
      ∙ sym (append_assoc (texts_of (exchanges_of k os) t) (sent_for p t) octets)
      ∙ sym (ap (λ b. texts_if b p (exchanges_of k os) t ++ octets) x.0))
  | inr x ↦ (let later : IsIn o os = elim i [ inl same ↦ absurd (x.1 (sym (ap (λ (z : Opened). z.k) same) ∙ e)) | inr rest ↦ rest ] in
      let more = texts_own k octets os t o a.1 later e (sym (ap (λ b. if b then p.stream else given k os) x.0) ∙ g) in
      ap (λ b. texts_if b p (exchanges_of k os) (Did (ToUp k octets) ∷ t)) x.0 ∙ more ∙ sym (ap (λ b. texts_if b p (exchanges_of k os) t ++ octets) x.0))
]

texts_none : (k j : ℕ) (os : List Opened) (t : List Entry) → texts_of (exchanges_of k os) (Did (ToUp j []) ∷ t) ≡ texts_of (exchanges_of k os) t
texts_none k j os t = texts_same (exchanges_of k os) (Did (ToUp j [])) t (λ o. sent_none o t j)

-- exchanges were apart before octets were put out
pub apart_before : (k : ℕ) (octets : List ℕ) (t : List Entry) → AreApart (exchanges (Did (ToUp k octets) ∷ t)) → AreApart (exchanges t)
apart_before k octets t a = by (begins_another (given k (exchanges t)) (last_stream t) octets) a
  where
    by : (another : Bool) → AreApart (if another then another_on k t ∷ exchanges t else exchanges t) → AreApart (exchanges t)
    by false a = a
    by true a = a.1

-- what the exchanges of a connection were sent with these octets, where those begin no other, or do
abbrev texts_with : Bool → ℕ → ℕ → ℕ → List ℕ → List Entry → List ℕ
texts_with so_far k j octet octets t =
    texts_of (exchanges_of k (if not so_far then another_on j t ∷ exchanges t else exchanges t)) (Did (ToUp j (octet ∷ octets)) ∷ t)

joined_here : (k octet : ℕ) (octets : List ℕ) (t : List Entry) → AreApart (exchanges (Did (ToUp k (octet ∷ octets)) ∷ t)) → is_open k t ≡ true → GoToOpen t → sent_up k t ≡ texts_of (exchanges_of k (exchanges t)) t → sent_up k t ++ octet ∷ octets ≡ texts_of (exchanges_of k (exchanges (Did (ToUp k (octet ∷ octets)) ∷ t))) (Did (ToUp k (octet ∷ octets)) ∷ t)
joined_here k octet octets t a on g before = elim (eqb_tells (given k (exchanges t)) (last_stream t)) [
  | inl x ↦ (λ i. before i ++ octet ∷ octets)
      ∙ sym (texts_own k (octet ∷ octets) (exchanges t) t (exchange_on k t) (apart_before k (octet ∷ octets) t a) (open_exchange k t on) refl x.1)
      ∙ sym (ap (λ b. texts_with b k k octet octets t) x.0)
  | inr x ↦ (let n : AreApart (another_on k t ∷ exchanges t) = subst (λ (b : Bool). AreApart (if not b then another_on k t ∷ exchanges t else exchanges t)) x.0 a in
      let own = sent_own (another_on k t) t k (octet ∷ octets) refl refl ∙ ap (λ l. l ++ octet ∷ octets) (nothing_sent (another_on k t) t n.0 g) in
      (λ i. before i ++ octet ∷ octets)
      ∙ sym (λ i. texts_other k k (octet ∷ octets) (exchanges t) t n.0 i ++ own i)
      ∙ sym (ap (λ b. texts_if b (another_on k t) (exchanges_of k (exchanges t)) (Did (ToUp k (octet ∷ octets)) ∷ t)) (eq-eqb k k refl))
      ∙ sym (ap (λ b. texts_with b k k octet octets t) x.0))
]

joined_elsewhere : (k j octet : ℕ) (octets : List ℕ) (t : List Entry) → (k ≡ j → ⊥) → sent_up k t ≡ texts_of (exchanges_of k (exchanges t)) t → sent_up k t ≡ texts_of (exchanges_of k (exchanges (Did (ToUp j (octet ∷ octets)) ∷ t))) (Did (ToUp j (octet ∷ octets)) ∷ t)
joined_elsewhere k j octet octets t apart before = before ∙ sym (by (given j (exchanges t) == last_stream t))
  where
    by : (so_far : Bool) → texts_with so_far k j octet octets t ≡ texts_of (exchanges_of k (exchanges t)) t
    by true = texts_beside k j (octet ∷ octets) (exchanges t) t apart
    by false = ap (λ b. texts_if b (another_on j t) (exchanges_of k (exchanges t)) (Did (ToUp j (octet ∷ octets)) ∷ t)) (ne_eqb j k (λ e. apart (sym e))) ∙ texts_beside k j (octet ∷ octets) (exchanges t) t apart

-- What a connection was sent is what its exchanges were sent, in their order.
pub texts_joined : (k : ℕ) (t : List Entry) → AreApart (exchanges t) → GoToOpen t → sent_up k t ≡ texts_of (exchanges_of k (exchanges t)) t
texts_joined k [] a g = refl
texts_joined k (Came noted ∷ t) a g = texts_joined k t a g ∙ sym (texts_same (exchanges_of k (exchanges t)) (Came noted) t (λ o. refl))
texts_joined k (Breached breach ∷ t) a g = texts_joined k t a g ∙ sym (texts_same (exchanges_of k (exchanges t)) (Breached breach) t (λ o. refl))
texts_joined k (Happened event ∷ t) a g = texts_joined k t a g ∙ sym (texts_same (exchanges_of k (exchanges t)) (Happened event) t (λ o. refl))
texts_joined k (Sent noted ∷ t) a g = texts_joined k t a g ∙ sym (texts_same (exchanges_of k (exchanges t)) (Sent noted) t (λ o. refl))
texts_joined k (Did (Open j route) ∷ t) a g = texts_joined k t a.1 g ∙ sym (by (j == k) (texts_same (exchanges_of k (exchanges t)) (Did (Open j route)) t (λ o. refl)) (nothing_sent (first_on j route t) t a.0 g))
  where
    by : (here : Bool) → texts_of (exchanges_of k (exchanges t)) (Did (Open j route) ∷ t) ≡ texts_of (exchanges_of k (exchanges t)) t → sent_for (first_on j route t) t ≡ [] → texts_of (if here then first_on j route t ∷ exchanges_of k (exchanges t) else exchanges_of k (exchanges t)) (Did (Open j route) ∷ t) ≡ texts_of (exchanges_of k (exchanges t)) t
    by true more none = (λ i. more i ++ none i) ∙ append-nil (texts_of (exchanges_of k (exchanges t)) t)
    by false more none = more
texts_joined k (Did (ToUp j []) ∷ t) a g = none (k == j) ∙ texts_joined k t a g.1 ∙ sym (texts_none k j (exchanges t) t)
  where
    none : (here : Bool) → (if here then sent_up k t ++ [] else sent_up k t) ≡ sent_up k t
    none true = append-nil (sent_up k t)
    none false = refl
texts_joined k (Did (ToUp j (octet ∷ octets)) ∷ t) a g = elim (eqb_tells k j) [
  | inl x ↦ ap (λ b. if b then sent_up k t ++ octet ∷ octets else sent_up k t) x.0
      ∙ subst (λ (n : ℕ). sent_up k t ++ octet ∷ octets ≡ texts_of (exchanges_of k (exchanges (Did (ToUp n (octet ∷ octets)) ∷ t))) (Did (ToUp n (octet ∷ octets)) ∷ t)) x.1
      (joined_here k octet octets t (subst (λ (n : ℕ). AreApart (exchanges (Did (ToUp n (octet ∷ octets)) ∷ t))) (sym x.1) a) (ap (λ n. is_open n t) x.1 ∙ g.0) g.1 (texts_joined k t (apart_before j (octet ∷ octets) t a) g.1))
  | inr x ↦ ap (λ b. if b then sent_up k t ++ octet ∷ octets else sent_up k t) x.0
      ∙ joined_elsewhere k j octet octets t x.1 (texts_joined k t (apart_before j (octet ∷ octets) t a) g.1)
]
texts_joined k (Did (Close j) ∷ t) a g = texts_joined k t a g ∙ sym (texts_same (exchanges_of k (exchanges t)) (Did (Close j)) t (λ o. refl))
texts_joined k (Did CloseClient ∷ t) a g = texts_joined k t a g ∙ sym (texts_same (exchanges_of k (exchanges t)) (Did CloseClient) t (λ o. refl))

-- ---- no idle connection, where none is kept

pub no_idle : (known : Known) (t : List Entry) (k : ℕ) → known.setup.keep ≡ false → IsIdle known t k → ⊥
no_idle known t k off i = let clash : false ≡ true = sym off ∙ i.kept.keeps in cc

pub few_kept : (known : Known) (t : List Entry) → known.setup.keep ≡ false → FewAreIdle known t
few_kept known t off [] d i = omega arith
few_kept known t off (k ∷ ks) d i = absurd (no_idle known t k off i.0)
