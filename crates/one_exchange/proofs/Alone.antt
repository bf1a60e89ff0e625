-- Where no connection is kept, what came of a connection came of its one exchange.
use Rattle.std.proofs.Common.{◌≡◌, ℕ, true, false, ◌&&◌, ◌==◌, List, [], ◌∷◌, ◌++◌, length, refl, sym, ap, ◌∙◌, subst, inl, inr, arith, ◌⊎◌, if◌then◌else◌}
use Rattle.std.proofs.lemmas.Bool.{eq-eqb}
use Rattle.std.proofs.lemmas.Bool.Decides.{eqb_tells}
use Rattle.model.specs.Logs.Event.{Client, ClientEnd, ClientTook, Up, UpEnd, UpFailed, UpTook, Drain}
use Rattle.model.specs.Logs.Act.{Open, ToUp, Close, CloseClient}
use Rattle.model.specs.Tapes.{Entry, sent_up}
use Rattle.model.specs.Tapes.Entry.{Came, Breached, Happened, Sent, Did}
use Rattle.model.specs.Admission.{is_open}
use Rattle.model.specs.Openings.{Opened, opens, exchanges, exchange_on, given, sent_for, AreNumbered, AreApart, GoToOpen}
use Rattle.model.specs.Available.{IsIn, heard_by, ended_by}
use Rattle.model.specs.Known.{Known}
use Rattle.model.specs.RequestClause.{BeginInTime}
use Rattle.model.proofs.DeliveryReadings.{number_within, one_number}
use Rattle.model.proofs.ExchangeLaws.{none_kept, open_exchange}
use Rattle.model.proofs.AloneLaws.{sent_is, newest_is}
use Rattle.one_exchange.specs.Connections.{heard, has_ended, ComeOfOpen, KeepsNone}

-- What holds of such a tape, and of each front of it.
pub record Stands (known : Known) (t : List Entry) : Type 0 where
  pub off : known.setup.keep ≡ false
  pub numbered : AreNumbered (opens t)
  pub apart : AreApart (opens t)
  pub in_time : BeginInTime known t
  pub goes : GoToOpen t
  pub comes : ComeOfOpen t

pub stands : (known : Known) (t : List Entry) → KeepsNone known t → Stands known t
stands known t n = record {
  off = n.off;
  numbered = n.requests.numbered;
  apart = subst AreApart (none_kept known t n.off n.requests.in_time) n.requests.apart;
  in_time = n.requests.in_time;
  goes = n.go_to_open;
  comes = n.come_of_open;
}

-- ---- fronts of the tape

pub comes_before : (e : Entry) (t : List Entry) → ComeOfOpen (e ∷ t) → ComeOfOpen t
comes_before (Came noted) t c = c
comes_before (Breached breach) t c = c
comes_before (Happened (Client piece)) t c = c
comes_before (Happened ClientEnd) t c = c
comes_before (Happened (ClientTook count)) t c = c
comes_before (Happened (Up k piece)) t c = c.1
comes_before (Happened (UpEnd k)) t c = c.1
comes_before (Happened (UpFailed k)) t c = c
comes_before (Happened (UpTook k count)) t c = c
comes_before (Happened Drain) t c = c
comes_before (Sent noted) t c = c
comes_before (Did act) t c = c

in_time_before : (known : Known) (e : Entry) (t : List Entry) → BeginInTime known (e ∷ t) → BeginInTime known t
in_time_before known (Came noted) t b = b
in_time_before known (Breached breach) t b = b
in_time_before known (Happened event) t b = b
in_time_before known (Sent noted) t b = b
in_time_before known (Did (Open k route)) t b = b.2
in_time_before known (Did (ToUp k octets)) t b = b.1
in_time_before known (Did (Close k)) t b = b
in_time_before known (Did CloseClient) t b = b

goes_before : (e : Entry) (t : List Entry) → GoToOpen (e ∷ t) → GoToOpen t
goes_before (Came noted) t g = g
goes_before (Breached breach) t g = g
goes_before (Happened event) t g = g
goes_before (Sent noted) t g = g
goes_before (Did (Open k route)) t g = g
goes_before (Did (ToUp k octets)) t g = g.1
goes_before (Did (Close k)) t g = g
goes_before (Did CloseClient) t g = g

numbered_before : (e : Entry) (t : List Entry) → AreNumbered (opens (e ∷ t)) → AreNumbered (opens t)
numbered_before (Came noted) t n = n
numbered_before (Breached breach) t n = n
numbered_before (Happened event) t n = n
numbered_before (Sent noted) t n = n
numbered_before (Did (Open k route)) t n = n.1
numbered_before (Did (ToUp k octets)) t n = n
numbered_before (Did (Close k)) t n = n
numbered_before (Did CloseClient) t n = n

apart_before : (e : Entry) (t : List Entry) → AreApart (opens (e ∷ t)) → AreApart (opens t)
apart_before (Came noted) t a = a
apart_before (Breached breach) t a = a
apart_before (Happened event) t a = a
apart_before (Sent noted) t a = a
apart_before (Did (Open k route)) t a = a.1
apart_before (Did (ToUp k octets)) t a = a
apart_before (Did (Close k)) t a = a
apart_before (Did CloseClient) t a = a

pub before : (known : Known) (e : Entry) (t : List Entry) → Stands known (e ∷ t) → Stands known t
before known e t s = record {
  off = s.off;
  numbered = numbered_before e t s.numbered;
  apart = apart_before e t s.apart;
  in_time = in_time_before known e t s.in_time;
  goes = goes_before e t s.goes;
  comes = comes_before e t s.comes;
}

pub before_all : (known : Known) (later earlier : List Entry) → Stands known (later ++ earlier) → Stands known earlier
before_all known [] earlier s = s
before_all known (e ∷ later) earlier s = before_all known later earlier (before known e (later ++ earlier) s)

-- ---- what came of a connection

-- The connection was opened, or its number isn't yet.
abbrev IsThere : Opened → List Entry → Type 0
IsThere o t = IsIn o (opens t) ⊎ ((p : Opened) → IsIn p (opens t) → p.k ≡ o.k → ⊥)

there_before : (o : Opened) (e : Entry) (t : List Entry) → AreNumbered (opens (e ∷ t)) → IsThere o (e ∷ t) → IsThere o t
there_before o (Came noted) t n i = i
there_before o (Breached breach) t n i = i
there_before o (Happened event) t n i = i
there_before o (Sent noted) t n i = i
there_before o (Did (Open k route)) t n (inl (inl same)) = inr (λ p i e.
    let number : k ≡ length (opens (Did (Open k route) ∷ t)) = n.0 in
    let own : o.k ≡ k = ap (λ (z : Opened). z.k) same in
    let less = number_within (opens t) p n.1 i in
    omega (arith, number, own, less, e))
there_before o (Did (Open k route)) t n (inl (inr i)) = inl i
there_before o (Did (Open k route)) t n (inr not_yet) = inr (λ p i. not_yet p (inr i))
there_before o (Did (ToUp k octets)) t n i = i
there_before o (Did (Close k)) t n i = i
there_before o (Did CloseClient) t n i = i

module _ (known : Known) where
  -- the exchanges are the connections
  pub one_each : (t : List Entry) → Stands known t → exchanges t ≡ opens t
  one_each t s = none_kept known t s.off s.in_time

  -- an open connection is given to the stream of its exchange
  is_given : (o : Opened) (k : ℕ) (t : List Entry) → Stands known t → is_open k t ≡ true → o.k ≡ k → IsThere o t → (o.stream == given k (exchanges t)) ≡ true
  is_given o k t s on e there =
      let here : IsIn (exchange_on k t) (opens t) = subst (IsIn (exchange_on k t)) (one_each t s) (open_exchange k t on) in
      eq-eqb o.stream (given k (exchanges t)) (elim there [
        | inl i ↦ ap (λ (z : Opened). z.stream) (one_number (opens t) o (exchange_on k t) s.numbered i here e)
        | inr not_yet ↦ absurd (not_yet (exchange_on k t) here (sym e))
      ])

  heard_there : (o : Opened) (t : List Entry) → Stands known t → IsThere o t → heard_by o t ≡ heard o.k t
  heard_there o [] s i = refl
  heard_there o (Came noted ∷ t) s i = heard_there o t (before known (Came noted) t s) i
  heard_there o (Breached breach ∷ t) s i = heard_there o t (before known (Breached breach) t s) i
  heard_there o (Happened (Client piece) ∷ t) s i = heard_there o t (before known (Happened (Client piece)) t s) i
  heard_there o (Happened ClientEnd ∷ t) s i = heard_there o t (before known (Happened ClientEnd) t s) i
  heard_there o (Happened (ClientTook count) ∷ t) s i = heard_there o t (before known (Happened (ClientTook count)) t s) i
  heard_there o (Happened (Up k piece) ∷ t) s i =
      let was = before known (Happened (Up k piece)) t s in
      let same = heard_there o t was i in
      elim (eqb_tells o.k k) [
        | inl x ↦ ap (λ b. if b && o.stream == given k (exchanges t) then heard_by o t ++ piece else heard_by o t) x.0
            ∙ ap (λ b. if b then heard_by o t ++ piece else heard_by o t) (is_given o k t was s.comes.0 x.1 i)
            ∙ ap (λ l. l ++ piece) same
            ∙ sym (ap (λ b. if b then heard o.k t ++ piece else heard o.k t) x.0)
        | inr x ↦ ap (λ b. if b && o.stream == given k (exchanges t) then heard_by o t ++ piece else heard_by o t) x.0
            ∙ same
            ∙ sym (ap (λ b. if b then heard o.k t ++ piece else heard o.k t) x.0)
      ]
  heard_there o (Happened (UpEnd k) ∷ t) s i = heard_there o t (before known (Happened (UpEnd k)) t s) i
  heard_there o (Happened (UpFailed k) ∷ t) s i = heard_there o t (before known (Happened (UpFailed k)) t s) i
  heard_there o (Happened (UpTook k count) ∷ t) s i = heard_there o t (before known (Happened (UpTook k count)) t s) i
  heard_there o (Happened Drain ∷ t) s i = heard_there o t (before known (Happened Drain) t s) i
  heard_there o (Sent noted ∷ t) s i = heard_there o t (before known (Sent noted) t s) i
  heard_there o (Did act ∷ t) s i = heard_there o t (before known (Did act) t s) (there_before o (Did act) t s.numbered i)

  ended_there : (o : Opened) (t : List Entry) → Stands known t → IsThere o t → ended_by o t ≡ has_ended o.k t
  ended_there o [] s i = refl
  ended_there o (Came noted ∷ t) s i = ended_there o t (before known (Came noted) t s) i
  ended_there o (Breached breach ∷ t) s i = ended_there o t (before known (Breached breach) t s) i
  ended_there o (Happened (Client piece) ∷ t) s i = ended_there o t (before known (Happened (Client piece)) t s) i
  ended_there o (Happened ClientEnd ∷ t) s i = ended_there o t (before known (Happened ClientEnd) t s) i
  ended_there o (Happened (ClientTook count) ∷ t) s i = ended_there o t (before known (Happened (ClientTook count)) t s) i
  ended_there o (Happened (Up k piece) ∷ t) s i = ended_there o t (before known (Happened (Up k piece)) t s) i
  ended_there o (Happened (UpEnd k) ∷ t) s i =
      let was = before known (Happened (UpEnd k)) t s in
      let same = ended_there o t was i in
      elim (eqb_tells o.k k) [
        | inl x ↦ ap (λ b. if b && o.stream == given k (exchanges t) then true else ended_by o t) x.0
            ∙ ap (λ b. if b then true else ended_by o t) (is_given o k t was s.comes.0 x.1 i)
            ∙ sym (ap (λ b. if b then true else has_ended o.k t) x.0)
        | inr x ↦ ap (λ b. if b && o.stream == given k (exchanges t) then true else ended_by o t) x.0
            ∙ same
            ∙ sym (ap (λ b. if b then true else has_ended o.k t) x.0)
      ]
  ended_there o (Happened (UpFailed k) ∷ t) s i = ended_there o t (before known (Happened (UpFailed k)) t s) i
  ended_there o (Happened (UpTook k count) ∷ t) s i = ended_there o t (before known (Happened (UpTook k count)) t s) i
  ended_there o (Happened Drain ∷ t) s i = ended_there o t (before known (Happened Drain) t s) i
  ended_there o (Sent noted ∷ t) s i = ended_there o t (before known (Sent noted) t s) i
  ended_there o (Did act ∷ t) s i = ended_there o t (before known (Did act) t s) (there_before o (Did act) t s.numbered i)

module _ (known : Known) (t : List Entry) (s : Stands known t) where
  -- ---- of a connection that was opened

  pub heard_is : (o : Opened) → IsIn o (opens t) → heard_by o t ≡ heard o.k t
  heard_is o i = heard_there known o t s (inl i)

  pub ended_is : (o : Opened) → IsIn o (opens t) → ended_by o t ≡ has_ended o.k t
  ended_is o i = ended_there known o t s (inl i)

  pub text_is : (o : Opened) → IsIn o (opens t) → sent_up o.k t ≡ sent_for o t
  text_is o i = sent_is known t s.off s.numbered s.apart s.in_time s.goes o i

  pub newest : (o : Opened) → IsIn o (opens t) → exchange_on o.k t ≡ o
  newest o i = newest_is t (one_each known t s) s.numbered o.k o i refl

  -- the exchange of an open connection is that one
  pub open_is_in : (k : ℕ) → is_open k t ≡ true → IsIn (exchange_on k t) (opens t)
  open_is_in k on = subst (IsIn (exchange_on k t)) (one_each known t s) (open_exchange k t on)
