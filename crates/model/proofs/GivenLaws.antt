-- Which stream a connection was given to, by its number; and that an open one was opened.
use Rattle.std.proofs.Common.{◌≡◌, ℕ, true, false, List, [], ◌∷◌, refl, sym, ap, ◌∙◌, inl, inr, arith, if◌then◌else◌}
use Rattle.std.proofs.lemmas.Bool.{ne_eqb}
use Rattle.std.proofs.lemmas.Bool.Decides.{eqb_tells}
use Rattle.model.specs.Logs.Event.{Client, ClientEnd, ClientTook, Up, UpEnd, UpFailed, UpTook, Drain}
use Rattle.model.specs.Logs.Act.{Open, ToUp, Close, CloseClient}
use Rattle.model.specs.Tapes.{Entry}
use Rattle.model.specs.Tapes.Entry.{Came, Breached, Happened, Sent, Did}
use Rattle.model.specs.Openings.{Opened, opens, given, last_stream, AreNumbered}
use Rattle.model.specs.Admission.{is_open}
use Rattle.model.specs.Available.{IsIn}
use Rattle.model.proofs.DeliveryReadings.{one_number}

-- the stream that a connection was given to
pub given_is : (os : List Opened) (o : Opened) → AreNumbered os → IsIn o os → given o.k os ≡ o.stream
given_is [] o n i = absurd i
given_is (p ∷ os) o n i = elim (eqb_tells p.k o.k) [
  | inl x ↦ ap (λ b. if b then p.stream else given o.k os) x.0 ∙ ap (λ (z : Opened). z.stream) (one_number (p ∷ os) p o n (inl refl) i x.1)
  | inr x ↦ ap (λ b. if b then p.stream else given o.k os) x.0 ∙ (elim i [
    | inl same ↦ absurd (x.1 (sym (ap (λ (z : Opened). z.k) same)))
    | inr rest ↦ given_is os o n.1 rest
  ])
]

-- a connection's number is above 0
pub number_above : (os : List Opened) (o : Opened) → AreNumbered os → IsIn o os → o.k ≡ 0 → ⊥
number_above [] o n i z = i
number_above (p ∷ os) o n (inl same) z = let first = n.0 in let k : o.k ≡ p.k = ap (λ (x : Opened). x.k) same in omega (arith, first, k, z)
number_above (p ∷ os) o n (inr rest) z = number_above os o n.1 rest z

-- so the number 0 was given to no stream
pub given_zero : (os : List Opened) → AreNumbered os → given 0 os ≡ 0
given_zero [] n = refl
given_zero (p ∷ os) n = ap (λ b. if b then p.stream else given 0 os) (ne_eqb p.k 0 (number_above (p ∷ os) p n (inl refl))) ∙ given_zero os n.1

-- ---- open connections

-- an open connection was opened
pub open_given : (k : ℕ) (t : List Entry) → is_open k t ≡ true → (o : Opened) × IsIn o (opens t) × (o.k ≡ k)
open_given k [] on = absurd (let no : false ≡ true = on in cc)
open_given k (Came noted ∷ t) on = open_given k t on
open_given k (Breached breach ∷ t) on = open_given k t on
open_given k (Happened (Client piece) ∷ t) on = open_given k t on
open_given k (Happened ClientEnd ∷ t) on = open_given k t on
open_given k (Happened (ClientTook count) ∷ t) on = open_given k t on
open_given k (Happened (Up j piece) ∷ t) on = open_given k t on
open_given k (Happened (UpEnd j) ∷ t) on = open_given k t on
open_given k (Happened (UpFailed j) ∷ t) on = elim (eqb_tells k j) [
  | inl same ↦ absurd (let no : false ≡ true = sym (ap (λ b. if b then false else is_open k t) same.0) ∙ on in cc)
  | inr apart ↦ open_given k t (sym (ap (λ b. if b then false else is_open k t) apart.0) ∙ on)
]
open_given k (Happened (UpTook j count) ∷ t) on = open_given k t on
open_given k (Happened Drain ∷ t) on = open_given k t on
open_given k (Sent noted ∷ t) on = open_given k t on
open_given k (Did (Open j route) ∷ t) on = elim (eqb_tells k j) [
  | inl same ↦ (record { k = j; route = route; stream = last_stream t }, inl refl, sym same.1)
  | inr apart ↦ (let was = open_given k t (sym (ap (λ b. if b then true else is_open k t) apart.0) ∙ on) in (was.0, inr was.1, was.2))
]
open_given k (Did (ToUp j octets) ∷ t) on = open_given k t on
open_given k (Did (Close j) ∷ t) on = elim (eqb_tells k j) [
  | inl same ↦ absurd (let no : false ≡ true = sym (ap (λ b. if b then false else is_open k t) same.0) ∙ on in cc)
  | inr apart ↦ open_given k t (sym (ap (λ b. if b then false else is_open k t) apart.0) ∙ on)
]
open_given k (Did CloseClient ∷ t) on = open_given k t on
