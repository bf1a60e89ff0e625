-- Numbers of connections: each exchange is on one that was opened.
use Rattle.std.proofs.Common.{◌≡◌, ℕ, ◌≤◌, ◌<◌, Bool, true, false, List, [], ◌∷◌, length, refl, sym, ap, ◌∙◌, inl, inr, arith, if◌then◌else◌}
use Rattle.std.proofs.lemmas.Bool.{cases_Bool, ne_eqb}
use Rattle.model.specs.Logs.Act.{Open, ToUp, Close, CloseClient}
use Rattle.model.specs.Tapes.{Entry}
use Rattle.model.specs.Tapes.Entry.{Came, Breached, Happened, Sent, Did}
use Rattle.model.specs.Openings.{Opened, opens, exchanges, given, route_of, last_stream, begins_another, AreNumbered, GoToOpen}
use Rattle.model.specs.Admission.{is_open}
use Rattle.model.specs.Available.{IsIn}
use Rattle.model.proofs.GivenLaws.{open_given, number_above}
use Rattle.model.proofs.DeliveryReadings.{number_within}

-- the first exchange of an exchange's connection
pub was_opened : (t : List Entry) (o : Opened) → GoToOpen t → IsIn o (exchanges t) → (p : Opened) × IsIn p (opens t) × (p.k ≡ o.k)
was_opened [] o g i = absurd i
was_opened (Came noted ∷ t) o g i = was_opened t o g i
was_opened (Breached breach ∷ t) o g i = was_opened t o g i
was_opened (Happened event ∷ t) o g i = was_opened t o g i
was_opened (Sent noted ∷ t) o g i = was_opened t o g i
was_opened (Did (Open k route) ∷ t) o g (inl is) = (record { k = k; route = route; stream = last_stream t }, inl refl, ap (λ (x : Opened). x.k) (sym is))
was_opened (Did (Open k route) ∷ t) o g (inr i) = let more = was_opened t o g i in (more.0, inr more.1, more.2)
was_opened (Did (ToUp k octets) ∷ t) o g i = by (was_opened t o g.1) (begins_another (given k (exchanges t)) (last_stream t) octets) i
  where
    by : (IsIn o (exchanges t) → (p : Opened) × IsIn p (opens t) × (p.k ≡ o.k)) → (b : Bool) → IsIn o (if b then record { k = k; route = route_of k (exchanges t); stream = last_stream t } ∷ exchanges t else exchanges t) → (p : Opened) × IsIn p (opens t) × (p.k ≡ o.k)
    by more false i = more i
    by more true (inl is) = let p = open_given k t g.0 in (p.0, p.1, p.2 ∙ ap (λ (x : Opened). x.k) (sym is))
    by more true (inr i) = more i
was_opened (Did (Close k) ∷ t) o g i = was_opened t o g i
was_opened (Did CloseClient ∷ t) o g i = was_opened t o g i

-- it has a number from 1 to as many as were opened
pub none_zero : (t : List Entry) (o : Opened) → AreNumbered (opens t) → GoToOpen t → IsIn o (exchanges t) → o.k ≡ 0 → ⊥
none_zero t o n g i zero = let p = was_opened t o g i in number_above (opens t) p.0 n p.1 (p.2 ∙ zero)

pub within_opened : (t : List Entry) (o : Opened) → AreNumbered (opens t) → GoToOpen t → IsIn o (exchanges t) → o.k ≤ length (opens t)
within_opened t o n g i = let p = was_opened t o g i in let less = number_within (opens t) p.0 n p.1 in let same = p.2 in omega (arith, less, same)

-- so the next number is that of none that is open, nor of an exchange
pub next_shut : (t : List Entry) (k : ℕ) → AreNumbered (opens t) → length (opens t) < k → is_open k t ≡ false
next_shut t k n lt = elim (cases_Bool (is_open k t)) [
  | inl on ↦ absurd (let p = open_given k t on in let less = number_within (opens t) p.0 n p.1 in let same = p.2 in omega (arith, less, same, lt))
  | inr shut ↦ shut
]

-- and the number 0 was given to no stream
pub zero_given : (t : List Entry) → AreNumbered (opens t) → GoToOpen t → given 0 (exchanges t) ≡ 0
zero_given t n g = by (exchanges t) (λ o i. none_zero t o n g i)
  where
    by : (os : List Opened) → ((o : Opened) → IsIn o os → o.k ≡ 0 → ⊥) → given 0 os ≡ 0
    by [] none = refl
    by (o ∷ os) none = ap (λ b. if b then o.stream else given 0 os) (ne_eqb o.k 0 (none o (inl refl))) ∙ by os (λ p i. none p (inr i))
