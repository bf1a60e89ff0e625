-- Why a connection is done with, and which entries leave that as it is.
use Rattle.std.proofs.Common.{◌≡◌, ℕ, true, ◌&&◌, ◌==◌, List, [], ◌∷◌, ◌++◌, refl, sym, ap, subst, if◌then◌else◌}
use Rattle.std.specs.Prelude.{Some}
use Rattle.std.proofs.lemmas.Bool.{ne_eqb}
use Rattle.model.specs.Responses.{IsComplete}
use Rattle.model.specs.Logs.Event.{Client, ClientEnd, ClientTook, Up, UpEnd, UpFailed, UpTook, Drain}
use Rattle.model.specs.Logs.Act.{Open, ToUp, Close, CloseClient}
use Rattle.model.specs.Tapes.{Entry, is_closed}
use Rattle.model.specs.Tapes.Entry.{Came, Breached, Happened, Sent, Did}
use Rattle.model.specs.Openings.{Opened, exchanges, given}
use Rattle.model.specs.Available.{heard_by, ended_by}
use Rattle.model.specs.Known.{Known}
use Rattle.model.specs.Causes.{Cause}
use Rattle.model.specs.Lifetimes.{opened, is_opened}
use Rattle.model.specs.Courses.{items, cause, first_of_both, upstream_of}
use Rattle.model.specs.Offers.{is_to_head}
use Rattle.model.specs.ProgressClause.{Reason}
use Rattle.model.specs.ProgressClause.Reason.{Over, Complete, Answered, ClientClosed}
use Rattle.model.specs.Courses.{cause_of}
use Rattle.model.specs.Idle.{IsAllHeard}
use Rattle.model.proofs.LifeLaws.{lost_stays}
use Rattle.model.proofs.ItemLaws.{head_stays}

-- a cause that came stays
pub cause_stays : (known : Known) (t : List Entry) (e : Entry) (stream : ℕ) (found : Cause) → cause known stream t ≡ Some found → cause known stream (e ∷ t) ≡ Some found
cause_stays known t e stream found is = ap (λ c. first_of_both c (cause_of known stream t e)) is

-- a client that was closed stays so
pub closed_stays : (t : List Entry) (e : Entry) → is_closed t ≡ true → is_closed (e ∷ t) ≡ true
closed_stays t (Came noted) is = is
closed_stays t (Breached breach) is = is
closed_stays t (Happened event) is = is
closed_stays t (Sent noted) is = is
closed_stays t (Did (Open k route)) is = is
closed_stays t (Did (ToUp k octets)) is = is
closed_stays t (Did (Close k)) is = is
closed_stays t (Did CloseClient) is = refl

-- the entry is an answer of this upstream
abbrev pub IsOf : ℕ → Entry → Type 0
IsOf k (Happened event) = k ≡ upstream_of event
IsOf k _ = ⊥

-- what came of an exchange on any other connection is as it was
pub heard_same : (t : List Entry) (e : Entry) (o : Opened) → (IsOf o.k e → ⊥) → heard_by o (e ∷ t) ≡ heard_by o t
heard_same t (Came noted) o other = refl
heard_same t (Breached breach) o other = refl
heard_same t (Happened (Client piece)) o other = refl
heard_same t (Happened ClientEnd) o other = refl
heard_same t (Happened (ClientTook count)) o other = refl
heard_same t (Happened (Up j piece)) o other = ap (λ b. if b && o.stream == given j (exchanges t) then heard_by o t ++ piece else heard_by o t) (ne_eqb o.k j other)
heard_same t (Happened (UpEnd j)) o other = refl
heard_same t (Happened (UpFailed j)) o other = refl
heard_same t (Happened (UpTook j count)) o other = refl
heard_same t (Happened Drain) o other = refl
heard_same t (Sent noted) o other = refl
heard_same t (Did act) o other = refl

-- whether any other ended is as it was
pub ended_same : (t : List Entry) (e : Entry) (o : Opened) → (IsOf o.k e → ⊥) → ended_by o (e ∷ t) ≡ ended_by o t
ended_same t (Came noted) o other = refl
ended_same t (Breached breach) o other = refl
ended_same t (Happened (Client piece)) o other = refl
ended_same t (Happened ClientEnd) o other = refl
ended_same t (Happened (ClientTook count)) o other = refl
ended_same t (Happened (Up j piece)) o other = refl
ended_same t (Happened (UpEnd j)) o other = ap (λ b. if b && o.stream == given j (exchanges t) then true else ended_by o t) (ne_eqb o.k j other)
ended_same t (Happened (UpFailed j)) o other = refl
ended_same t (Happened (UpTook j count)) o other = refl
ended_same t (Happened Drain) o other = refl
ended_same t (Sent noted) o other = refl
ended_same t (Did act) o other = refl

-- ---- reasons

-- What was heard of a connection that is on a stream on which something came stays a whole response, whatever comes but an answer of
-- its own upstream.
module _ (known : Known) (t : List Entry) (e : Entry) (o : Opened) (begun : items known o.stream t ≡ [] → ⊥) (other : IsOf o.k e → ⊥) where
  to_head_same : is_to_head (items known o.stream t) ≡ is_to_head (items known o.stream (e ∷ t))
  to_head_same = head_stays known o.stream t e begun

  pub all_heard_there : IsAllHeard known t o → IsAllHeard known (e ∷ t) o
  all_heard_there c =
      subst (λ x. IsComplete x (ended_by o (e ∷ t)) (is_to_head (items known o.stream (e ∷ t)))) (sym (heard_same t e o other)) (subst (λ x. IsComplete (heard_by o t) x (is_to_head (items known o.stream (e ∷ t)))) (sym (ended_same t e o other)) (subst (λ x. IsComplete (heard_by o t) (ended_by o t) x) to_head_same c))

-- A reason stays, whatever comes but an answer of the connection's own upstream.
pub reason_stays : (known : Known) (t : List Entry) (e : Entry) (o : Opened) → is_opened o.stream t ≡ true → (items known o.stream t ≡ [] → ⊥) → (IsOf o.k e → ⊥) → Reason known t o → Reason known (e ∷ t) o
reason_stays known t e o opened begun other (Over is) = Over (lost_stays t e o.stream opened is)
reason_stays known t e o opened begun other (Complete c) = Complete (all_heard_there known t e o begun other c)
reason_stays known t e o opened begun other (Answered found is) = Answered found (cause_stays known t e o.stream found is)
reason_stays known t e o opened begun other (ClientClosed is) = ClientClosed (closed_stays t e is)
