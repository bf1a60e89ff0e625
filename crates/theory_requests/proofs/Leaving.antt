-- Entries that leave connections as they are, failures, and that connections that were closed stay done with.
use Rattle.std.proofs.Common.{◌≡◌, ℕ, true, false, List, [], ◌∷◌, refl, sym, ap, ◌∙◌, subst, inl, inr, if◌then◌else◌}
use Rattle.std.specs.Prelude.{◌⊎◌}
use Rattle.std.specs.List.{list_any}
use Rattle.std.proofs.lemmas.Bool.{eq-eqb, ne_eqb}
use Rattle.model.specs.Logs.{Event}
use Rattle.model.specs.Logs.Event.{Client, ClientEnd, ClientTook, Up, UpEnd, UpFailed, UpTook, Drain}
use Rattle.model.specs.Logs.Act.{Open, ToUp, Close, CloseClient}
use Rattle.model.specs.Tapes.{Noted, Breach, Entry, is_closed}
use Rattle.model.specs.Tapes.Entry.{Came, Breached, Happened, Sent, Did}
use Rattle.model.specs.Admission.{is_open}
use Rattle.model.specs.Openings.{Opened, exchanges, exchange_on, given}
use Rattle.model.specs.Available.{IsIn}
use Rattle.model.specs.Streams.{items_of}
use Rattle.model.specs.Offers.{is_to_head}
use Rattle.model.specs.Known.{Known}
use Rattle.model.specs.Lifetimes.{is_opened}
use Rattle.model.specs.Courses.{items, upstream_of}
use Rattle.model.specs.ErrorClause.{must_end}
use Rattle.model.specs.Idle.{is_asked_for_head, MayBeKept, IsOneTooMany}
use Rattle.model.specs.ProgressClause.{Reason, ClosesRightly}
use Rattle.model.specs.ProgressClause.Reason.{Over, Complete, Answered, ClientClosed}
use Rattle.model.proofs.ItemLaws.{head_stays, items_stay}
use Rattle.model.proofs.ExchangeLaws.{kept_in}
use Rattle.theory_requests.specs.Lines.{Line, is_finished, lines_without}
use Rattle.theory_requests.specs.Pool.{Keeps}
use Rattle.theory_requests.proofs.Pool.{none_finished}
use Rattle.theory_requests.proofs.Pooling.{Leaves, heard_there, kept_back}
use Rattle.theory_requests.proofs.Reasons.{heard_same, ended_same, cause_stays, closed_stays}
use Rattle.model.proofs.LifeLaws.{lost_stays}
use Rattle.theory_requests.proofs.Losing.{keeps_without}

-- ---- frames, breaches and events of other connections

-- an event of another connection leaves this one open or not
pub open_same : (t : List Entry) (event : Event) (k : ℕ) → (k ≡ upstream_of event → ⊥) → is_open k (Happened event ∷ t) ≡ is_open k t
open_same t (Client piece) k other = refl
open_same t ClientEnd k other = refl
open_same t (ClientTook count) k other = refl
open_same t (Up j piece) k other = refl
open_same t (UpEnd j) k other = refl
open_same t (UpFailed j) k other = ap (λ b. if b then false else is_open k t) (ne_eqb k j other)
open_same t (UpTook j count) k other = refl
open_same t Drain k other = refl

-- whether a request asks for a head stays, where no item comes
head_same : (known : Known) (o : Opened) (t : List Entry) (e : Entry) → items_of o.stream t e ≡ [] → is_asked_for_head known o (e ∷ t) ≡ is_asked_for_head known o t
head_same known o t e none = ap is_to_head (sym (items_stay known o.stream t e none))

pub came_leaves : (known : Known) (t : List Entry) (k : ℕ) (noted : Noted) → (items known (given k (exchanges t)) t ≡ [] → ⊥) → Leaves known t (Came noted) k
came_leaves known t k noted begun = record { opened = refl; exchange = refl; heard = refl; ended = refl; sent = refl; to_head = sym (head_stays known (given k (exchanges t)) t (Came noted) begun); closed = refl }

pub sent_leaves : (known : Known) (t : List Entry) (k : ℕ) (noted : Noted) → Leaves known t (Sent noted) k
sent_leaves known t k noted = record { opened = refl; exchange = refl; heard = refl; ended = refl; sent = refl; to_head = head_same known (exchange_on k t) t (Sent noted) refl; closed = refl }

pub breach_leaves : (known : Known) (t : List Entry) (k : ℕ) (breach : Breach) → Leaves known t (Breached breach) k
breach_leaves known t k breach = record { opened = refl; exchange = refl; heard = refl; ended = refl; sent = refl; to_head = head_same known (exchange_on k t) t (Breached breach) refl; closed = refl }

pub event_leaves : (known : Known) (t : List Entry) (k : ℕ) (event : Event) → (k ≡ upstream_of event → ⊥) → Leaves known t (Happened event) k
event_leaves known t k event apart = record {
  opened = open_same t event k apart;
  exchange = refl;
  heard = heard_same t (Happened event) (exchange_on k t) apart;
  ended = ended_same t (Happened event) (exchange_on k t) apart;
  sent = refl;
  to_head = head_same known (exchange_on k t) t (Happened event) refl;
  closed = refl;
}

-- ---- a connection fails

pub keeps_failed : (known : Known) (t : List Entry) (ls : List Line) → Keeps known t ls → list_any (λ (x : Line). is_finished x.answer) ls ≡ false → must_end known t ≡ false → (k : ℕ) → Keeps known (Happened (UpFailed k) ∷ t) (lines_without k ls)
keeps_failed known t ls h none goes_on k =
    keeps_without known t ls h k (Happened (UpFailed k)) (λ j apart. event_leaves known t j (UpFailed k) apart)
    (ap (λ b. if b then false else is_open k t) (eq-eqb k k refl)) (λ ends. absurd (let clash : true ≡ false = sym ends ∙ goes_on in cc))
    (λ j apart l found is many. absurd (let clash : true ≡ false = sym is ∙ none_finished j ls l none found in cc))

-- ---- connections that were closed

-- One that was closed behind a tape had an exchange and isn't open; and there is a reason, and it may not be kept or was one too many; or
-- the end is to come.
pub record IsLetGo (known : Known) (t : List Entry) (k : ℕ) (earlier : List Entry) : Type 0 where
  pub was_open : is_open k earlier ≡ true
  pub there : IsIn (exchange_on k t) (exchanges t)
  pub shut : is_open k t ≡ false
  pub why : (Reason known t (exchange_on k t) × (MayBeKept known t (exchange_on k t) → IsOneTooMany known earlier k)) ⊎ (must_end known t ≡ true)

abbrev pub LetGo : Known → List Entry → List Entry → Type 0
LetGo known t [] = Unit {0}
LetGo known t (Did (Close k) ∷ u) = IsLetGo known t k u × LetGo known t u
LetGo known t (_ ∷ u) = LetGo known t u

-- an exchange stays one
pub stays_in : (o : Opened) (t : List Entry) (e : Entry) → IsIn o (exchanges t) → IsIn o (exchanges (e ∷ t))
stays_in o t (Came noted) i = i
stays_in o t (Breached breach) i = i
stays_in o t (Happened event) i = i
stays_in o t (Sent noted) i = i
stays_in o t (Did (Open k route)) i = inr i
stays_in o t (Did (ToUp k octets)) i = kept_in o k octets t i
stays_in o t (Did (Close k)) i = i
stays_in o t (Did CloseClient) i = i

-- a reason stays, where the connection is left as it is
pub reason_there : (known : Known) (t : List Entry) (e : Entry) (k : ℕ) → Leaves known t e k → is_opened (given k (exchanges t)) t ≡ true → Reason known t (exchange_on k t) → Reason known (e ∷ t) (exchange_on k (e ∷ t))
reason_there known t e k l opened (Over is) = subst (Reason known (e ∷ t)) (sym l.exchange) (Over (lost_stays t e (given k (exchanges t)) opened is))
reason_there known t e k l opened (Complete c) = Complete (heard_there known t e k l c)
reason_there known t e k l opened (Answered found is) = subst (Reason known (e ∷ t)) (sym l.exchange) (Answered found (cause_stays known t e (given k (exchanges t)) found is))
reason_there known t e k l opened (ClientClosed is) = ClientClosed (closed_stays t e is)

pub let_go_there : (known : Known) (t : List Entry) (e : Entry) (k : ℕ) (u : List Entry) → Leaves known t e k → is_opened (given k (exchanges t)) t ≡ true → (must_end known t ≡ true → must_end known (e ∷ t) ≡ true) → IsLetGo known t k u → IsLetGo known (e ∷ t) k u
let_go_there known t e k u l opened ends g = record {
  was_open = g.was_open;
  there = subst (λ (o : Opened). IsIn o (exchanges (e ∷ t))) (sym l.exchange) (stays_in (exchange_on k t) t e g.there);
  shut = l.opened ∙ g.shut;
  why = elim g.why [
    | inl reason ↦ inl (reason_there known t e k l opened reason.0, λ m. reason.1 (kept_back known t e k l m))
    | inr over ↦ inr (ends over)
  ];
}

-- So all that were closed stay let go, where each of them does.
pub let_go_stay : (known : Known) (t : List Entry) (e : Entry) → ((k : ℕ) (u : List Entry) → IsLetGo known t k u → IsLetGo known (e ∷ t) k u) → (v : List Entry) → LetGo known t v → LetGo known (e ∷ t) v
let_go_stay known t e go [] g = tt
let_go_stay known t e go (Did (Close k) ∷ v) g = (go k v g.0, let_go_stay known t e go v g.1)
let_go_stay known t e go (Did (Open k route) ∷ v) g = let_go_stay known t e go v g
let_go_stay known t e go (Did (ToUp k octets) ∷ v) g = let_go_stay known t e go v g
let_go_stay known t e go (Did CloseClient ∷ v) g = let_go_stay known t e go v g
let_go_stay known t e go (Came noted ∷ v) g = let_go_stay known t e go v g
let_go_stay known t e go (Breached breach ∷ v) g = let_go_stay known t e go v g
let_go_stay known t e go (Happened event ∷ v) g = let_go_stay known t e go v g
let_go_stay known t e go (Sent noted ∷ v) g = let_go_stay known t e go v g

-- At rest, where the client is closed if the end was to come, connections are closed rightly.
pub closes_rightly : (known : Known) (t : List Entry) → (must_end known t ≡ true → is_closed t ≡ true) → (v : List Entry) → LetGo known t v → ClosesRightly known t v
closes_rightly known t rests [] g = tt
closes_rightly known t rests (Did (Close k) ∷ v) g = (
  record {
    was_open = g.0.was_open;
    reason = elim g.0.why [ inl reason ↦ reason.0 | inr over ↦ ClientClosed (rests over) ];
    not_kept = λ m. elim g.0.why [ inl reason ↦ reason.1 m | inr over ↦ absurd (let clash : true ≡ false = sym (rests over) ∙ m.goes_on in cc) ];
  },
  closes_rightly known t rests v g.1,
)
closes_rightly known t rests (Did (Open k route) ∷ v) g = closes_rightly known t rests v g
closes_rightly known t rests (Did (ToUp k octets) ∷ v) g = closes_rightly known t rests v g
closes_rightly known t rests (Did CloseClient ∷ v) g = closes_rightly known t rests v g
closes_rightly known t rests (Came noted ∷ v) g = closes_rightly known t rests v g
closes_rightly known t rests (Breached breach ∷ v) g = closes_rightly known t rests v g
closes_rightly known t rests (Happened event ∷ v) g = closes_rightly known t rests v g
closes_rightly known t rests (Sent noted ∷ v) g = closes_rightly known t rests v g
