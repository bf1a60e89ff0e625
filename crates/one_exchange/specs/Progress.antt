-- The clause on progress, where each connection carries one exchange: with that it is done with, and closed.
use Rattle.std.specs.Prelude.{◌≡◌, ℕ, ◌<◌, Bool, true, false, if◌then◌else◌, List, [], ◌∷◌, Some}
use Rattle.std.specs.List.{list_any}
use Rattle.model.specs.Messages.{Field, Request, ends_with}
use Rattle.model.specs.Http1.{H1Requests, forward, HasCome}
use Rattle.model.specs.Http2.{HasHead, H2Request, body_of}
use Rattle.model.specs.Logs.Act.{Close}
use Rattle.model.specs.Setup.{IsFirstMatch}
use Rattle.model.specs.Setup.Passing.{Streaming}
use Rattle.model.specs.Tapes.{Entry, sent, sent_up, is_closed}
use Rattle.model.specs.Tapes.Entry.{Came, Did}
use Rattle.model.specs.Responses.{IsComplete}
use Rattle.model.specs.Deliveries.{Delivery, ReadsAs}
use Rattle.model.specs.Admission.{untaken, is_open}
use Rattle.model.specs.Limits.{high_water}
use Rattle.model.specs.Openings.{Opened, opens, GoToOpen}
use Rattle.model.specs.Available.{IsIn, items_on}
use Rattle.model.specs.Known.{Known}
use Rattle.model.specs.Lifetimes.{is_active}
use Rattle.model.specs.Causes.{Cause}
use Rattle.model.specs.Offers.{is_to_head}
use Rattle.model.specs.Readiness.{CanGo}
use Rattle.model.specs.ProgressClause.{had_closed, is_first_end}
use Rattle.one_exchange.specs.Connections.{heard, has_ended}
use Rattle.one_exchange.specs.Courses.{items_once, cause_once}
use Rattle.one_exchange.specs.Responses.{IsGivenOnce, IsOfferedOnce}

-- ---- requests

-- the stream's connection was closed before the client ended the stream
abbrev pub was_cut_once : ℕ → List Entry → Bool
was_cut_once stream [] = false
was_cut_once stream (Came noted ∷ t) = if is_first_end stream t noted then had_closed stream (opens t) t else was_cut_once stream t
was_cut_once stream (_ ∷ t) = was_cut_once stream t

-- The connection of the stream was sent the request.
pub record IsForwardedOnce (t : List Entry) (stream : ℕ) (request : Request) : Type 0 where
  pub o : Opened
  pub given : IsGivenOnce t stream o
  pub reads : H1Requests (sent_up o.k t) (forward request ∷ []) []

-- Each whole request that has a route was forwarded, unless its connection was closed before.
abbrev pub AllForwardedOnce : Known → List Entry → Type 0
AllForwardedOnce known t =
    (stream : ℕ) (request : Request) (place : ℕ) → H2Request (items_once known stream t) request
    → IsFirstMatch known.setup.routes request.authority request.target place → was_cut_once stream t ≡ false → IsForwardedOnce t stream request

-- A connection was opened for the stream and, while it is open, all octets of the body have come to it.
pub record IsStreamedOnce (known : Known) (t : List Entry) (stream : ℕ) : Type 0 where
  pub o : Opened
  pub given : IsGivenOnce t stream o
  pub has_come : is_open o.k t ≡ true → HasCome (sent_up o.k t) (body_of (items_once known stream t))

-- Where requests are passed on as they come, each active stream whose items have a head and no end is passed on so.
abbrev pub AllStreamedOnce : Known → List Entry → Type 0
AllStreamedOnce known t =
    known.setup.passing ≡ Streaming → (stream : ℕ) (head : List Field) → is_active stream t ≡ true → HasHead (items_once known stream t) head
    → list_any ends_with (items_once known stream t) ≡ false → IsStreamedOnce known t stream

-- ---- responses

-- The stream is active, and only octets that its client hasn't taken may hold the next frame of its response back.
pub record IsReadyOnce (known : Known) (t : List Entry) (stream : ℕ) : Type 0 where
  pub is_active : is_active stream t ≡ true
  pub read : Delivery
  pub offered : Delivery
  pub reads : ReadsAs (items_on stream (sent t)) read
  pub is_offered : IsOfferedOnce known t stream offered
  pub can_go : CanGo t stream read offered

-- While fewer octets are untaken, no stream is ready.
abbrev pub NoneReadyOnce : Known → List Entry → Type 0
NoneReadyOnce known t = untaken t < high_water → (stream : ℕ) → IsReadyOnce known t stream → ⊥

-- ---- the ends of upstream connections

-- Why a connection is done with: its stream isn't active, its response is whole, the gateway answers the stream itself, or the
-- client is closed.
pub data ReasonOnce (known : Known) (t : List Entry) (o : Opened) : Type 0 where
  OverOnce : is_active o.stream t ≡ false → ReasonOnce known t o
  CompleteOnce : IsComplete (heard o.k t) (has_ended o.k t) (is_to_head (items_once known o.stream t)) → ReasonOnce known t o
  AnsweredOnce : (found : Cause) → cause_once known o.stream t ≡ Some found → ReasonOnce known t o
  ClosedOnce : is_closed t ≡ true → ReasonOnce known t o

-- Connections that are done with aren't open.
abbrev pub AreClosedOnce : Known → List Entry → Type 0
AreClosedOnce known t = (o : Opened) → IsIn o (opens t) → is_open o.k t ≡ true → ReasonOnce known t o → ⊥

-- A connection is done with.
pub record IsDoneWithOnce (known : Known) (t : List Entry) (k : ℕ) : Type 0 where
  pub o : Opened
  pub is_opened : IsIn o (opens t)
  pub number : o.k ≡ k
  pub reason : ReasonOnce known t o

-- Each connection that was closed was open where it was, and is done with.
abbrev pub ClosesRightlyOnce : Known → List Entry → List Entry → Type 0
ClosesRightlyOnce known t [] = Unit {0}
ClosesRightlyOnce known t (Did (Close k) ∷ earlier) = (is_open k earlier ≡ true) × IsDoneWithOnce known t k × ClosesRightlyOnce known t earlier
ClosesRightlyOnce known t (_ ∷ earlier) = ClosesRightlyOnce known t earlier

-- The clause: nothing is due, connections that are done with are closed, and others aren't. Octets go to connections that are open.
pub record ProgressHoldsOnce (known : Known) (t : List Entry) : Type 0 where
  pub forwarded : AllForwardedOnce known t
  pub streamed : AllStreamedOnce known t
  pub none_ready : NoneReadyOnce known t
  pub closed : AreClosedOnce known t
  pub closes : ClosesRightlyOnce known t t
  pub go_to_open : GoToOpen t
