-- The clause on progress: nothing is due that could go on, and upstream connections are closed where they are done with, and
-- nowhere else.
use Rattle.std.specs.Prelude.{◌≡◌, ℕ, ◌<◌, Bool, true, false, ◌&&◌, ◌==◌, if◌then◌else◌, List, [], ◌∷◌, Some, not}
use Rattle.std.specs.List.{list_any}
use Rattle.model.specs.Messages.{Field, Request, ends_with}
use Rattle.model.specs.Http1.{H1Requests, forward, HasCome}
use Rattle.model.specs.Http2.{HasHead, H2Request, body_of}
use Rattle.model.specs.Logs.Act.{Close}
use Rattle.model.specs.Setup.{IsFirstMatch}
use Rattle.model.specs.Setup.Passing.{Streaming}
use Rattle.model.specs.Tapes.{Noted, Entry, came, is_closed}
use Rattle.model.specs.Tapes.Entry.{Came, Did}
use Rattle.model.specs.Decoding.{completed}
use Rattle.model.specs.Admission.{untaken, is_open}
use Rattle.model.specs.Limits.{high_water}
use Rattle.model.specs.Openings.{Opened, exchanges, exchange_on, sent_for, GoToOpen}
use Rattle.model.specs.Known.{Known}
use Rattle.model.specs.Lifetimes.{ends_by, is_ended_by_client, is_active}
use Rattle.model.specs.Causes.{Cause}
use Rattle.model.specs.Courses.{items, cause}
use Rattle.model.specs.Offers.{IsGiven}
use Rattle.model.specs.Idle.{IsAllHeard, MayBeKept, FewAreIdle, IsOneTooMany}
use Rattle.model.specs.Readiness.{IsReady}

-- ---- requests

-- a connection was given to the stream and isn't open any more
abbrev pub had_closed : ℕ → List Opened → List Entry → Bool
had_closed stream os t = list_any (λ o. o.stream == stream && not (is_open o.k t)) os

-- the frame is the first that ends the stream
abbrev pub is_first_end : ℕ → List Entry → Noted → Bool
is_first_end stream t noted =
    noted.frame.id == stream && ends_by (completed (came t) noted.frame) noted.frame && not (is_ended_by_client stream t)

-- the stream's connection was closed before the client ended the stream
abbrev pub was_cut : ℕ → List Entry → Bool
was_cut stream [] = false
was_cut stream (Came noted ∷ t) = if is_first_end stream t noted then had_closed stream (exchanges t) t else was_cut stream t
was_cut stream (_ ∷ t) = was_cut stream t

-- A connection of the stream was sent the request.
pub record IsForwarded (t : List Entry) (stream : ℕ) (request : Request) : Type 0 where
  pub o : Opened
  pub given : IsGiven t stream o
  pub reads : H1Requests (sent_for o t) (forward request ∷ []) []

-- Each whole request that has a route was forwarded, unless its connection was closed before.
abbrev pub AllForwarded : Known → List Entry → Type 0
AllForwarded known t =
    (stream : ℕ) (request : Request) (place : ℕ) → H2Request (items known stream t) request
    → IsFirstMatch known.setup.routes request.authority request.target place → was_cut stream t ≡ false → IsForwarded t stream request

-- ---- requests that aren't whole, where they are passed on as they come

-- A connection was given to the stream and, while it is open, all octets of the body have come to it.
pub record IsStreamed (known : Known) (t : List Entry) (stream : ℕ) : Type 0 where
  pub o : Opened
  pub given : IsGiven t stream o
  pub has_come : is_open o.k t ≡ true → HasCome (sent_for o t) (body_of (items known stream t))

-- Each active stream whose items have a head and no end is passed on so.
abbrev pub AllStreamed : Known → List Entry → Type 0
AllStreamed known t =
    known.setup.passing ≡ Streaming → (stream : ℕ) (head : List Field) → is_active stream t ≡ true → HasHead (items known stream t) head
    → list_any ends_with (items known stream t) ≡ false → IsStreamed known t stream

-- ---- responses

-- While fewer octets are untaken, no stream is ready.
abbrev pub NoneReady : Known → List Entry → Type 0
NoneReady known t = untaken t < high_water → (stream : ℕ) → IsReady known t stream → ⊥

-- ---- the ends of upstream connections

-- Why a connection is done with, by its last exchange: the stream isn't active, the response is whole, the gateway answers the stream
-- itself, or the client is closed. Where the upstream ended it, its response is whole or has failed.
pub data Reason (known : Known) (t : List Entry) (o : Opened) : Type 0 where
  Over : is_active o.stream t ≡ false → Reason known t o
  Complete : IsAllHeard known t o → Reason known t o
  Answered : (found : Cause) → cause known o.stream t ≡ Some found → Reason known t o
  ClientClosed : is_closed t ≡ true → Reason known t o

-- Connections that are done with aren't open, but for those that may be kept.
abbrev pub AreClosed : Known → List Entry → Type 0
AreClosed known t = (k : ℕ) → is_open k t ≡ true → Reason known t (exchange_on k t) → MayBeKept known t (exchange_on k t)

-- A connection that was closed behind a tape is done with, and may not be kept, or was one too many.
pub record IsDoneWith (known : Known) (t : List Entry) (k : ℕ) (earlier : List Entry) : Type 0 where
  pub was_open : is_open k earlier ≡ true
  pub reason : Reason known t (exchange_on k t)
  pub not_kept : MayBeKept known t (exchange_on k t) → IsOneTooMany known earlier k

-- Each connection that was closed was open where it was, and is done with.
abbrev pub ClosesRightly : Known → List Entry → List Entry → Type 0
ClosesRightly known t [] = Unit {0}
ClosesRightly known t (Did (Close k) ∷ earlier) = IsDoneWith known t k earlier × ClosesRightly known t earlier
ClosesRightly known t (_ ∷ earlier) = ClosesRightly known t earlier

-- Nothing is due; connections that are done with are closed, or idle, few of them, and others aren't closed. Octets go to connections
-- that are open.
pub record ProgressHolds (known : Known) (t : List Entry) : Type 0 where
  pub forwarded : AllForwarded known t
  pub streamed : AllStreamed known t
  pub none_ready : NoneReady known t
  pub closed : AreClosed known t
  pub closes : ClosesRightly known t t
  pub few_idle : FewAreIdle known t
  pub go_to_open : GoToOpen t
