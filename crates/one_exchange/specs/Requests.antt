-- The clause on requests, where each connection carries one exchange: what it was sent reads as just the request of the stream that it
-- was opened for.
use Rattle.std.specs.Prelude.{◌≡◌, ℕ, true, false, ◌⊎◌, List, [], ◌∷◌, None}
use Rattle.std.specs.List.{list_any}
use Rattle.model.specs.Octets.{IsStrictFront}
use Rattle.model.specs.Messages.{Field, Request, Item, ends_with}
use Rattle.model.specs.Http1.{H1Request, H1Requests, forward}
use Rattle.model.specs.Http2.{HasHead, WellFormedHead, H2Request, MayBecome, authority_of, path_of}
use Rattle.model.specs.Logs.Act.{Open}
use Rattle.model.specs.Setup.{IsFirstMatch}
use Rattle.model.specs.Setup.Passing.{Whole}
use Rattle.model.specs.Tapes.{Entry, sent_up}
use Rattle.model.specs.Tapes.Entry.{Did}
use Rattle.model.specs.Lifetimes.{is_active}
use Rattle.model.specs.Openings.{Opened, opens, last_stream, AreNumbered, AreApart}
use Rattle.model.specs.Available.{IsIn}
use Rattle.model.specs.Known.{Known}
use Rattle.model.specs.RequestClause.{EndsWithChunks}
use Rattle.one_exchange.specs.Courses.{items_once, cause_once}
use Rattle.one_exchange.specs.Errors.{must_end_once}

-- The text reads as the one request that the items mean, as it is to be forwarded, and as nothing more.
pub record IsSentWholeOnce (text : List ℕ) (items : List Item) : Type 0 where
  pub request : Request
  pub means : H2Request items request
  pub reads : H1Requests text (forward request ∷ []) []

-- The text reads as no request yet, and goes on to one for every request that the items may still become; there is one. Where its
-- body comes in chunks, these are whole.
pub record IsSentInPartOnce (text : List ℕ) (items : List Item) : Type 0 where
  pub some : (request : Request) × MayBecome items request
  pub reads : H1Requests text [] text
  pub goes_on : (request : Request) → MayBecome items request → (whole : List ℕ) × H1Request whole (forward request) × IsStrictFront text whole
  pub in_chunks : EndsWithChunks text

-- The connection was opened by the first route that matches the well-formed head of its stream, and what it was sent is that
-- stream's request, whole or in part.
pub record IsServedOnce (known : Known) (t : List Entry) (o : Opened) : Type 0 where
  pub head : List Field
  pub has_head : HasHead (items_once known o.stream t) head
  pub well_formed : WellFormedHead head
  pub by_route : IsFirstMatch known.setup.routes (authority_of head) (path_of head) o.route
  pub sent : IsSentWholeOnce (sent_up o.k t) (items_once known o.stream t) ⊎ IsSentInPartOnce (sent_up o.k t) (items_once known o.stream t)

-- A connection may be opened for a stream that is active and that the gateway doesn't answer itself, while the connection with the
-- client isn't to end; and where requests are passed on whole, once the client has ended the stream.
pub record MayBeServedOnce (known : Known) (t : List Entry) (stream : ℕ) : Type 0 where
  pub active : is_active stream t ≡ true
  pub no_cause : cause_once known stream t ≡ None
  pub goes_on : must_end_once known t ≡ false
  pub whole : known.setup.passing ≡ Whole → list_any ends_with (items_once known stream t) ≡ true

-- Each connection was opened where it might be.
abbrev pub OpenInTime : Known → List Entry → Type 0
OpenInTime known [] = Unit {0}
OpenInTime known (Did (Open k route) ∷ t) = MayBeServedOnce known t (last_stream t) × OpenInTime known t
OpenInTime known (_ ∷ t) = OpenInTime known t

-- The clause: connections are numbered as they are opened, no stream has two, and each was sent its stream's request.
pub record RequestsHoldOnce (known : Known) (t : List Entry) : Type 0 where
  pub numbered : AreNumbered (opens t)
  pub apart : AreApart (opens t)
  pub in_time : OpenInTime known t
  pub served : (o : Opened) → IsIn o (opens t) → IsServedOnce known t o
