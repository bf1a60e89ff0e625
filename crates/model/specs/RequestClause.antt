-- The clause on requests: what each upstream connection was sent reads as just the requests of the streams that it was given to, in
-- their order.
use Rattle.std.specs.Prelude.{◌≡◌, ℕ, Bool, true, false, ◌⊎◌, List, [], ◌∷◌, ◌++◌, None, codes}
use Rattle.std.specs.List.{list_any}
use Rattle.model.specs.Octets.{IsStrictFront, Joined}
use Rattle.model.specs.Messages.{Field, Request, ends_with}
use Rattle.model.specs.Http1.{Head, H1Head, Chunk, H1Open, H1Requests, values_of, forward}
use Rattle.model.specs.Http2.{HasHead, WellFormedHead, H2Request, MayBecome, authority_of, path_of}
use Rattle.model.specs.Spelling.{IsSpelled}
use Rattle.model.specs.Logs.Act.{Open, ToUp}
use Rattle.model.specs.Setup.{IsFirstMatch}
use Rattle.model.specs.Setup.Passing.{Whole}
use Rattle.model.specs.Tapes.{Entry, sent_up}
use Rattle.model.specs.Tapes.Entry.{Did}
use Rattle.model.specs.Lifetimes.{is_active}
use Rattle.model.specs.Openings.{Opened, opens, last_stream, exchanges, exchanges_of, given, route_of, begins_another, sent_for, AreNumbered, AreApart}
use Rattle.model.specs.Available.{IsIn}
use Rattle.model.specs.Known.{Known}
use Rattle.model.specs.Courses.{items, cause}
use Rattle.model.specs.ErrorClause.{must_end}
use Rattle.model.specs.Idle.{IsIdle, NoneIdle, NoneIdleBefore}

-- ---- what a connection was sent

-- By the codings that a head names, what stands behind it is chunks, one after another, each of them whole (RFC 9112, section 7.1).
abbrev pub AreWholeChunks : List (List ℕ) → List ℕ → Type 0
AreWholeChunks [] rest = Unit {0}
AreWholeChunks (coding ∷ codings) rest = (chunks : List (List ℕ)) × Joined Chunk rest chunks

-- Behind the head of a text, once that is there, stand whole chunks, if the body comes in chunks: no octet more, be it of a size.
abbrev pub EndsWithChunks : List ℕ → Type 0
EndsWithChunks text =
    (head_text rest : List ℕ) (head : Head) → text ≡ head_text ++ rest → H1Head head_text head
    → AreWholeChunks (values_of (codes "transfer-encoding") head.fields) rest

-- what upstreams are to read of these requests, the newest first, in the order in which they were sent
abbrev pub forwarded : List Request → List Request
forwarded [] = []
forwarded (request ∷ earlier) = forwarded earlier ++ forward request ∷ []

-- The items of the streams of these exchanges mean these requests, one for each.
abbrev pub AreMeant : Known → List Entry → List Opened → List Request → Type 0
AreMeant known t [] [] = Unit {0}
AreMeant known t (o ∷ os) (request ∷ requests) = H2Request (items known o.stream t) request × AreMeant known t os requests
AreMeant known t _ _ = ⊥

-- Where connections are kept, another request may stand behind each of these.
abbrev pub StayOpen : Known → List ℕ → List Request → Type 0
StayOpen known text requests = known.setup.keep ≡ true → Joined H1Open text requests

-- The text reads as these requests, the newest first, as they are to be forwarded, and as nothing more.
pub record ReadsAsAll (known : Known) (text : List ℕ) (requests : List Request) : Type 0 where
  pub reads : H1Requests text (forwarded requests) []
  pub stay_open : StayOpen known text (forwarded requests)

-- The text reads as the requests that the items of these exchanges mean, one for each.
pub record IsSentWhole (known : Known) (t : List Entry) (os : List Opened) (text : List ℕ) : Type 0 where
  pub requests : List Request
  pub mean : AreMeant known t os requests
  pub all : ReadsAsAll known text requests

-- A text that is all requests, the newest of these the last, begins with this one, which isn't the whole.
pub record GoesOnTo (known : Known) (text : List ℕ) (requests : List Request) : Type 0 where
  pub whole : List ℕ
  pub all : ReadsAsAll known whole requests
  pub is_front : IsStrictFront text whole

-- The text reads as the requests of the earlier exchanges, and a rest that begins with no request yet; and it goes on to one more for
-- every request that the items of the newest exchange may still become; there is one. Where its body comes in chunks, these are whole.
pub record IsSentInPart (known : Known) (t : List Entry) (o : Opened) (os : List Opened) (text : List ℕ) : Type 0 where
  pub earlier : List Request
  pub mean : AreMeant known t os earlier
  pub rest : List ℕ
  pub reads : H1Requests text (forwarded earlier) rest
  pub some : (request : Request) × MayBecome (items known o.stream t) request
  pub goes_on : (request : Request) → MayBecome (items known o.stream t) request → GoesOnTo known text (request ∷ earlier)
  pub in_chunks : EndsWithChunks rest

-- What a connection was sent for these exchanges, the newest first, is their requests in their order, of which only the last may be
-- unfinished.
abbrev pub IsSent : Known → List Entry → List Opened → List ℕ → Type 0
IsSent known t [] text = text ≡ []
IsSent known t (o ∷ os) text = IsSentWhole known t (o ∷ os) text ⊎ IsSentInPart known t o os text

-- each of these exchanges was sent its request whole
abbrev pub AreSentWhole : Known → List Entry → List Opened → Type 0
AreSentWhole known t [] = Unit {0}
AreSentWhole known t (o ∷ os) = IsSentWhole known t (o ∷ []) (sent_for o t) × AreSentWhole known t os

-- ---- exchanges

-- The connection was opened by the first route that matches the well-formed head of the exchange's stream.
pub record IsServed (known : Known) (t : List Entry) (o : Opened) : Type 0 where
  pub head : List Field
  pub has_head : HasHead (items known o.stream t) head
  pub well_formed : WellFormedHead head
  pub by_route : IsFirstMatch known.setup.routes (authority_of head) (path_of head) o.route

-- A connection may be given to a stream that is active and that the gateway doesn't answer itself, while the connection with the
-- client isn't to end; and where requests are passed on whole, once the client has ended the stream.
pub record MayBeServed (known : Known) (t : List Entry) (stream : ℕ) : Type 0 where
  pub active : is_active stream t ≡ true
  pub no_cause : cause known stream t ≡ None
  pub goes_on : must_end known t ≡ false
  pub whole : known.setup.passing ≡ Whole → list_any ends_with (items known stream t) ≡ true

-- A connection that was opened may be given to a stream if it is idle, and the least one of its route that is.
pub record MayBeUsedAgain (known : Known) (t : List Entry) (k : ℕ) : Type 0 where
  pub served : MayBeServed known t (last_stream t)
  pub idle : IsIdle known t k
  pub least : NoneIdleBefore known t (route_of k (exchanges t)) k

abbrev pub IfAnother : Bool → Type 0 → Type 0
IfAnother false Holds = Unit {0}
IfAnother true Holds = Holds

-- Each exchange began where it might: on a connection that is opened where none of its route is idle, or on an idle one.
abbrev pub BeginInTime : Known → List Entry → Type 0
BeginInTime known [] = Unit {0}
BeginInTime known (Did (Open k route) ∷ t) = MayBeServed known t (last_stream t) × NoneIdle known t route × BeginInTime known t
BeginInTime known (Did (ToUp k octets) ∷ t) =
    IfAnother (begins_another (given k (exchanges t)) (last_stream t) octets) (MayBeUsedAgain known t k) × BeginInTime known t
BeginInTime known (_ ∷ t) = BeginInTime known t

-- Connections are numbered as they are opened, each exchange began in time, no stream has two, each was given to its stream by its
-- route, and each connection was sent the requests of its exchanges, and nothing else. Each of them is spelled in one way.
pub record RequestsHold (known : Known) (t : List Entry) : Type 0 where
  pub numbered : AreNumbered (opens t)
  pub apart : AreApart (exchanges t)
  pub in_time : BeginInTime known t
  pub served : (o : Opened) → IsIn o (exchanges t) → IsServed known t o
  pub sent : (o : Opened) → IsIn o (opens t) → IsSent known t (exchanges_of o.k (exchanges t)) (sent_up o.k t)
  pub spelled : (o : Opened) → IsIn o (exchanges t) → IsSpelled known.setup.keep (items known o.stream t) (sent_for o t)
