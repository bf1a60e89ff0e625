-- Upstream connections that are kept for further requests (RFC 9112, section 9.3).
use Rattle.std.specs.Prelude.{◌≡◌, ℕ, ◌<◌, ◌≤◌, Bool, true, false, ◌==◌, List, [], ◌∷◌, length, map, codes, bytes_eq, Option}
use Rattle.std.specs.List.{list_any}
use Rattle.model.specs.Octets.{IsStrictFront}
use Rattle.model.specs.Messages.{Request}
use Rattle.model.specs.Http1.{H1Request}
use Rattle.model.specs.ResponseHeads.{Head, meant, named_by_connection}
use Rattle.model.specs.Responses.{Response, H1Response, IsComplete, Seen}
use Rattle.model.specs.Setup.Passing.{Whole}
use Rattle.model.specs.Tapes.{Entry, is_closed}
use Rattle.model.specs.Tapes.Entry.{Came, Breached, Happened}
use Rattle.model.specs.Admission.{is_open}
use Rattle.model.specs.Openings.{Opened, exchanges, exchange_on, route_of, sent_for}
use Rattle.model.specs.Available.{heard_by, ended_by}
use Rattle.model.specs.Known.{Known}
use Rattle.model.specs.Courses.{items, upstream_of}
use Rattle.model.specs.Offers.{is_to_head}

-- the request of an exchange has the method HEAD
abbrev pub is_asked_for_head : Known → Opened → List Entry → Bool
is_asked_for_head known o t = is_to_head (items known o.stream t)

-- What an exchange's upstream answered is a whole response.
abbrev pub IsAllHeard : Known → List Entry → Opened → Type 0
IsAllHeard known t o = IsComplete (heard_by o t) (ended_by o t) (is_asked_for_head known o t)

-- Where responses are passed on whole, more octets of a body stand there than the gateway keeps (this project's profile).
pub record IsTooLong (known : Known) (text : List ℕ) (to_head : Bool) : Type 0 where
  pub whole : known.setup.passing ≡ Whole
  pub interims : List Head
  pub head : Option Head
  pub octets : List ℕ
  pub seen : Seen text to_head interims head octets
  pub over : known.setup.max_response < length octets

-- The text is a whole response and no octet more, behind which the connection stays open: its head says HTTP/1.1, and Connection
-- doesn't say `close` (RFC 9112, sections 9.3 and 9.6).
pub record LeavesOpen (text : List ℕ) (to_head : Bool) : Type 0 where
  pub response : Response
  pub reads : H1Response text false to_head response
  pub version : reads.is_final.spelled.minor ≡ 1
  pub no_close : list_any (bytes_eq (codes "close")) (named_by_connection (map meant reads.is_final.spelled.fields)) ≡ false
  pub no_more : (front : List ℕ) → IsStrictFront front text → IsComplete front false to_head → ⊥

-- An exchange is over in such a way that its connection may be kept: its request was sent whole, its response is whole and leaves the
-- connection open, with nothing behind it, it isn't one that the gateway gave up as too long, and neither the upstream nor the client's
-- close ended the connection.
pub record MayBeKept (known : Known) (t : List Entry) (o : Opened) : Type 0 where
  pub keeps : known.setup.keep ≡ true
  pub goes_on : is_closed t ≡ false
  pub request : Request
  pub sent : H1Request (sent_for o t) request
  pub answered : LeavesOpen (heard_by o t) (is_asked_for_head known o t)
  pub fits : IsTooLong known (heard_by o t) (is_asked_for_head known o t) → ⊥
  pub not_ended : ended_by o t ≡ false

-- An open connection is idle: its last exchange is over so.
pub record IsIdle (known : Known) (t : List Entry) (k : ℕ) : Type 0 where
  pub is_open : is_open k t ≡ true
  pub kept : MayBeKept known t (exchange_on k t)

-- no idle connection of the route comes before this number
abbrev pub NoneIdleBefore : Known → List Entry → ℕ → ℕ → Type 0
NoneIdleBefore known t route k = (j : ℕ) → IsIdle known t j → route_of j (exchanges t) ≡ route → k ≤ j

-- no connection of the route is idle
abbrev pub NoneIdle : Known → List Entry → ℕ → Type 0
NoneIdle known t route = (j : ℕ) → IsIdle known t j → route_of j (exchanges t) ≡ route → ⊥

-- ---- few are idle

-- these numbers are each another
abbrev pub AreDistinct : List ℕ → Type 0
AreDistinct [] = Unit {0}
AreDistinct (k ∷ ks) = (list_any (λ j. j == k) ks ≡ false) × AreDistinct ks

-- each of these connections is idle
abbrev pub AreIdle : Known → List Entry → List ℕ → Type 0
AreIdle known t [] = Unit {0}
AreIdle known t (k ∷ ks) = IsIdle known t k × AreIdle known t ks

-- no more connections than that are idle
abbrev pub FewAreIdle : Known → List Entry → Type 0
FewAreIdle known t = (ks : List ℕ) → AreDistinct ks → AreIdle known t ks → length ks ≤ known.setup.most_idle

-- the connection of the last thing that came in, or 0
abbrev pub last_upstream : List Entry → ℕ
last_upstream [] = 0
last_upstream (Came noted ∷ t) = 0
last_upstream (Breached breach ∷ t) = 0
last_upstream (Happened event ∷ t) = upstream_of event
last_upstream (_ ∷ t) = last_upstream t

-- As many others were idle as may be when the connection became so, with the last thing that came in.
pub record IsOneTooMany (known : Known) (t : List Entry) (k : ℕ) : Type 0 where
  pub is_new : last_upstream t ≡ k
  pub others : List ℕ
  pub distinct : AreDistinct (k ∷ others)
  pub are_idle : AreIdle known t others
  pub many : known.setup.most_idle ≤ length others
