-- What the other concerns have to know of connections.
use Rattle.std.specs.Prelude.{◌≡◌, ℕ, suc, true, List, [], length}
use Rattle.model.specs.Messages.{Request}
use Rattle.model.specs.Http1.{H1Request, forward}
use Rattle.model.specs.Http2.{H2Request}
use Rattle.model.specs.Setup.Passing.{Streaming}
use Rattle.model.specs.Tapes.{Entry, came}
use Rattle.model.specs.Openings.{Opened, opens, exchanges, exchange_on, last_stream, given, begins_another, sent_for, IsGivenNone}
use Rattle.model.specs.Available.{IsIn}
use Rattle.model.specs.Known.{Known}
use Rattle.model.specs.Courses.{items}
use Rattle.model.specs.Idle.{IsIdle, NoneIdle}
use Rattle.model.specs.RequestClause.{MayBeServed, MayBeUsedAgain}
use Rattle.model.specs.WindowsOnTape.{is_on, data_octets}
use Rattle.theory_requests.specs.Told.{is_served}
use Rattle.theory_requests.specs.Lines.{Answer}
use Rattle.theory_requests.specs.Lines.Answer.{Pending, Idle, Done}

-- An event of the connection is about its stream, which is active and not answered by the gateway itself.
pub record IsHeard (known : Known) (t : List Entry) (k : ℕ) : Type 0 where
  pub o : Opened
  pub there : IsIn o (exchanges t)
  pub number : o.k ≡ k
  pub stream : given k (exchanges t) ≡ o.stream
  pub served : is_served known o.stream t ≡ true

-- What comes of a connection is about its stream while its answer is pending, and about none while it is idle. Of one that is done
-- with nothing comes.
abbrev pub IsAbout : Known → List Entry → ℕ → Answer → Type 0
IsAbout known t k Pending = IsHeard known t k
IsAbout known t k Idle = IsIdle known t k
IsAbout known t k Done = ⊥

-- The stream of the last frame may be served, has an item, and was given no connection.
pub record IsStarted (known : Known) (t : List Entry) : Type 0 where
  pub in_time : MayBeServed known t (last_stream t)
  pub has_items : items known (last_stream t) t ≡ [] → ⊥
  pub none_given : IsGivenNone (last_stream t) (exchanges t)

-- The connection is opened for that stream: it has the next number, and none of its route is idle.
pub record IsOpenedFor (known : Known) (t : List Entry) (k route : ℕ) : Type 0 where
  pub started : IsStarted known t
  pub next : k ≡ suc (length (opens t))
  pub none_idle : NoneIdle known t route

-- The connection is given to that stream: it is idle, and the least one of its route, and another exchange begins on it. Where requests are
-- passed on as they come, no DATA came on the stream yet.
pub record IsUsedFor (known : Known) (t : List Entry) (k : ℕ) (octets : List ℕ) : Type 0 where
  pub started : IsStarted known t
  pub again : MayBeUsedAgain known t k
  pub begins : begins_another (given k (exchanges t)) (last_stream t) octets ≡ true
  pub bare : known.setup.passing ≡ Streaming → data_octets (is_on (last_stream t)) (came t) ≡ 0

-- What the connection's newest exchange was sent is the whole request that its stream's items mean.
pub record IsRequestSent (known : Known) (t : List Entry) (k : ℕ) : Type 0 where
  pub request : Request
  pub means : H2Request (items known (exchange_on k t).stream t) request
  pub reads : H1Request (sent_for (exchange_on k t) t) (forward request)
