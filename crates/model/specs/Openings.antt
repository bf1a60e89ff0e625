-- The upstream connections that were opened, what is exchanged on them, and the streams that they were given to.
use Rattle.std.specs.Prelude.{◌≡◌, ℕ, Bool, true, false, not, ◌&&◌, ◌==◌, if◌then◌else◌, List, [], ◌∷◌, ◌++◌, length, filter}
use Rattle.model.specs.Logs.Act.{Open, ToUp}
use Rattle.model.specs.Tapes.{Entry}
use Rattle.model.specs.Tapes.Entry.{Came, Did}
use Rattle.model.specs.Admission.{is_open}

-- An exchange on an upstream connection: the connection's number, its route's place, and the stream that it was given to for it. No
-- stream has two (`AreApart`), so an exchange goes by its stream, and no place on the tape has to be told beside it.
pub record Opened : Type 0 where
  pub k : ℕ
  pub route : ℕ
  pub stream : ℕ

-- the stream of the last frame of the client
abbrev pub last_stream : List Entry → ℕ
last_stream [] = 0
last_stream (Came noted ∷ t) = noted.frame.id
last_stream (_ ∷ t) = last_stream t

-- the first exchange of each connection, which begins as it is opened, for the stream of the last frame of the client before it
abbrev pub opens : List Entry → List Opened
opens [] = []
opens (Did (Open k route) ∷ t) = record { k = k; route = route; stream = last_stream t } ∷ opens t
opens (_ ∷ t) = opens t

-- the stream that a connection was given to last, or 0
abbrev pub given : ℕ → List Opened → ℕ
given k [] = 0
given k (o ∷ os) = if o.k == k then o.stream else given k os

-- the connection that was given to a stream, or 0
abbrev pub connection_of : ℕ → List Opened → ℕ
connection_of stream [] = 0
connection_of stream (o ∷ os) = if o.stream == stream then o.k else connection_of stream os

-- the route that a connection was opened by, or 0
abbrev pub route_of : ℕ → List Opened → ℕ
route_of k [] = 0
route_of k (o ∷ os) = if o.k == k then o.route else route_of k os

-- Octets that are put out for a connection, where the last frame of the client is another stream's than the one that it was given to:
-- they begin another exchange on it.
abbrev pub begins_another : ℕ → ℕ → List ℕ → Bool
begins_another so_far stream [] = false
begins_another so_far stream (octet ∷ octets) = not (so_far == stream)

-- All exchanges, the newest first: a connection is given to the stream of the last frame of the client as it is opened, and, where it
-- is kept, as the first octets behind an exchange are put out for it. That the exchange before was done with there, so that the
-- connection was idle, is demanded of the tape (`BeginInTime`).
abbrev pub exchanges : List Entry → List Opened
exchanges [] = []
exchanges (Did (Open k route) ∷ t) = record { k = k; route = route; stream = last_stream t } ∷ exchanges t
exchanges (Did (ToUp k octets) ∷ t) =
    let before = exchanges t in
    if begins_another (given k before) (last_stream t) octets
    then record { k = k; route = route_of k before; stream = last_stream t } ∷ before
    else before
exchanges (_ ∷ t) = exchanges t

-- those of a connection, the newest first
abbrev pub exchanges_of : ℕ → List Opened → List Opened
exchanges_of k os = filter (λ (o : Opened). o.k == k) os

-- what is exchanged on a connection, and what is exchanged for a stream
abbrev pub exchange_on : ℕ → List Entry → Opened
exchange_on k t = record { k = k; route = route_of k (exchanges t); stream = given k (exchanges t) }

abbrev pub exchange_for : ℕ → List Entry → Opened
exchange_for stream t = let k = connection_of stream (exchanges t) in record { k = k; route = route_of k (exchanges t); stream = stream }

-- what happens on a connection that is given to a stream is the exchange's
abbrev pub is_of : Opened → ℕ → ℕ → Bool
is_of o k stream = o.k == k && o.stream == stream

-- All octets that an exchange was sent: what was put out for its connection while the last frame of the client was of its stream.
abbrev pub sent_for : Opened → List Entry → List ℕ
sent_for o [] = []
sent_for o (Did (ToUp k octets) ∷ t) = if is_of o k (last_stream t) then sent_for o t ++ octets else sent_for o t
sent_for o (_ ∷ t) = sent_for o t

-- what exchanges were sent, the newest last
abbrev pub texts_of : List Opened → List Entry → List ℕ
texts_of [] t = []
texts_of (o ∷ os) t = texts_of os t ++ sent_for o t

-- The connections are numbered from 1 in the order in which they were opened, the newest first.
abbrev pub AreNumbered : List Opened → Type 0
AreNumbered [] = Unit {0}
AreNumbered (o ∷ os) = (o.k ≡ length (o ∷ os)) × AreNumbered os

abbrev pub IsGivenNone : ℕ → List Opened → Type 0
IsGivenNone stream [] = Unit {0}
IsGivenNone stream (o ∷ os) = (stream ≡ o.stream → ⊥) × IsGivenNone stream os

-- No stream was given two connections, or one twice.
abbrev pub AreApart : List Opened → Type 0
AreApart [] = Unit {0}
AreApart (o ∷ os) = IsGivenNone o.stream os × AreApart os

-- Octets go to connections that are open, and to no other.
abbrev pub GoToOpen : List Entry → Type 0
GoToOpen [] = Unit {0}
GoToOpen (Did (ToUp k octets) ∷ t) = (is_open k t ≡ true) × GoToOpen t
GoToOpen (_ ∷ t) = GoToOpen t
