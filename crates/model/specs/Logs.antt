-- What happens to a gateway, what it puts out, and the log of both.
use Rattle.std.specs.Prelude.{ℕ, List, [], ◌∷◌, ◌++◌}

-- What happens. Upstream connections have numbers, from 1 in the order in which they are opened.
pub data Event : Type 0 where
  -- octets of the client
  Client : (piece : List ℕ) → Event
  -- the client has gone
  ClientEnd : Event
  -- the client's side took so many of the octets that were put out for it
  ClientTook : (count : ℕ) → Event
  -- octets of an upstream
  Up : (k : ℕ) → (piece : List ℕ) → Event
  -- an upstream ended its connection
  UpEnd : (k : ℕ) → Event
  -- an upstream's connection failed
  UpFailed : (k : ℕ) → Event
  -- an upstream's side took so many of the octets that were put out for it
  UpTook : (k : ℕ) → (count : ℕ) → Event
  -- the operator wants the connection with the client to end (RFC 9113, section 6.8)
  Drain : Event

-- What is done beside sending to the client.
pub data Act : Type 0 where
  -- a connection to the upstream of a route, which goes by its place from 0
  Open : (k : ℕ) → (route : ℕ) → Act
  -- octets for an upstream
  ToUp : (k : ℕ) → (octets : List ℕ) → Act
  -- an upstream's connection is closed
  Close : (k : ℕ) → Act
  -- the client's connection is closed
  CloseClient : Act

-- What is put out: octets for the client, or an act.
pub data Output : Type 0 where
  ToClient : (octets : List ℕ) → Output
  Does : (act : Act) → Output

-- One step: an event, and all that it causes.
pub record Step : Type 0 where
  pub event : Event
  pub outputs : List Output

-- the octets that the client sent in an event
abbrev pub client_octets : Event → List ℕ
client_octets (Client piece) = piece
client_octets _ = []

-- all octets that the client sent; the steps stand with the newest first
abbrev pub client_in : List Step → List ℕ
client_in [] = []
client_in (step ∷ before) = client_in before ++ client_octets step.event
