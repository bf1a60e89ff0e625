-- The tape of a log: each frame of the client in the step that completes it, each other event, and all that is put out,
-- in one order. The newest entry stands first, and so does the newest of each list that is read off a tape.
use Rattle.std.specs.Prelude.{◌≡◌, ℕ, Bool, true, false, ◌==◌, ◌⊎◌, if◌then◌else◌, List, [], ◌∷◌, ◌++◌, map, reverse}
use Rattle.model.specs.Octets.{IsFront, IsStrictFront}
use Rattle.model.specs.Messages.{Field}
use Rattle.model.specs.Frames.{Frame, Fits, spell, Reading, BeginsNoFrame, IsTooLong, preface}
use Rattle.model.specs.Logs.{Event, Act, Output, Step}
use Rattle.model.specs.Logs.Event.{Client}
use Rattle.model.specs.Logs.Act.{ToUp, CloseClient}
use Rattle.model.specs.Logs.Output.{ToClient, Does}

-- What the header block says that a frame completes.
pub data Note : Type 0 where
  -- it completes none
  NoBlock : Note
  -- these fields
  Fields : (fields : List Field) → Note
  -- nothing: it isn't spelled as RFC 7541 says
  Undecodable : Note
  -- the connection ends with the frame, before its block is read
  Unread : Note

-- A frame, with a note of what the header block says that it completes.
pub record Noted : Type 0 where
  pub frame : Frame
  pub note : Note

-- What ends the reading of the client's octets (RFC 9113, sections 3.4 and 4.2).
pub data Breach : Type 0 where
  -- an octet that isn't the preface's
  WrongPreface : Breach
  -- a frame header with a length over 16,384
  TooLong : Breach

pub data Entry : Type 0 where
  -- a whole frame of the client
  Came : Noted → Entry
  Breached : Breach → Entry
  -- an event that isn't octets of the client
  Happened : Event → Entry
  -- a frame to the client
  Sent : Noted → Entry
  Did : Act → Entry

-- the client's frames
abbrev pub came : List Entry → List Noted
came [] = []
came (Came noted ∷ t) = noted ∷ came t
came (_ ∷ t) = came t

-- the frames to the client
abbrev pub sent : List Entry → List Noted
sent [] = []
sent (Sent noted ∷ t) = noted ∷ sent t
sent (_ ∷ t) = sent t

abbrev pub breaches : List Entry → List Breach
breaches [] = []
breaches (Breached breach ∷ t) = breach ∷ breaches t
breaches (_ ∷ t) = breaches t

-- the events that aren't octets of the client
abbrev pub happened : List Entry → List Event
happened [] = []
happened (Happened event ∷ t) = event ∷ happened t
happened (_ ∷ t) = happened t

-- whether the client's connection was closed
abbrev pub is_closed : List Entry → Bool
is_closed [] = false
is_closed (Did CloseClient ∷ t) = true
is_closed (_ ∷ t) = is_closed t

-- all octets that the upstream k was sent
abbrev pub sent_up : ℕ → List Entry → List ℕ
sent_up k [] = []
sent_up k (Did (ToUp j octets) ∷ t) = if k == j then sent_up k t ++ octets else sent_up k t
sent_up k (_ ∷ t) = sent_up k t

-- An output behind others, the newest first: octets for the client, or for one upstream, that follow each other are one.
abbrev pub put : List Output → Output → List Output
put (ToClient before ∷ outputs) (ToClient octets) = ToClient (before ++ octets) ∷ outputs
put (Does (ToUp j before) ∷ outputs) (Does (ToUp k octets)) =
    if j == k then Does (ToUp j (before ++ octets)) ∷ outputs else Does (ToUp k octets) ∷ Does (ToUp j before) ∷ outputs
put outputs output = output ∷ outputs

abbrev pub put_entry : List Output → Entry → List Output
put_entry outputs (Sent noted) = put outputs (ToClient (spell noted.frame))
put_entry outputs (Did act) = put outputs (Does act)
put_entry outputs _ = outputs

-- what entries put out, the newest first
abbrev pub outputs : List Entry → List Output
outputs [] = []
outputs (e ∷ t) = put_entry (outputs t) e

-- the event of a step, where it stands on the tape
abbrev pub listed : Event → List Event
listed (Client piece) = []
listed event = event ∷ []

-- Each frame to the client is one that can be spelled.
abbrev pub CanBeSpelled : List Entry → Type 0
CanBeSpelled [] = Unit {0}
CanBeSpelled (Sent noted ∷ t) = Fits noted.frame × CanBeSpelled t
CanBeSpelled (_ ∷ t) = CanBeSpelled t

-- Nothing stands behind the client's close.
abbrev pub EndsWithClose : List Entry → Type 0
EndsWithClose [] = Unit {0}
EndsWithClose (e ∷ t) = (is_closed t ≡ false) × EndsWithClose t

-- what is done beside sending to the client
abbrev pub acts : List Entry → List Act
acts [] = []
acts (Did act ∷ t) = act ∷ acts t
acts (_ ∷ t) = acts t

-- No act stands before an event that isn't octets of the client.
abbrev pub ActsFollow : List Entry → Type 0
ActsFollow [] = Unit {0}
ActsFollow (Happened event ∷ t) = acts t ≡ []
ActsFollow (_ ∷ t) = ActsFollow t

-- The entries are those of the step: they put out what it did, and its event is among them, before all acts, unless it is octets of
-- the client, which stand as frames.
pub record IsStep (step : Step) (segment : List Entry) : Type 0 where
  pub spelled : CanBeSpelled segment
  pub put_out : step.outputs ≡ reverse (outputs segment)
  pub event : happened segment ≡ listed step.event
  pub acts_follow : ActsFollow segment

-- the text isn't a front of the preface, nor does it begin with it
pub record IsNoPreface (text : List ℕ) : Type 0 where
  pub no_front : IsFront text preface → ⊥
  pub no_begin : IsFront preface text → ⊥

-- the frames that came, the oldest first
abbrev pub frames_of : List Noted → List Frame
frames_of noted = reverse (map (λ n. n.frame) noted)

-- Behind the preface the client's octets are the frames that came, and a rest. It begins with a header that is too long
-- just where such a breach stands on the tape; and where the client wasn't closed, with no frame and no such header.
pub record IsReadBehind (text : List ℕ) (t : List Entry) : Type 0 where
  pub behind : List ℕ
  pub rest : List ℕ
  pub begins : text ≡ preface ++ behind
  pub reading : Reading behind (frames_of (came t)) rest
  pub breach : (breaches t ≡ []) ⊎ ((breaches t ≡ TooLong ∷ []) × IsTooLong rest)
  pub no_more : is_closed t ≡ false → BeginsNoFrame rest × (IsTooLong rest → ⊥)

-- no frame came, and these are the breaches
pub record HasNoFrame (t : List Entry) (found : List Breach) : Type 0 where
  pub no_frame : came t ≡ []
  pub breach : breaches t ≡ found

-- The client's octets stand on the tape as far as they are read: a front of the preface; or octets that depart from it;
-- or the preface and what is behind it.
abbrev pub IsRead : List ℕ → List Entry → Type 0
IsRead text t =
    (IsStrictFront text preface × HasNoFrame t [])
    ⊎ (IsNoPreface text × HasNoFrame t (WrongPreface ∷ []))
    ⊎ IsReadBehind text t
