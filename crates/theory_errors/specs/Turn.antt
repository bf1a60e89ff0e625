-- Whose turn it is: which frames are owed next, which entry may come, and what holds behind entries that might come. All of it
-- is said by the model's own words: what an entry calls for is what is owed behind it.
use Rattle.std.specs.Prelude.{◌≡◌, ℕ, true, false, ◌⊎◌, List, [], ◌∷◌, ◌++◌, map, reverse, None, Bool, not, ◌&&◌, if◌then◌else◌}
use Rattle.model.specs.Frames.{Frame, settings_frame, goaway, enhance_your_calm}
use Rattle.model.specs.Logs.{Act}
use Rattle.model.specs.Logs.Act.{CloseClient}
use Rattle.model.specs.Tapes.{Noted, Entry, sent, is_closed}
use Rattle.model.specs.Tapes.Entry.{Sent, Did}
use Rattle.model.specs.Decoding.{begun}
use Rattle.model.specs.Admission.{is_crowded}
use Rattle.model.specs.Lifetimes.{highest}
use Rattle.model.specs.Known.{Known}
use Rattle.model.specs.ErrorClause.{owed_by, owed, controls, is_passing, is_rightly_sent, is_calming, calls_for_end}
use Rattle.model.specs.ErrorClause.{stands_in, must_end, AreFollowed, AreRightlySent, AreCalm, EndsInTime}

-- ---- what is owed next, the oldest first

-- what is owed behind the next frame
abbrev pub rest_of : List Frame → List Frame
rest_of [] = []
rest_of (frame ∷ frames) = frames

-- What comes in sets the debt, a frame that is sent pays its front, an act leaves it. Behind a GOAWAY in place of another frame nothing is owed.
abbrev pub queue_after : Known → List Entry → List Frame → Entry → List Frame
queue_after known t queue (Sent noted) = if stands_in known t noted then [] else rest_of queue ++ owed_by known t (Sent noted)
queue_after known t queue (Did act) = queue
queue_after known t queue e = owed_by known t e

-- the debt behind a tape: at first the gateway's settings
abbrev pub queue_of : Known → List Entry → List Frame
queue_of known [] = settings_frame known.setup.more_room ∷ []
queue_of known (e ∷ t) = queue_after known t (queue_of known t) e

-- ---- which entry may come

-- Something may come in: nothing is owed, no header block to the client is begun, and the connection isn't to end.
pub record MayCome (known : Known) (t : List Entry) (queue : List Frame) : Type 0 where
  pub nothing : queue ≡ []
  pub none_begun : begun (sent t) ≡ None
  pub goes_on : must_end known t ≡ false

-- The frame is the next debt, and no part of a response. It asks the client to be calm only where the connection is to end; and where too many
-- octets are untaken it does.
pub record IsDue (ends crowded : Bool) (queue : List Frame) (noted : Noted) : Type 0 where
  pub front : queue ≡ noted.frame ∷ rest_of queue
  pub control : is_passing noted ≡ false
  pub owing : (is_calming noted.frame && not ends) ≡ false
  pub calm : (crowded && not (is_calming noted.frame)) ≡ false

-- The GOAWAY may go in place of another frame: too many octets are untaken, nothing calls for the end yet, and it names the highest of these streams.
pub record MayStandIn (ends crowded : Bool) (last : ℕ) (noted : Noted) : Type 0 where
  pub goes_on : ends ≡ false
  pub crowded_so : crowded ≡ true
  pub goaway : noted.frame ≡ goaway last enhance_your_calm

-- A part of a response, or octets given back, may be sent: nothing is owed, the connection isn't to end, and its stream takes it.
pub record MayPass (known : Known) (t : List Entry) (queue : List Frame) (noted : Noted) : Type 0 where
  pub nothing : queue ≡ []
  pub goes_on : must_end known t ≡ false
  pub passing : is_passing noted ≡ true
  pub rightly : is_rightly_sent t noted.frame ≡ true

-- The client may be closed: nothing is owed any more, and the connection is to end.
pub record MayClose (known : Known) (t : List Entry) (queue : List Frame) : Type 0 where
  pub nothing : queue ≡ []
  pub to_end : must_end known t ≡ true

-- Whose turn an act is: nothing is owed before it.
abbrev pub MayAct : Known → List Entry → List Frame → Act → Type 0
MayAct known t queue CloseClient = MayClose known t queue
MayAct known t queue act = queue ≡ []

-- whose turn an entry is
abbrev pub InTurn : Known → List Entry → List Frame → Entry → Type 0
InTurn known t queue (Sent noted) =
    IsDue (calls_for_end known t) (is_crowded t) queue noted
    ⊎ (MayPass known t queue noted ⊎ MayStandIn (calls_for_end known t) (is_crowded t) (highest t) noted)
InTurn known t queue (Did act) = MayAct known t queue act
InTurn known t queue e = MayCome known t queue

-- The entry may stand behind the tape: the client isn't closed, and it is the entry's turn.
pub record MayStand (known : Known) (t : List Entry) (queue : List Frame) (e : Entry) : Type 0 where
  pub open_yet : is_closed t ≡ false
  pub turn : InTurn known t queue e

-- each entry might stand where it stands
abbrev pub Conducted : Known → List Entry → Type 0
Conducted known [] = Unit {0}
Conducted known (e ∷ t) = Conducted known t × MayStand known t (queue_of known t) e

-- ---- what holds behind them

-- Each entry is followed as it has to be by what is owed, and by whatever comes behind that. Behind an error of the connection
-- nothing does.
abbrev pub Followed : Known → List Entry → List Frame → Type 0
Followed known t queue =
    (behind : List Frame) → (calls_for_end known t ≡ true → behind ≡ []) → AreFollowed known (behind ++ reverse queue) t

-- As long as the end isn't called for, a GOAWAY that asks for calm may go in place of the debt, or of the rest of it.
abbrev pub IsCut : Known → List Entry → List Frame → Type 0
IsCut known t queue =
    (last : Frame) → is_calming last ≡ true → calls_for_end known t ≡ false → (paid unpaid : List Frame) → queue ≡ paid ++ unpaid
    → AreFollowed known (last ∷ reverse paid) t

-- What holds behind a tape, with this debt.
pub record Holds (known : Known) (t : List Entry) (queue : List Frame) : Type 0 where
  -- the first frame was the gateway's settings, or is owed
  pub begins : (newer : List Frame) × (reverse queue ++ map (λ (noted : Noted). noted.frame) (sent t) ≡ newer ++ settings_frame known.setup.more_room ∷ [])
  -- what is owed by the entries is what was sent and what is owed yet
  pub owing : reverse queue ++ controls (sent t) ≡ owed known t
  pub followed : Followed known t queue
  -- what an entry calls for may be cut short by a GOAWAY in place of it
  pub cut : IsCut known t queue
  pub rightly_sent : AreRightlySent t
  pub calm : AreCalm known t
  pub in_time : EndsInTime known t
  -- the client is closed only where the connection is to end and nothing is owed
  pub closed : is_closed t ≡ true → MayClose known t queue
