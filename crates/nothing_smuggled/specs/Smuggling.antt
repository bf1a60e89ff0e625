-- What a reader who fears smuggling wants to know of a log: without the error table, and without courses and causes.
use Rattle.std.specs.Prelude.{◌≡◌, ℕ, List, [], ◌∷◌, ◌++◌, reverse}
use Rattle.model.specs.Messages.{Request, Item}
use Rattle.model.specs.Http1.{H1Requests, forward}
use Rattle.model.specs.Http2.{H2Request}
use Rattle.model.specs.Tables.{Table}
use Rattle.model.specs.Logs.{Step, client_in}
use Rattle.model.specs.Tapes.{Entry, came, sent_up, IsStep, IsRead}
use Rattle.model.specs.Decoding.{Decodes}
use Rattle.model.specs.Available.{items_on}

-- A stream, and the request that it means.
pub record Asked : Type 0 where
  pub stream : ℕ
  pub request : Request

-- The first items that came on the stream are this request, whatever became of them and of those behind them.
pub record Means (t : List Entry) (asked : Asked) : Type 0 where
  pub own : List Item
  pub more : List Item
  pub is : items_on asked.stream (came t) ≡ own ++ more
  pub reads : H2Request own asked.request

abbrev pub AllMean : List Entry → List Asked → Type 0
AllMean t [] = Unit {0}
AllMean t (asked ∷ earlier) = Means t asked × AllMean t earlier

-- what an upstream is to read of these, the newest first, in the order in which they were sent
abbrev pub forwarded : List Asked → List Request
forwarded [] = []
forwarded (asked ∷ earlier) = forwarded earlier ++ forward asked.request ∷ []

-- None of these is the stream's, and no stream is there twice.
abbrev pub IsNone : ℕ → List Asked → Type 0
IsNone stream [] = Unit {0}
IsNone stream (asked ∷ earlier) = (stream ≡ asked.stream → ⊥) × IsNone stream earlier

abbrev pub AreApart : List Asked → Type 0
AreApart [] = Unit {0}
AreApart (asked ∷ earlier) = IsNone asked.stream earlier × AreApart earlier

-- No stream of the one list is in the other.
abbrev pub ShareNone : List Asked → List Asked → Type 0
ShareNone [] others = Unit {0}
ShareNone (asked ∷ earlier) others = IsNone asked.stream others × ShareNone earlier others

-- All octets that a connection was sent read by HTTP/1.1 as requests that streams of the client mean by HTTP/2, each of another stream, and a rest that
-- begins none.
pub record IsSentAsked (t : List Entry) (text : List ℕ) (asked : List Asked) : Type 0 where
  pub rest : List ℕ
  pub reads : H1Requests text (forwarded asked) rest
  pub mean : AllMean t asked
  pub apart : AreApart asked

-- So it is of each connection, by its number; and no stream stands on two.
pub record SmugglesNothing (t : List Entry) : Type 0 where
  pub asked : ℕ → List Asked
  pub sent : (k : ℕ) → IsSentAsked t (sent_up k t) (asked k)
  pub share_none : (j k : ℕ) → (j ≡ k → ⊥) → ShareNone (asked j) (asked k)

-- The step, behind the steps before it, has this segment of the tape, which has all that it put out; and the tape tells all that the client sent, and what
-- its header blocks say.
pub record IsTold (earlier : List Step) (step : Step) (before segment : List Entry) : Type 0 where
  pub step_is : IsStep step segment
  pub read : IsRead (client_in (step ∷ earlier)) (segment ++ before)
  pub table : Table
  pub decodes : Decodes (came (segment ++ before)) table

-- The steps, the newest first, have this tape.
abbrev pub AreTold : List Step → List Entry → Type 0
AreTold [] tape = tape ≡ []
AreTold (step ∷ earlier) tape = (segment before : List Entry) × (tape ≡ segment ++ before) × IsTold earlier step before segment × AreTold earlier before

-- The log, the oldest step first, has a tape of which each front, however far it goes, smuggles nothing.
pub record NothingSmuggled (log : List Step) : Type 0 where
  pub tape : List Entry
  pub are_told : AreTold (reverse log) tape
  pub always : (later before : List Entry) → tape ≡ later ++ before → SmugglesNothing before
