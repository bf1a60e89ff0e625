-- Which logs keep the headline. Whatever the client and the upstreams send, and however it is cut and interleaved: an upstream
-- connection was sent just the requests that its streams mean, in their order, and nothing else; a client that has read a whole
-- response has read its upstream's, or a reply of the gateway's own for which there was a cause; every fault is answered as the
-- error table says, and a stream with a fault becomes no request; and what could go on does, unless there is no room for it.
use Rattle.std.specs.Prelude.{◌≡◌, ℕ, Bool, not, ◌&&◌, List, [], ◌∷◌, ◌++◌, reverse, is_some}
use Rattle.model.specs.Tables.{Table}
use Rattle.model.specs.Logs.{Step, client_in}
use Rattle.model.specs.Setup.{Setup}
use Rattle.model.specs.Tapes.{Noted, Entry, came, EndsWithClose, IsStep, IsRead}
use Rattle.model.specs.Tapes.Entry.{Came, Sent, Did}
use Rattle.model.specs.Decoding.{completed, Decodes, is_read}
use Rattle.model.specs.Errors.{first_of}
use Rattle.model.specs.Known.{Known}
use Rattle.model.specs.ErrorTable.{rows_before_block}
use Rattle.model.specs.Failures.{AreJudged}
use Rattle.model.specs.Rooms.{IsAdmitted}
use Rattle.model.specs.RequestClause.{RequestsHold}
use Rattle.model.specs.ResponseClause.{ResponsesHold}
use Rattle.model.specs.ErrorClause.{ErrorsHold}
use Rattle.model.specs.ProgressClause.{ProgressHolds}
use Rattle.model.specs.WindowClause.{WindowsHold}
use Rattle.model.specs.FloodClause.{FloodsHold}

-- the six clauses
pub record ClausesHold (known : Known) (t : List Entry) : Type 0 where
  pub requests : RequestsHold known t
  pub responses : ResponsesHold known t
  pub errors : ErrorsHold known t
  pub progress : ProgressHolds known t
  pub windows : WindowsHold known t
  pub floods : FloodsHold known t

-- It holds of the tape before each thing that comes in: so the gateway's settings stand before all else, and all that an entry causes
-- stands behind it and before the next thing that comes in.
abbrev pub HoldsInTurn : (List Entry → Type 0) → List Entry → Type 0
HoldsInTurn Holds [] = Unit {0}
HoldsInTurn Holds (Sent noted ∷ t) = HoldsInTurn Holds t
HoldsInTurn Holds (Did act ∷ t) = HoldsInTurn Holds t
HoldsInTurn Holds (e ∷ t) = Holds t × HoldsInTurn Holds t

-- the frame completes a header block, and is an error of the connection before the block is read
abbrev pub is_unread : List Entry → Noted → Bool
is_unread t noted = is_some (completed (came t) noted.frame) && is_some (first_of (rows_before_block t (Came noted)))

-- Just such blocks aren't read.
abbrev pub OthersAreRead : List Entry → Type 0
OthersAreRead [] = Unit {0}
OthersAreRead (Came noted ∷ t) = (is_read noted.note ≡ not (is_unread t noted)) × OthersAreRead t
OthersAreRead (_ ∷ t) = OthersAreRead t

-- A tape tells the octets that the client sent so far: its frames are read off them, and what is noted of their blocks, and
-- known of upstreams' failures, is right. Nothing comes behind the client's close.
pub record IsTold (known : Known) (text : List ℕ) (t : List Entry) : Type 0 where
  pub read : IsRead text t
  pub table : Table
  pub decodes : Decodes (came t) table
  pub others_are_read : OthersAreRead t
  pub failures : AreJudged known t
  pub ends : EndsWithClose t

-- The step, behind the steps before it, has this segment of the tape: its event might come, the segment is the step's, the
-- tape tells all that the client sent, and the clauses hold, as they did before each thing that came in.
pub record IsTaped (known : Known) (earlier : List Step) (step : Step) (before segment : List Entry) : Type 0 where
  pub admitted : IsAdmitted known before step.event
  pub step_is : IsStep step segment
  pub told : IsTold known (client_in (step ∷ earlier)) (segment ++ before)
  pub in_turn : HoldsInTurn (ClausesHold known) (segment ++ before)
  pub clauses : ClausesHold known (segment ++ before)

-- The steps, the newest first, have this tape, at the end of each.
abbrev pub HasTape : Known → List Step → List Entry → Type 0
HasTape known [] tape = tape ≡ []
HasTape known (step ∷ earlier) tape =
    (segment before : List Entry) × (tape ≡ segment ++ before) × IsTaped known earlier step before segment × HasTape known earlier before

-- The log, the oldest step first, has a tape for which the clauses hold wherever something may come in: within a step, and at its end.
pub record Headline (setup : Setup) (log : List Step) : Type 0 where
  pub known : Known
  pub of_setup : known.setup ≡ setup
  pub tape : List Entry
  pub has_tape : HasTape known (reverse log) tape
