-- Which logs keep the headline, where each connection carries one exchange.
use Rattle.std.specs.Prelude.{◌≡◌, ℕ, List, [], ◌∷◌, ◌++◌, reverse}
use Rattle.model.specs.Tables.{Table}
use Rattle.model.specs.Logs.{Step, client_in}
use Rattle.model.specs.Setup.{Setup}
use Rattle.model.specs.Tapes.{Entry, came, EndsWithClose, IsStep, IsRead}
use Rattle.model.specs.Decoding.{Decodes}
use Rattle.model.specs.Known.{Known}
use Rattle.model.specs.Headline.{HoldsInTurn, OthersAreRead}
use Rattle.one_exchange.specs.Requests.{RequestsHoldOnce}
use Rattle.one_exchange.specs.Responses.{ResponsesHoldOnce}
use Rattle.one_exchange.specs.Errors.{ErrorsHoldOnce}
use Rattle.one_exchange.specs.Progress.{ProgressHoldsOnce}
use Rattle.one_exchange.specs.Windows.{WindowsHoldOnce}
use Rattle.one_exchange.specs.Floods.{FloodsHoldOnce}
use Rattle.one_exchange.specs.Failures.{AreJudgedOnce}
use Rattle.one_exchange.specs.Rooms.{IsAdmittedOnce}

-- the six clauses
pub record ClausesHoldOnce (known : Known) (t : List Entry) : Type 0 where
  pub requests : RequestsHoldOnce known t
  pub responses : ResponsesHoldOnce known t
  pub errors : ErrorsHoldOnce known t
  pub progress : ProgressHoldsOnce known t
  pub windows : WindowsHoldOnce known t
  pub floods : FloodsHoldOnce known t

-- A tape tells the octets that the client sent so far, what is noted of their blocks, and what is known of failures.
pub record IsToldOnce (known : Known) (text : List ℕ) (t : List Entry) : Type 0 where
  pub read : IsRead text t
  pub table : Table
  pub decodes : Decodes (came t) table
  pub others_are_read : OthersAreRead t
  pub failures : AreJudgedOnce known t
  pub ends : EndsWithClose t

-- The step, behind the steps before it, has this segment of the tape.
pub record IsTapedOnce (known : Known) (earlier : List Step) (step : Step) (before segment : List Entry) : Type 0 where
  pub admitted : IsAdmittedOnce known before step.event
  pub step_is : IsStep step segment
  pub told : IsToldOnce known (client_in (step ∷ earlier)) (segment ++ before)
  pub in_turn : HoldsInTurn (ClausesHoldOnce known) (segment ++ before)
  pub clauses : ClausesHoldOnce known (segment ++ before)

-- The steps, the newest first, have this tape, at the end of each.
abbrev pub HasTapeOnce : Known → List Step → List Entry → Type 0
HasTapeOnce known [] tape = tape ≡ []
HasTapeOnce known (step ∷ earlier) tape =
    (segment before : List Entry) × (tape ≡ segment ++ before) × IsTapedOnce known earlier step before segment × HasTapeOnce known earlier before

-- The log, the oldest step first, has a tape for which the clauses hold so wherever something may come in.
pub record HeadlineOnce (setup : Setup) (log : List Step) : Type 0 where
  pub known : Known
  pub of_setup : known.setup ≡ setup
  pub tape : List Entry
  pub has_tape : HasTapeOnce known (reverse log) tape
