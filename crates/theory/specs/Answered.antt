-- What is told of upstreams' answers, and that it is so: the word of the reader that an upstream's octets go through.
use Rattle.std.specs.Prelude.{◌≡◌, ℕ, true, List, [], ◌∷◌, ◌++◌}
use Rattle.model.specs.Tapes.{Entry}
use Rattle.model.specs.Tapes.Entry.{Happened}
use Rattle.model.specs.Logs.{Event}
use Rattle.model.specs.Openings.{exchange_on}
use Rattle.model.specs.Available.{heard_by}
use Rattle.model.specs.Known.{Known}
use Rattle.model.specs.Courses.{upstream_of}
use Rattle.model.specs.Failures.{IsJudged}
use Rattle.model.specs.Idle.{is_asked_for_head, IsTooLong, LeavesOpen, IsIdle}
use Rattle.theory_responses.specs.Rule as offers
use Rattle.theory_responses.specs.State as theory_responses
use Rattle.theory_requests.specs.Lines.{Heard}
use Rattle.theory_requests.specs.Pool.{Verdict}
use Rattle.theory.specs.Moves.{Decision, Move, fails_in}
use Rattle.theory.specs.Moves.Decision.{Notes, Hears, Fails, Idles}
use Rattle.theory.specs.Moves.Move.{Does, Settles}
use Rattle.theory.specs.State.{tape_of}

-- Of the connection's newest exchange this was heard with the event.
abbrev pub IsHeardBy : Known → List Entry → Event → Heard → Type 0
IsHeardBy known t event heard = Verdict known (Happened event ∷ t) (exchange_on (upstream_of event) t) heard

-- With these octets of a connection its response is whole and leaves it open, and isn't given up as too long; connections are kept.
pub record LeavesIdle (known : Known) (t : List Entry) (k : ℕ) (piece : List ℕ) : Type 0 where
  pub keeps : known.setup.keep ≡ true
  pub answered : LeavesOpen (heard_by (exchange_on k t) t ++ piece) (is_asked_for_head known (exchange_on k t) t)
  pub fits : IsTooLong known (heard_by (exchange_on k t) t ++ piece) (is_asked_for_head known (exchange_on k t) t) → ⊥

-- What a decision says of an upstream's answer is so: its news, what was heard with them, whether it failed, and that a connection is idle.
abbrev pub IsAnswered : Known → List Entry → Decision → Type 0
IsAnswered known t (Notes event) = IsJudged known t event (fails_in (Notes event))
IsAnswered known t (Hears event stream news heard) =
    offers.IsTold known t (theory_responses.Move.Hears event stream news) × IsHeardBy known t event heard
    × IsJudged known t event (fails_in (Hears event stream news heard))
IsAnswered known t (Fails event stream heard) = IsHeardBy known t event heard × IsJudged known t event (fails_in (Fails event stream heard))
IsAnswered known t (Idles event) = IsIdle known t (upstream_of event) × IsJudged known t event (fails_in (Idles event))
IsAnswered known t d = Unit {0}

-- So of each decision.
abbrev pub AreAnswered : Known → List Move → Type 0
AreAnswered known [] = Unit {0}
AreAnswered known (Does d ∷ run) = AreAnswered known run × IsAnswered known (tape_of run) d
AreAnswered known (Settles ∷ run) = AreAnswered known run
