-- How code meets the rule: a decision changes what is kept and nothing else, and the steps of a log are answered by moves that come by it.
use Rattle.std.specs.Prelude.{◌≡◌, false, List, [], ◌∷◌, ◌++◌}
use Rattle.model.specs.Setup.{Setup}
use Rattle.model.specs.Logs.{Step, client_in}
use Rattle.model.specs.Tapes.{IsStep, IsRead}
use Rattle.model.specs.Known.{Known}
use Rattle.model.specs.Rooms.{IsAdmitted}
use Rattle.theory_errors.specs.Summary.{Summary}
use Rattle.theory_errors.specs.Book.{ledger_after, summary_in}
use Rattle.theory_responses.specs.Sight.{sight_in}
use Rattle.theory_responses.specs.State as theory_responses
use Rattle.theory_receive_windows.specs.State as theory_receive_windows
use Rattle.theory_requests.specs.State as theory_requests
use Rattle.theory_header_tables.specs.State as theory_header_tables
use Rattle.theory.specs.Moves.{Decision, Move, conduct_of, offer_of, request_of, table_of, window_of, told_in}
use Rattle.theory.specs.Moves.Move.{Does, Settles}
use Rattle.theory.specs.State.{State, tape_of, state_of}
use Rattle.theory.specs.Rule.{rooms_in, MayDo, AllAllowed, RestsBehind}

-- ---- one move

-- what is kept behind a decision, by what is told before it and behind it
abbrev pub after : Setup → Summary → Summary → State → Decision → State
after setup before behind s d = record {
  ledger = ledger_after setup s.ledger (conduct_of d);
  offers = theory_responses.after s.offers (offer_of (sight_in before) (sight_in behind) d);
  requests = theory_requests.after setup (told_in behind) s.requests (request_of d);
  tables = theory_header_tables.after s.tables (table_of before d);
  windows = theory_receive_windows.kept_of (theory_receive_windows.after setup.passing (rooms_in before s) (window_of (sight_in before) (sight_in behind) d));
}

-- what the book tells, and what it tells behind a decision
abbrev pub told_by : State → Summary
told_by s = summary_in s.ledger.book

abbrev pub told_behind : Setup → State → Decision → Summary
told_behind setup s d = summary_in (ledger_after setup s.ledger (conduct_of d)).book

-- what is kept behind a move with which the connection goes on
abbrev pub next : Setup → State → Move → State
next setup s (Does d) = after setup (told_by s) (told_behind setup s d) s d
next setup s Settles = record s {
  windows = theory_receive_windows.kept_of
      (theory_receive_windows.after setup.passing (rooms_in (told_by s) s) theory_receive_windows.Move.Settles);
}

-- The move may come, and nothing calls for the connection's end with it: by what is kept alone.
abbrev pub MayGoOn : Setup → State → Move → Type 0
MayGoOn setup s (Does d) = ((ledger_after setup s.ledger (conduct_of d)).book.ends ≡ false) × MayDo setup (told_by s) (told_behind setup s d) s d
MayGoOn setup s Settles = Unit {0}

-- Moves, the newest first, lead from one state to another, and the connection goes on.
abbrev pub Leads : Setup → State → List Move → State → Type 0
Leads setup old [] new = new ≡ old
Leads setup old (m ∷ moves) new = (s : State) × Leads setup old moves s × MayGoOn setup s m × (new ≡ next setup s m)

-- A state stands behind moves that came by the rule, and the connection goes on.
pub record Stands (setup : Setup) (run : List Move) (s : State) : Type 0 where
  pub allowed : AllAllowed setup run
  pub is : state_of setup run ≡ s
  pub goes_on : s.ledger.book.ends ≡ false

-- ---- the steps of a log

-- The step, behind the steps before it, is answered by these moves: its event might come, what they put out is the step's, their tape tells
-- all that the client sent, and behind them the gateway rests.
pub record IsAnsweredBy (known : Known) (earlier : List Step) (step : Step) (before segment : List Move) : Type 0 where
  pub admitted : IsAdmitted known (tape_of before) step.event
  pub step_is : IsStep step (tape_of segment)
  pub read : IsRead (client_in (step ∷ earlier)) (tape_of (segment ++ before))
  pub rests : RestsBehind known.setup (segment ++ before)

-- So is each step, the newest first, by these moves in all.
abbrev pub AreAnsweredBy : Known → List Step → List Move → Type 0
AreAnsweredBy known [] run = run ≡ []
AreAnsweredBy known (step ∷ earlier) run =
    (segment before : List Move) × (run ≡ segment ++ before) × IsAnsweredBy known earlier step before segment × AreAnsweredBy known earlier before
