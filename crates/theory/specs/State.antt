-- What a gateway keeps: a field for each concern, and what is told behind moves.
use Rattle.std.specs.Prelude.{if◌then◌else◌, List, [], ◌∷◌, is_some}
use Rattle.model.specs.Setup.{Setup}
use Rattle.model.specs.Tapes.{Entry}
use Rattle.model.specs.Openings.{given}
use Rattle.theory_errors.specs.Summary.{Summary}
use Rattle.theory_errors.specs.Judging.{active_in}
use Rattle.theory_errors.specs.Rule as theory_errors
use Rattle.theory_errors.specs.Book.{Ledger, summary_in, ledger_of}
use Rattle.theory_responses.specs.Sight.{sight_in}
use Rattle.theory_responses.specs.Rule as offers
use Rattle.theory_responses.specs.State as theory_responses
use Rattle.theory_receive_windows.specs.Policy.{Gates}
use Rattle.theory_receive_windows.specs.Rule as windows
use Rattle.theory_receive_windows.specs.State as theory_receive_windows
use Rattle.theory_requests.specs.Lines.{line_of}
use Rattle.theory_requests.specs.State as theory_requests
use Rattle.theory_header_tables.specs.State as theory_header_tables
use Rattle.theory.specs.Moves.{Move, conduct_of, offer_of, request_of, table_of, window_of, told_in}
use Rattle.theory.specs.Moves.Move.{Does, Settles}

-- What is kept: of errors and of the connection's end, of responses, of requests and upstream connections, of header tables, and
-- of receiving windows.
pub record State : Type 0 where
  pub ledger : Ledger
  pub offers : theory_responses.State
  pub requests : theory_requests.State
  pub tables : theory_header_tables.State
  pub windows : theory_receive_windows.Kept

-- what is told of connections and streams: which are open, which are active, which is the last frame's, how many octets for the client
-- aren't taken, and whether it was closed
abbrev pub gates_in : Summary → theory_requests.State → Gates
gates_in s requests = record {
  is_up = λ k. is_some (line_of k requests.live);
  given = λ k. given k s.given;
  live = active_in s;
  last = s.last;
  untaken = s.untaken;
  closed = s.closed;
}

-- ---- moves, the newest first

-- the moves of `theory_errors`
abbrev pub conducts : List Move → List theory_errors.Move
conducts [] = []
conducts (Does d ∷ run) = conduct_of d ∷ conducts run
conducts (Settles ∷ run) = conducts run

abbrev pub tape_of : List Move → List Entry
tape_of run = theory_errors.tape_of (conducts run)

-- What is told behind moves: what the book says; and once the connection is to end, when the book isn't kept any more, what follows
-- from the moves.
abbrev pub summary_at : Setup → List Move → Summary
summary_at setup run =
    if (ledger_of setup (conducts run)).book.ends
    then (theory_errors.point_of setup (conducts run)).summary
    else summary_in (ledger_of setup (conducts run)).book

-- the moves of the other concerns, with what is told behind them
abbrev pub offers_of : Setup → List Move → List offers.Seen
offers_of setup [] = []
offers_of setup (Does d ∷ run) =
    record {
      move = offer_of (sight_in (summary_at setup run)) (sight_in (summary_at setup (Does d ∷ run))) d;
      sight = sight_in (summary_at setup (Does d ∷ run));
    } ∷ offers_of setup run
offers_of setup (Settles ∷ run) = offers_of setup run

abbrev pub turns_of : Setup → List Move → List theory_requests.Turn
turns_of setup [] = []
turns_of setup (Does d ∷ run) = record { move = request_of d; told = told_in (summary_at setup (Does d ∷ run)) } ∷ turns_of setup run
turns_of setup (Settles ∷ run) = turns_of setup run

abbrev pub tables_of : Setup → List Move → List theory_header_tables.Move
tables_of setup [] = []
tables_of setup (Does d ∷ run) = table_of (summary_at setup run) d ∷ tables_of setup run
tables_of setup (Settles ∷ run) = tables_of setup run

abbrev pub windows_of : Setup → List Move → List windows.Seen
windows_of setup [] = []
windows_of setup (Does d ∷ run) =
    record {
      move = window_of (sight_in (summary_at setup run)) (sight_in (summary_at setup (Does d ∷ run))) d;
      sight = sight_in (summary_at setup (Does d ∷ run));
      gates = gates_in (summary_at setup (Does d ∷ run)) (theory_requests.state_of setup (turns_of setup (Does d ∷ run)));
    } ∷ windows_of setup run
windows_of setup (Settles ∷ run) =
    record {
      move = theory_receive_windows.Move.Settles;
      sight = sight_in (summary_at setup run);
      gates = gates_in (summary_at setup run) (theory_requests.state_of setup (turns_of setup run));
    } ∷ windows_of setup run

-- what is kept behind moves
abbrev pub state_of : Setup → List Move → State
state_of setup run = record {
  ledger = ledger_of setup (conducts run);
  offers = theory_responses.state_of (offers.moves_of (offers_of setup run));
  requests = theory_requests.state_of setup (turns_of setup run);
  tables = theory_header_tables.state_of setup.policy (tables_of setup run);
  windows = windows.kept_behind setup.more_room setup.passing (windows_of setup run);
}
