use Rattle.theory_header_tables.proofs.Tables.{run_holds, responses_by, responses_in_turn}
use Rattle.theory_header_tables.specs.State.{tape_of, state_of}
use Rattle.theory_header_tables.proofs.responses_hold.Goals as goal

pub returns-clause-holds : goal.returns-clause-holds
returns-clause-holds c = λ known policy moves judged came. responses_by policy known (tape_of moves) (state_of policy moves) (run_holds policy moves judged came)

pub returns-clause-in_turn : goal.returns-clause-in_turn
returns-clause-in_turn c = λ known policy moves. responses_in_turn policy known moves
