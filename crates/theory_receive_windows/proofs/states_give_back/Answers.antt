use Rattle.theory_receive_windows.proofs.Ruling as ruling
use Rattle.theory_receive_windows.proofs.states_give_back.Goals as goal

pub returns-clause-allowed : goal.returns-clause-allowed
returns-clause-allowed c = ruling.all_allowed

pub returns-clause-at_rest : goal.returns-clause-at_rest
returns-clause-at_rest c = ruling.run_gives_back

pub returns-clause-in_turn : goal.returns-clause-in_turn
returns-clause-in_turn c = ruling.rooms_in_turn

pub returns-clause-some : goal.returns-clause-some
returns-clause-some c = ruling.run_goes_back
