use Rattle.theory_responses.proofs.Allowing as allowing
use Rattle.theory_responses.proofs.states_keep.Goals as goal

pub returns-clause-allowed : goal.returns-clause-allowed
returns-clause-allowed c known run may right told = (allowing.placed known run may right told).0

pub returns-clause-keeps : goal.returns-clause-keeps
returns-clause-keeps c = allowing.run_keeps

pub returns-clause-in_turn : goal.returns-clause-in_turn
returns-clause-in_turn c = allowing.keeps_in_turn
