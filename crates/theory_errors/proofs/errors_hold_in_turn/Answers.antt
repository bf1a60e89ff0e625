use Rattle.theory_errors.proofs.InTurn as laws
use Rattle.theory_errors.proofs.errors_hold_in_turn.Goals as goal

pub returns-clause-at_rest : goal.returns-clause-at_rest
returns-clause-at_rest c = laws.comes_at_rest

pub returns-clause-in_turn : goal.returns-clause-in_turn
returns-clause-in_turn c = laws.errors_in_turn
