use Rattle.theory.proofs.Keeping as keeping
use Rattle.theory.proofs.headline_holds.Goals as goal

pub returns-clause-clauses : goal.returns-clause-clauses
returns-clause-clauses c known run knows all answered rests = keeping.clauses known run (record { knows = knows; all = all; answered = answered }) rests

pub returns-clause-in_turn : goal.returns-clause-in_turn
returns-clause-in_turn c known run knows all answered = keeping.in_turn known run (record { knows = knows; all = all; answered = answered })

pub returns-clause-judged : goal.returns-clause-judged
returns-clause-judged c = keeping.judged

pub returns-clause-ends : goal.returns-clause-ends
returns-clause-ends c = keeping.ends_with_close
