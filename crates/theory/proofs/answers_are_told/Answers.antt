use Rattle.theory.proofs.Verdicts as verdicts
use Rattle.theory.proofs.answers_are_told.Goals as goal

pub returns-clause-keepable : goal.returns-clause-keepable
returns-clause-keepable c known run knows all answered rests k line found pending none piece leaves = verdicts.keepable known run (record { knows = knows; all = all; answered = answered }) rests k line found pending none piece leaves

pub returns-clause-in_part : goal.returns-clause-in_part
returns-clause-in_part c known run knows all answered rests k line found held is event of whole = verdicts.in_part known run (record { knows = knows; all = all; answered = answered }) rests k line found held is event of whole

pub returns-clause-not_left : goal.returns-clause-not_left
returns-clause-not_left c known t k piece whole not = verdicts.not_left known t k piece whole not

pub returns-clause-ended : goal.returns-clause-ended
returns-clause-ended c known t k whole = verdicts.at_end known t k whole
