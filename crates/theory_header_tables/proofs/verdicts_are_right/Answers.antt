use Rattle.theory_header_tables.proofs.Judging as laws
use Rattle.theory_header_tables.proofs.verdicts_are_right.Goals as goal

pub returns-clause-by_tape : goal.returns-clause-by_tape
returns-clause-by_tape c = laws.verdict_right

pub returns-clause-by_book : goal.returns-clause-by_book
returns-clause-by_book c = laws.verdict_by_book
