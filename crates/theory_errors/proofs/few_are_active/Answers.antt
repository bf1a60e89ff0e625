use Rattle.theory_errors.proofs.Few as laws
use Rattle.theory_errors.proofs.few_are_active.Goals as goal

pub returns-clause-by_book : goal.returns-clause-by_book
returns-clause-by_book c = λ setup moves all rests on. laws.few_at_rest setup moves all rests.nothing on

pub returns-clause-by_tape : goal.returns-clause-by_tape
returns-clause-by_tape c = λ known moves knows all rests on. laws.few_on_tape known moves knows all rests.nothing on
