use Rattle.theory_errors.proofs.Kept.{summary_kept}
use Rattle.theory_errors.proofs.Owed.{owes_same, rightly_same, end_same}
use Rattle.theory_errors.proofs.summary_tells.Goals as goal

pub returns-clause-kept : goal.returns-clause-kept
returns-clause-kept c = summary_kept

pub returns-clause-owes : goal.returns-clause-owes
returns-clause-owes c = owes_same

pub returns-clause-ends : goal.returns-clause-ends
returns-clause-ends c = end_same

pub returns-clause-rightly : goal.returns-clause-rightly
returns-clause-rightly c = rightly_same
