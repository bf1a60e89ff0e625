use Rattle.theory_responses.proofs.Sights as sights
use Rattle.theory_responses.proofs.sights_are_right.Goals as goal

pub returns-clause-summary : goal.returns-clause-summary
returns-clause-summary c = sights.right_by_summary

pub returns-clause-book : goal.returns-clause-book
returns-clause-book c = sights.right_by_book
