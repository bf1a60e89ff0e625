use Rattle.theory_errors.proofs.Tidy as laws
use Rattle.theory_errors.proofs.rows_are_kept.Goals as goal

pub returns-clause-behind : goal.returns-clause-behind
returns-clause-behind c = laws.kept_behind_entry

pub returns-clause-all : goal.returns-clause-all
returns-clause-all c = laws.ledger_kept

pub returns-clause-once : goal.returns-clause-once
returns-clause-once c = laws.stands_once
