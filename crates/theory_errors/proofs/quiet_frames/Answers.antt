use Rattle.theory_errors.proofs.Quiet as laws
use Rattle.theory_errors.proofs.quiet_frames.Goals as goal

pub returns-clause-fault : goal.returns-clause-fault
returns-clause-fault c = laws.fault_none

pub returns-clause-book : goal.returns-clause-book
returns-clause-book c = laws.quiet_book

pub returns-clause-owes : goal.returns-clause-owes
returns-clause-owes c = laws.quiet_owes
