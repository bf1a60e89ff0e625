use Rattle.theory_errors.proofs.Telling as laws
use Rattle.theory_errors.proofs.Book as book
use Rattle.theory_errors.proofs.book_tells.Goals as goal

pub returns-clause-told : goal.returns-clause-told
returns-clause-told c = laws.book_told

pub returns-clause-active : goal.returns-clause-active
returns-clause-active c = laws.active_told

pub returns-clause-live : goal.returns-clause-live
returns-clause-live c = laws.live_told

pub returns-clause-fault : goal.returns-clause-fault
returns-clause-fault c = laws.fault_told

pub returns-clause-block_out : goal.returns-clause-block_out
returns-clause-block_out c = book.block_out_told
