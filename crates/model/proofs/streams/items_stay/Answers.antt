use Rattle.model.proofs.ItemLaws as laws
use Rattle.model.proofs.streams.items_stay.Goals as goal

pub returns-clause-none : goal.returns-clause-none
returns-clause-none c = laws.items_stay

pub returns-clause-by_fault : goal.returns-clause-by_fault
returns-clause-by_fault c = laws.none_by_fault

pub returns-clause-by_over : goal.returns-clause-by_over
returns-clause-by_over c = laws.none_over

pub returns-clause-by_frame : goal.returns-clause-by_frame
returns-clause-by_frame c = laws.none_brought

pub returns-clause-method : goal.returns-clause-method
returns-clause-method c = laws.head_stays
