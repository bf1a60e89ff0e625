use Rattle.theory_responses.proofs.Holding as theory_memory_bound
use Rattle.theory_responses.proofs.Counting as counting
use Rattle.theory_responses.proofs.outboxes_are_bounded.Goals as goal

pub returns-clause-few : goal.returns-clause-few
returns-clause-few c known run may right told = λ i d lt. (theory_memory_bound.all_few known run may right told i d lt).few

pub returns-clause-short : goal.returns-clause-short
returns-clause-short c known run may right told = λ i d lt. (theory_memory_bound.all_few known run may right told i d lt).short

pub returns-clause-heads : goal.returns-clause-heads
returns-clause-heads c known run may right told = λ i d lt. theory_memory_bound.heads_sum _ (theory_memory_bound.all_few known run may right told i d lt)

pub returns-clause-whole : goal.returns-clause-whole
returns-clause-whole c = theory_memory_bound.all_kept

pub returns-clause-streaming : goal.returns-clause-streaming
returns-clause-streaming c = theory_memory_bound.all_streamed

pub returns-clause-held : goal.returns-clause-held
returns-clause-held c = theory_memory_bound.all_held

pub returns-clause-most : goal.returns-clause-most
returns-clause-most c = theory_memory_bound.most_within

pub returns-clause-streams : goal.returns-clause-streams
returns-clause-streams c = counting.are_of_active

pub returns-clause-apart : goal.returns-clause-apart
returns-clause-apart c = counting.are_distinct

pub returns-clause-together : goal.returns-clause-together
returns-clause-together c = theory_memory_bound.held_together
