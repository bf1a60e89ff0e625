use Rattle.theory_responses.proofs.Flushing as flushing
use Rattle.theory_responses.proofs.outboxes_keep.Goals as goal

pub returns : goal.returns
returns c = flushing.clauses_hold
