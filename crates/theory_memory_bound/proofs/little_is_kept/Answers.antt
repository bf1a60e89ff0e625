use Rattle.theory_memory_bound.proofs.Holding as laws
use Rattle.theory_memory_bound.proofs.little_is_kept.Goals as goal

pub returns : goal.returns
returns c = laws.little_kept
