use Rattle.std.proofs.Common.{inr}
use Rattle.theory_receive_windows.proofs.Holding as theory_memory_bound
use Rattle.theory_receive_windows.proofs.held_is_told.Goals as goal

pub returns : goal.returns
returns c known t k box h bare = inr (theory_memory_bound.busy known t k box h bare, theory_memory_bound.holds_body known t k box h bare)
