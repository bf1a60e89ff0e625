use Rattle.theory_header_tables.proofs.Synced.{in_step_by_states}
use Rattle.theory_header_tables.proofs.in_step.Goals as goal

pub returns : goal.returns
returns c = in_step_by_states
