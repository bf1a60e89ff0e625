use Rattle.theory_errors.proofs.Calm as laws
use Rattle.theory_errors.proofs.errors_before_blocks.Goals as goal

pub returns : goal.returns
returns c = laws.fatal_before_block
