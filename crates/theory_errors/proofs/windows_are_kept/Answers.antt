use Rattle.theory_errors.proofs.Windows as laws
use Rattle.theory_errors.proofs.windows_are_kept.Goals as goal

pub returns : goal.returns
returns c = laws.keeps_more
