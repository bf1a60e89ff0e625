use Rattle.theory_errors.proofs.Elsewhere as laws
use Rattle.theory_errors.proofs.other_rows_stay.Goals as goal

pub returns : goal.returns
returns c = laws.row_stays
