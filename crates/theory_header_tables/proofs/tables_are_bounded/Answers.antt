use Rattle.theory_header_tables.proofs.Bounded as laws
use Rattle.theory_header_tables.proofs.tables_are_bounded.Goals as goal

pub returns : goal.returns
returns c = laws.all_bounded
