use Rattle.theory_header_tables.specs.State.{tape_of, state_of}
use Rattle.theory_header_tables.proofs.Tables.{run_holds, tables_kept}
use Rattle.theory_header_tables.proofs.tables_keep.Goals as goal

pub returns : goal.returns
returns c = λ policy moves judged came. tables_kept policy (tape_of moves) (state_of policy moves) (run_holds policy moves judged came)
