use Rattle.theory_header_tables.proofs.Spelled.{block_goes}
use Rattle.theory_header_tables.proofs.blocks_go.Goals as goal

pub returns : goal.returns
returns c = block_goes
