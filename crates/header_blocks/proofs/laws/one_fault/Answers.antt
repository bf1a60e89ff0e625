use Rattle.header_blocks.proofs.OneFault as laws
use Rattle.header_blocks.proofs.laws.one_fault.Goals as goal

pub returns : goal.returns
returns c = laws.one_fault
