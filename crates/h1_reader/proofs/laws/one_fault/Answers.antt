use Rattle.h1_reader.proofs.OneFault.{one_fault}
use Rattle.h1_reader.proofs.FaultLaws.{spoils}
use Rattle.h1_reader.proofs.laws.one_fault.Goals as goal

pub returns : goal.returns
returns c = record { one = one_fault; spoils = spoils }
