use Rattle.h1_reader.proofs.FaultSteps.{fails_return}
use Rattle.h1_reader.proofs.reader.Reader.take_return.Goals as goal

pub returns-then-octet-ne13-clause-fault : goal.returns-then-octet-ne13-clause-fault
returns-then-octet-ne13-clause-fault c = fails_return c.args.self.now c.args.octet c.requires c.if-octet-ne13.true
