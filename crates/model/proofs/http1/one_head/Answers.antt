use Rattle.model.proofs.Http1Readings.{one_head}
use Rattle.model.proofs.http1.one_head.Goals as goal

pub returns : goal.returns
returns c = one_head
