use Rattle.model.proofs.Http2Readings.{one_meaning}
use Rattle.model.proofs.http2.one_meaning.Goals as goal

pub returns : goal.returns
returns c = one_meaning
