use Rattle.model.proofs.Http1Readings.{one_request}
use Rattle.model.proofs.http1.one_request.Goals as goal

pub returns : goal.returns
returns c = one_request
