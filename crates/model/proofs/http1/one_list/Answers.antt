use Rattle.model.proofs.Http1Readings.{one_list}
use Rattle.model.proofs.http1.one_list.Goals as goal

pub returns : goal.returns
returns c = one_list
