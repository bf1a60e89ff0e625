use Rattle.model.proofs.ResponseReadings.{one_response}
use Rattle.model.proofs.responses.one_response.Goals as goal

pub returns : goal.returns
returns c = one_response
