use Rattle.model.proofs.DeliveryReadings as readings
use Rattle.model.proofs.clauses.one_delivery.Goals as goal

pub returns : goal.returns
returns c = readings.one_delivery
