use Rattle.model.proofs.DeliveryReadings as readings
use Rattle.model.proofs.clauses.one_connection.Goals as goal

pub returns-clause-number : goal.returns-clause-number
returns-clause-number c = readings.one_number

pub returns-clause-stream : goal.returns-clause-stream
returns-clause-stream c = readings.one_connection
