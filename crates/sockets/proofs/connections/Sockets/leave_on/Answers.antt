use Rattle.sockets.proofs.Moving.{goes_lost, lost_twice}
use Rattle.sockets.proofs.connections.Sockets.leave_on.Goals as goal

pub returns-in_ok-hear_client-in-Some-2-clause-client : goal.returns-in_ok-hear_client-in-Some-2-clause-client
returns-in_ok-hear_client-in-Some-2-clause-client g c = lost_twice _ _ _ _ _ c.leave_on.ensures.goes (goes_lost _ _ _ _ c.hear_client.ensures.client)

pub returns-in_err-hear_client-in-Some-2-clause-client : goal.returns-in_err-hear_client-in-Some-2-clause-client
returns-in_err-hear_client-in-Some-2-clause-client g c = lost_twice _ _ _ _ _ c.leave_on.ensures.goes (goes_lost _ _ _ _ c.hear_client.ensures.client)
