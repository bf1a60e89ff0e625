use Rattle.sockets.proofs.Performing.{ok_then}
use Rattle.sockets.proofs.Queueing.{client_still}
use Rattle.sockets.proofs.connections.Sockets.give_up.Goals as goal

pub returns-clause-queued : goal.returns-clause-queued
returns-clause-queued g c =
    ok_then c.give_up.result
    (λ listed. λ before. record { client_is = client_still _ _ _ _ c.give_up.ensures.ready before.client_is; all_are = listed before.all_are })
    c.give_up.ensures.listed
