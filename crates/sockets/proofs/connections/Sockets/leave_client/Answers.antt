use Rattle.std.proofs.Common.{◌∙◌, ap}
use Rattle.sockets.proofs.Moving.{goes_still, goes_lost, lost_twice}
use Rattle.sockets.proofs.connections.Sockets.leave_client.Goals as goal

pub loop-init : goal.loop-init
loop-init g c = (c.clear.ensures.items, goes_lost _ _ _ _ (goes_still _ _ _))

pub loop-preserved : goal.loop-preserved
loop-preserved g c = (ap (λ us. us.items) c.leave_on.ensures.upstreams ∙ c.loop.invariant.0, lost_twice _ _ _ _ _ c.loop.invariant.1 c.leave_on.ensures.client)

pub returns-in_err-leave_on-clause-client : goal.returns-in_err-leave_on-clause-client
returns-in_err-leave_on-clause-client g c = lost_twice _ _ _ _ _ c.loop.invariant.1 c.leave_on.ensures.client

pub returns-then-branch-clause-client : goal.returns-then-branch-clause-client
returns-then-branch-clause-client g c = lost_twice _ _ _ _ _ c.loop.invariant.1 c.leave_on.ensures.client
