use Rattle.std.proofs.Common.{refl}
use Rattle.std.specs.Prelude.{is_ok}
use Rattle.sockets.proofs.Queueing.{grows_still, grows_by, unjoined, stands_behind}
use Rattle.sockets.proofs.connections.Sockets.queue_client.Goals as goal

pub returns-in_ok-push_back-clause-ready : goal.returns-in_ok-push_back-clause-ready
returns-in_ok-push_back-clause-ready g c = grows_by (is_ok c.push_back.result) _ _ _ c.push_back.ensures.items

pub returns-in_err-push_back-clause-ready : goal.returns-in_err-push_back-clause-ready
returns-in_err-push_back-clause-ready g c = grows_by (is_ok c.push_back.result) _ _ _ c.push_back.ensures.items

pub returns-else-client_joins-clause-ready : goal.returns-else-client_joins-clause-ready
returns-else-client_joins-clause-ready g c = grows_still c.args.self.now.ready.items

pub returns-in_ok-push_back-clause-listed : goal.returns-in_ok-push_back-clause-listed
returns-in_ok-push_back-clause-listed g c = λ was. record { may = λ so. refl; queued = λ is. stands_behind 0 _ _ c.in_ok-push_back.ensures.items }

pub returns-else-client_joins-clause-listed : goal.returns-else-client_joins-clause-listed
returns-else-client_joins-clause-listed g c = λ was. record { may = λ so. unjoined _ _ _ c.client_joins.ensures c.if-client_joins.false so; queued = was }
