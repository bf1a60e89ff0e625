use Rattle.sockets.proofs.Performing.{ok_then, on_both}
use Rattle.sockets.proofs.Queueing.{both_listed, both_stay, queued_stays, grows_still}
use Rattle.sockets.proofs.queues.list.Goals as goal

pub returns-in_err-join_ready-clause-stays : goal.returns-in_err-join_ready-clause-stays
returns-in_err-join_ready-clause-stays g c = queued_stays c.args.upstream.now c.join_ready.new.upstream c.join_ready.ensures.stays

pub returns-in_err-join_ready-clause-ready : goal.returns-in_err-join_ready-clause-ready
returns-in_err-join_ready-clause-ready g c = c.join_ready.ensures.more

pub returns-in_err-join_ready-clause-writes : goal.returns-in_err-join_ready-clause-writes
returns-in_err-join_ready-clause-writes g c = grows_still c.args.writes.now.items

pub returns-clause-stays : goal.returns-clause-stays
returns-clause-stays g c = both_stay c.args.upstream.now c.join_ready.new.upstream c.join_writes.new.upstream c.join_ready.ensures.stays c.join_writes.ensures.stays

pub returns-clause-ready : goal.returns-clause-ready
returns-clause-ready g c = c.join_ready.ensures.more

pub returns-clause-writes : goal.returns-clause-writes
returns-clause-writes g c = c.join_writes.ensures.more

pub returns-clause-listed : goal.returns-clause-listed
returns-clause-listed g c =
    ok_then c.join_writes.result
    (λ both. λ was. both_listed _ _ _ _ c.args.upstream.now c.join_ready.new.upstream c.join_writes.new.upstream c.join_ready.ensures.stays c.join_writes.ensures.stays
    c.in_ok-join_ready.ensures.queued c.in_ok-join_ready.ensures.may both.1 both.0 was)
    (on_both _ _ c.join_writes.result c.join_writes.ensures.owes c.join_writes.ensures.listed)
