use Rattle.sockets.specs.Sides.{Goes, no_news}
use Rattle.sockets.proofs.connections.note_client.Given as goal

abbrev pub invariant-loop-report : goal.invariant-loop-report
invariant-loop-report g l =
    (goal.iterator-loop-report g).can_next l.report-iterator × (goal.iterator-loop-report g).is_finite l.report-iterator × Goes g.S.Socket.left g.S.Socket.held no_news l.fn.client l.client
