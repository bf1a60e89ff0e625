use Rattle.sockets.specs.Performed.{AllGoOn}
use Rattle.sockets.specs.Queues.{Grows, AllListed}
use Rattle.sockets.specs.Sides.{no_news}
use Rattle.sockets.proofs.queues.heed_all.Given as goal

abbrev pub invariant-loop-report : goal.invariant-loop-report
invariant-loop-report g l = record {
  can_next : (goal.iterator-loop-report g).can_next l.report-iterator;
  is_finite : (goal.iterator-loop-report g).is_finite l.report-iterator;
  goes : AllGoOn g.S.Socket.left g.S.Socket.held no_news l.fn.upstreams.items l.upstreams.items;
  ready : Grows l.fn.ready.items l.ready.items;
  listed : AllListed 0 l.fn.ready.items l.fn.writes.items l.fn.upstreams.items → AllListed 0 l.ready.items l.writes.items l.upstreams.items;
}
