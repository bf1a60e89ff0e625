use Rattle.std.specs.Prelude.{ℕ, List}
use Rattle.sockets.specs.Performed.{AllGoOn}
use Rattle.sockets.specs.Queues.{AllListed}
use Rattle.sockets.specs.Sides.{no_news}
use Rattle.sockets.proofs.queues.note_idle_all.Given as goal

abbrev pub invariant-loop-number : goal.invariant-loop-number
invariant-loop-number g l = record {
  goes : AllGoOn g.S.Socket.left g.S.Socket.held no_news l.fn.upstreams.items l.upstreams.items;
  listed : (ready writes : List ℕ) → AllListed 0 ready writes l.fn.upstreams.items → AllListed 0 ready writes l.upstreams.items;
}
