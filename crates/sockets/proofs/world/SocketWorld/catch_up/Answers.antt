use Rattle.std.proofs.Common.{Ok, refl, ap}
use Rattle.sockets.specs.Moves.{seen_in}
use Rattle.sockets.proofs.Moving.{steps_same}
use Rattle.sockets.proofs.Queueing.{queued_in}
use Rattle.sockets.proofs.world.SocketWorld.catch_up.Goals as goal

pub returns-clause-queued : goal.returns-clause-queued
returns-clause-queued g c = λ before.
    let put = c.put_client_last.ensures in
    rw put.writes
    (rw put.queued
    (rw put.client
    (rw put.upstreams
    (queued_in _ _ _ _ _ _ put.stand before))))

pub returns-clause-moved_by : goal.returns-clause-moved_by
returns-clause-moved_by g c =
    let put = c.put_client_last.ensures in
    steps_same _ _ (Ok tt) (seen_in c.args.self.now.sockets) (seen_in c.put_client_last.new.self) put.client (rw put.upstreams refl) (rw put.addresses refl) put.number
