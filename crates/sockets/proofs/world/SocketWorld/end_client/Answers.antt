use Rattle.std.proofs.Common.{refl}
use Rattle.sockets.proofs.Moving.{goes_kept, client_moves}
use Rattle.sockets.proofs.world.SocketWorld.end_client.Goals as goal

pub returns-clause-moved_by : goal.returns-clause-moved_by
returns-clause-moved_by g c =
    let end = c.end.ensures in
    record {
      moved = client_moves _ _ c.args.self.now.sockets.client c.end.new.self c.args.self.now.sockets.upstreams.items
          (goes_kept _ _ c.args.self.now.sockets.client c.end.new.self end.left end.held (rw end.stays refl) (rw end.stays refl) (rw end.stays refl) (rw end.stays (λ is. is)));
      rising = λ up. up;
      addresses = refl;
      number = refl;
    }
