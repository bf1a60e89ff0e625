use Rattle.sockets.proofs.Moving.{client_moves, side_told, side_untold, all_still}
use Rattle.sockets.proofs.connections.Sockets.tell_client.Goals as goal

pub returns-then-count-gt0-clause-moves : goal.returns-then-count-gt0-clause-moves
returns-then-count-gt0-clause-moves g c =
    record { client_is = side_told _ _ _ _ _ _ c.tell-count.ensures.told c.tell-count.ensures.passes; others = all_still _ _ c.args.self.now.upstreams.items }

pub returns-clause-moves : goal.returns-clause-moves
returns-clause-moves g c =
    client_moves _ _ _ _ c.args.self.now.upstreams.items (side_untold _ _ _ _ _ _ c.if-count-gt0.false c.tell-count.ensures.told c.tell-count.ensures.passes)
