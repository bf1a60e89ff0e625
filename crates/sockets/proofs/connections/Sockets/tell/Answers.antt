use Rattle.sockets.proofs.Moving.{moves_twice, moves_quiet}
use Rattle.sockets.proofs.connections.Sockets.tell.Goals as goal

pub returns-clause-moves : goal.returns-clause-moves
returns-clause-moves g c =
    moves_twice _ _ _ _ _ _ _ _ _ (moves_quiet _ _ c.tell_upstream.result _ _ _ _ c.in_default.is c.tell_upstream.ensures.moves) c.tell_client.ensures.moves
