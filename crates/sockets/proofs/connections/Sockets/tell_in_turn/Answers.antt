use Rattle.sockets.proofs.Moving.{moves_still}
use Rattle.sockets.proofs.connections.Sockets.tell_in_turn.Goals as goal

pub returns-clause-moves : goal.returns-clause-moves
returns-clause-moves g c = moves_still _ _ _ _
