use Rattle.std.proofs.Common.{refl}
use Rattle.sockets.proofs.Moving.{moves_rise}
use Rattle.sockets.proofs.world.SocketWorld.note_idle.Goals as goal

pub returns-clause-moved_by : goal.returns-clause-moved_by
returns-clause-moved_by g c = record {
  moved = c.note_idle.ensures.moves;
  rising = moves_rise _ _ _ _ _ _ _ c.note_idle.ensures.moves;
  addresses = rw c.note_idle.ensures.stays refl;
  number = rw c.note_idle.ensures.stays refl;
}
