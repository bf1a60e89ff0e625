use Rattle.std.proofs.Common.{refl}
use Rattle.sockets.proofs.Moving.{moves_rise}
use Rattle.sockets.proofs.world.SocketWorld.give_up.Goals as goal

pub returns-clause-moved_by : goal.returns-clause-moved_by
returns-clause-moved_by g c = λ answer. record {
  moved = c.give_up.ensures.moves;
  rising = moves_rise _ _ _ _ _ _ _ c.give_up.ensures.moves;
  addresses = rw c.give_up.ensures.addresses refl;
  number = c.give_up.ensures.number;
}
