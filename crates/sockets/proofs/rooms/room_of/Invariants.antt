use Rattle.std.proofs.Common.{◌≡◌, drop}
use Rattle.sockets.specs.Rooms.{room_in}
use Rattle.sockets.proofs.rooms.room_of.Given as goal

abbrev pub invariant-loop-other : goal.invariant-loop-other
invariant-loop-other l = room_in l.k (drop l.other-index l.rooms) ≡ room_in l.k l.rooms
