use Rattle.std.proofs.Common.{◌≡◌, ◌++◌, map, take}
use Rattle.gateway.specs.Rooms.{room_in}
use Rattle.gateway.proofs.gateway.list_open.Given as goal

abbrev pub invariant-loop-connection : goal.invariant-loop-connection
invariant-loop-connection l = l.rooms.items ≡ l.fn.rooms.items ++ map (room_in l.offers) (take l.connection-index l.connections)
