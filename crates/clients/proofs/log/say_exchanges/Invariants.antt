use Rattle.std.proofs.Common.{◌≡◌}
use Rattle.clients.proofs.log.say_exchanges.Given as goal

abbrev pub invariant-loop : goal.invariant-loop
invariant-loop l = l.sockets.world ≡ l.initial.sockets.world
