use Rattle.std.proofs.Common.{◌≡◌, map, take}
use Rattle.gateway.specs.Setups.{route_of}
use Rattle.gateway.proofs.config.Config.copy_routes.Given as goal

abbrev pub invariant-loop-route : goal.invariant-loop-route
invariant-loop-route l = l.routes.items ≡ map route_of (take l.route-index l.self.routes.items)
