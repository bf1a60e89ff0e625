use Rattle.std.proofs.Common.{take}
use Rattle.h2gw_setup.specs.Addresses.{AreAddresses}
use Rattle.h2gw_setup.proofs.setting.addresses_of.Given as goal

abbrev pub invariant-loop-route : goal.invariant-loop-route
invariant-loop-route l = AreAddresses (take l.route-index l.routes) l.addresses.items
