use Rattle.std.proofs.Common.{◌≡◌, ◌++◌, ◌∷◌, [], refl, arith}
use Rattle.std.proofs.lemmas.Grind.{common_steps}
use Rattle.h2gw_setup.proofs.OneMore.{next_address}
use Rattle.h2gw_setup.proofs.Refused.{bad_upstream}
use Rattle.h2gw_setup.proofs.setting.addresses_of.Goals as goal

pub loop-route-preserved : goal.loop-route-preserved
loop-route-preserved c =
    let items : c.push.new.self.items ≡ c.loop-route.addresses.items ++ c.in-Ok.address ∷ [] = grind (arith, common_steps) in
    next_address c.args.routes.now c.loop-route.route-index c.route-item.result _ _ c.in-Ok.address c.loop-route-test.true c.route-item.is
    c.loop-route.invariant (rw c.deref.ensures at c.in-Ok.ensures.value) items

pub returns-in_default-clause-stops : goal.returns-in_default-clause-stops
returns-in_default-clause-stops c =
    let none = rw c.deref.ensures at c.in_default.ensures.value in
    (refl, bad_upstream c.args.routes.now c.loop-route.route-index c.route-item.result c.loop-route-test.true c.route-item.is none)
