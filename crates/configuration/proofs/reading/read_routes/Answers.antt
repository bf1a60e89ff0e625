use Rattle.std.proofs.Common.{◌≡◌, sym, ◌++◌, ◌∷◌, [], arith}
use Rattle.std.proofs.lemmas.Grind.{common_steps}
use Rattle.configuration.proofs.RoutesLemmas.{no_routes, routes_more, routes_fail, never_tables}
use Rattle.configuration.proofs.reading.read_routes.Goals as goal

pub loop-value-init : goal.loop-value-init
loop-value-init c = rw c.new-routes.ensures.items no_routes

pub returns-in_default-clause-err : goal.returns-in_default-clause-err
returns-in_default-clause-err c = λ tables e. absurd (never_tables _ _ c.value-item.result c.loop-value-test.true c.value-item.is (sym c.in_default.ensures) tables e)

pub returns-in-Err-clause-err : goal.returns-in-Err-clause-err
returns-in-Err-clause-err c =
    routes_fail _ _ c.value-item.result _ _ c.in-Err.fault c.loop-value-test.true c.value-item.is c.in-Some.ensures c.in-Err.ensures.err c.loop-value.invariant

pub loop-value-preserved : goal.loop-value-preserved
loop-value-preserved c =
    let items : c.push.new.self.items ≡ c.loop-value.routes.items ++ c.in-Ok.route ∷ [] = grind (arith, common_steps) in
    routes_more _ _ c.value-item.result _ _ _ c.in-Ok.route c.loop-value-test.true c.value-item.is c.in-Some.ensures c.in-Ok.ensures.ok items c.loop-value.invariant
