-- A gateway can be set up with what a table configures.
use Rattle.std.proofs.Common.{◌≡◌, ◌≤◌, ◌-◌, ℕ, ℤ, suc, Option, Some, None, List, [], ◌∷◌, length, map, refl, ap, ◌∙◌, arith}
use Rattle.std.proofs.lemmas.List.{length-map}
use Rattle.toml.specs.Data.{Members, Items}
use Rattle.gateway.specs.Setups.{setup_of, route_of, IsServable}
use Rattle.gateway.specs.declared.config.Config.{Config}
use Rattle.gateway.specs.declared.config.Route.{Route}
use Rattle.configuration.specs.Configs.{IsConfig, AreRoutes, Configures}
use Rattle.configuration.specs.Keys.{IsMost, IsWindow, AreTables}

most : (number : Option (Option ℤ)) (n : ℕ) → IsMost number n → n ≤ 1073741824
most None n is = rw is (omega arith)
most (Some number) n is = is.1

more : (number : Option (Option ℤ)) (n : ℕ) → IsWindow number n → n - 65535 ≤ 983041
more None n is = rw is (omega arith)
more (Some number) n is = let most = is.2 in omega (arith, most)

-- One route for each table, and few enough tables.
as_many : (tables : List Members) (routes : List Route) → AreRoutes tables routes → length routes ≡ length tables
as_many [] [] are = refl
as_many [] (r ∷ routes) are = absurd are
as_many (t ∷ tables) [] are = absurd are
as_many (t ∷ tables) (r ∷ routes) are = ap suc (as_many tables routes are.1)

few : (values : Option (Option Items)) (tables : List Members) → AreTables values tables → length tables ≤ 4294967295
few None tables are = rw are (omega arith)
few (Some items) tables are = are.1

pub servable : (entries : Members) (config : Config) → IsConfig entries config → IsServable (setup_of config)
servable entries config is =
    let count : length (map route_of config.routes.items) ≡ length is.tables = length-map config.routes.items route_of ∙ as_many is.tables config.routes.items is.routes in
    let most_tables : length is.tables ≤ 4294967295 = few _ is.tables is.are_tables in
    record {
      body = most _ config.max_body is.max_body;
      response = most _ config.max_response is.max_response;
      room = more _ config.window is.window;
      few = omega arith;
    }

pub servable_of : (found : Option Members) (config : Config) → Configures found config → IsServable (setup_of config)
servable_of None config is = absurd is
servable_of (Some entries) config is = servable entries config is
