-- What a table configures, once its keys are read.
use Rattle.std.proofs.Common.{◌≡◌, ℕ, Bool, true, false, ◌&&◌, List, map, Option, None, inl, inr, refl, sym, ◌∙◌, codes}
use Rattle.std.specs.List.{list_all}
use Rattle.toml.specs.Data.{Members, table, as_table}
use Rattle.toml.specs.View.{view}
use Rattle.toml.specs.declared.value.Value.{Value}
use Rattle.gateway.specs.declared.config.Policy.{Policy}
use Rattle.gateway.specs.declared.config.Passing.{Passing}
use Rattle.gateway.specs.declared.config.Route.{Route}
use Rattle.configuration.specs.declared.faults.ConfigFault.{ConfigFault}
use Rattle.configuration.specs.declared.faults.ConfigFault.TheVariants.{NotToml, Bad, UnknownKey, Memory}
use Rattle.configuration.specs.Keys.{text_at, number_at, bool_at, array_at, IsPolicy, IsPassing, IsMost, IsKeep, IsIdle, IsWindow, AreTables}
use Rattle.configuration.specs.Configs.{table_keys, route_names, has_only, has_known, AreRoutes, AreRight, HasUnknownKey, IsNoConfig, ConfiguresNothing, table_names}
use Rattle.configuration.specs.Steps.{AreNoRoutes, is_only}
use Rattle.configuration.proofs.RoutesLemmas.{routes_are_right, known_routes}

-- The tables of the values at `route`.
abbrev pub HasTables : Members → List Value → Type 0
HasTables entries vs = (tables : List Members) × (map view vs ≡ map table tables) × AreTables (array_at (codes "route") entries) tables

pub right_keys : (entries : Members) (policy : Policy) (passing : Passing) (body response : ℕ) (keep : Bool) (idle window : ℕ) (vs : List Value)
    → IsPolicy (text_at (codes "policy") entries) policy → IsPassing (text_at (codes "passing") entries) passing
    → IsMost (number_at (codes "max_body") entries) body → IsMost (number_at (codes "max_response") entries) response
    → IsKeep (bool_at (codes "keep") entries) keep → IsIdle (number_at (codes "idle") entries) idle → IsWindow (number_at (codes "window") entries) window → HasTables entries vs → AreRight table_keys entries
right_keys entries policy passing body response keep idle window vs is_policy is_passing is_body is_response is_keep is_idle is_window has =
    ((policy, is_policy), ((passing, is_passing), ((body, is_body), ((response, is_response), ((keep, is_keep), ((idle, is_idle), ((window, is_window), ((has.0, has.2), tt))))))))

-- The routes' fault is the whole table's.
pub routes_fault : (entries : Members) (vs : List Value) (fault : ConfigFault) → AreRight table_keys entries → HasTables entries vs
    → ((tables : List Members) → map view vs ≡ map table tables → AreNoRoutes tables fault) → IsNoConfig entries fault
routes_fault entries vs NotToml right has h = h has.0 has.1
routes_fault entries vs (Bad key) right has h = inr (record { right = right; tables = has.0; are_tables = has.2; wrong = h has.0 has.1 })
routes_fault entries vs UnknownKey right has h = absurd (h has.0 has.1)
routes_fault entries vs Memory right has h = tt

pub has_unknown : (entries : Members) (vs : List Value) (routes : List Route) → AreRight table_keys entries → (has : HasTables entries vs)
    → ((tables : List Members) → map view vs ≡ map table tables → AreRoutes tables routes) → has_known entries has.0 ≡ false → HasUnknownKey entries
has_unknown entries vs routes right has h unknown =
    record { right = right; tables = has.0; are_tables = has.2; routes = routes_are_right has.0 routes (h has.0 has.1); unknown = unknown }

both_known : (a b : Bool) → a ≡ true → b ≡ true → (a && b) ≡ true
both_known a b e f = rw (e, f) refl

first_unknown : (a b : Bool) → a ≡ false → (a && b) ≡ false
first_unknown a b e = rw e refl

second_unknown : (a b : Bool) → a ≡ true → b ≡ false → (a && b) ≡ false
second_unknown a b e f = rw (e, f) refl

-- What the tests of the whole table's keys and of the routes' come to.
pub unknown_in_table : (entries : Members) (tables : List Members) → has_only table_names entries ≡ false → has_known entries tables ≡ false
unknown_in_table entries tables e = first_unknown _ _ e

pub unknown_in_routes : (entries : Members) (vs : List Value) (has : HasTables entries vs) → has_only table_names entries ≡ true
    → list_all (λ v. is_only route_names (as_table (view v))) vs ≡ false → has_known entries has.0 ≡ false
unknown_in_routes entries vs has e f = second_unknown _ _ e (sym (known_routes route_names vs has.0 has.1) ∙ f)

pub all_known : (entries : Members) (vs : List Value) (has : HasTables entries vs) → has_only table_names entries ≡ true
    → list_all (λ v. is_only route_names (as_table (view v))) vs ≡ true → has_known entries has.0 ≡ true
all_known entries vs has e f = both_known _ _ e (sym (known_routes route_names vs has.0 has.1) ∙ f)

pub no_toml : (o : Option Members) → o ≡ None → ConfiguresNothing o NotToml
no_toml o e = rw e (inl refl)

pub not_both : (b : Bool) → b ≡ true → b ≡ false → ⊥
not_both b t f = let bad : true ≡ false = sym t ∙ f in absurd (cc)
