-- What the private steps of reading a configuration answer.
use Rattle.std.specs.Prelude.{ℕ, Bool, false, List, Option, Some, None, ⊤}
use Rattle.toml.specs.Data.{Members}
use Rattle.configuration.specs.declared.faults.ConfigFault.{ConfigFault}
use Rattle.configuration.specs.declared.faults.ConfigFault.TheVariants.{NotToml, Bad, UnknownKey, Memory}
use Rattle.configuration.specs.Configs.{IsFirstWrong, IsFirstInRoutes, route_keys, has_only}

-- Why the table of a route is no route, unless memory ran out.
abbrev pub IsNoRoute : Members → ConfigFault → Type 0
IsNoRoute entries NotToml = ⊥
IsNoRoute entries (Bad key) = IsFirstWrong route_keys entries key
IsNoRoute entries UnknownKey = ⊥
IsNoRoute entries Memory = ⊤

-- Why tables are no routes, unless memory ran out.
abbrev pub AreNoRoutes : List Members → ConfigFault → Type 0
AreNoRoutes tables NotToml = ⊥
AreNoRoutes tables (Bad key) = IsFirstInRoutes tables key
AreNoRoutes tables UnknownKey = ⊥
AreNoRoutes tables Memory = ⊤

-- whether it is a table, and has these keys alone
abbrev pub is_only : List (List ℕ) → Option Members → Bool
is_only names None = false
is_only names (Some entries) = has_only names entries
