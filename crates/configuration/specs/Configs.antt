-- What a table of TOML configures, or why it configures nothing.
use Rattle.std.specs.Prelude.{◌≡◌, ◌⊎◌, ℕ, Bool, true, false, ◌&&◌, List, [], ◌∷◌, ◌++◌, Option, Some, None, string_bytes, codes, bytes_eq, map, ⊤}
use Rattle.std.specs.List.{list_any, list_all, AllByRecursion}
use Rattle.toml.specs.Data.{Members, no_members, member}
use Rattle.gateway.specs.declared.config.Config.{Config}
use Rattle.gateway.specs.declared.config.Route.{Route}
use Rattle.configuration.specs.declared.faults.Key.{Key}
use Rattle.configuration.specs.declared.faults.Key.TheVariants as key
use Rattle.configuration.specs.declared.faults.ConfigFault.{ConfigFault}
use Rattle.configuration.specs.declared.faults.ConfigFault.TheVariants.{NotToml, Bad, UnknownKey, Memory}
use Rattle.configuration.specs.Lines.{name_of}
use Rattle.configuration.specs.Keys.{text_at, number_at, bool_at, array_at, IsPolicy, IsPassing, IsMost, IsKeep, IsIdle, IsWindow}
use Rattle.configuration.specs.Keys.{AreTables, IsAuthority, IsPrefix, IsUpstream, IsRight}

-- The keys in the order in which they are judged: those of the whole table, and those of each route.
abbrev pub table_keys : List Key
table_keys = key.Policy ∷ key.Passing ∷ key.MaxBody ∷ key.MaxResponse ∷ key.Keep ∷ key.Idle ∷ key.Window ∷ key.Route ∷ []

abbrev pub route_keys : List Key
route_keys = key.Authority ∷ key.Prefix ∷ key.Upstream ∷ []

-- The names of the keys that the whole table and a route can have.
abbrev pub table_names : List (List ℕ)
table_names = map name_of table_keys

abbrev pub route_names : List (List ℕ)
route_names = map name_of route_keys

-- whether the name is one of these
abbrev pub is_among : List (List ℕ) → List ℕ → Bool
is_among names name = list_any (bytes_eq name) names

-- whether a table has these keys alone
abbrev pub has_only : List (List ℕ) → Members → Bool
has_only names no_members = true
has_only names (member name value entries) = is_among names name && has_only names entries

-- whether neither the whole table nor its routes have an unknown key
abbrev pub has_known : Members → List Members → Bool
has_known entries routes = has_only table_names entries && list_all (has_only route_names) routes

-- what the table of a route configures
pub record IsRoute (entries : Members) (route : Route) : Type 0 where
  pub authority : IsAuthority (text_at (codes "authority") entries) route.authority.items
  pub prefix : IsPrefix (text_at (codes "prefix") entries) route.prefix.items
  pub upstream : IsUpstream (text_at (codes "upstream") entries) (string_bytes route.upstream)

-- one route for each table, in their order
abbrev pub AreRoutes : List Members → List Route → Type 0
AreRoutes [] [] = ⊤
AreRoutes [] (route ∷ routes) = ⊥
AreRoutes (entries ∷ tables) [] = ⊥
AreRoutes (entries ∷ tables) (route ∷ routes) = IsRoute entries route × AreRoutes tables routes

-- what a table configures
pub record IsConfig (entries : Members) (config : Config) : Type 0 where
  pub policy : IsPolicy (text_at (codes "policy") entries) config.policy
  pub passing : IsPassing (text_at (codes "passing") entries) config.passing
  pub max_body : IsMost (number_at (codes "max_body") entries) config.max_body
  pub max_response : IsMost (number_at (codes "max_response") entries) config.max_response
  pub keep : IsKeep (bool_at (codes "keep") entries) config.keep
  pub idle : IsIdle (number_at (codes "idle") entries) config.idle
  pub window : IsWindow (number_at (codes "window") entries) config.window
  pub tables : List Members
  pub are_tables : AreTables (array_at (codes "route") entries) tables
  pub routes : AreRoutes tables config.routes.items
  pub known : has_known entries tables ≡ true

-- All of these keys are right in the table.
abbrev pub AreRight : List Key → Members → Type 0
AreRight keys entries = AllByRecursion (IsRight entries) keys

-- The key is the first of these that is wrong in the table.
pub record IsFirstWrong (keys : List Key) (entries : Members) (key : Key) : Type 0 where
  pub before : List Key
  pub after : List Key
  pub parts : keys ≡ before ++ key ∷ after
  pub right : AreRight before entries
  pub wrong : IsRight entries key → ⊥

-- The key is wrong in a route, and all keys of the routes before it are right.
pub record IsFirstInRoutes (tables : List Members) (key : Key) : Type 0 where
  pub before : List Members
  pub route : Members
  pub after : List Members
  pub parts : tables ≡ before ++ route ∷ after
  pub right : AllByRecursion (AreRight route_keys) before
  pub wrong : IsFirstWrong route_keys route key

-- The keys of the whole table are right, and this one is the first that is wrong in its routes.
pub record IsWrongInRoutes (entries : Members) (key : Key) : Type 0 where
  pub right : AreRight table_keys entries
  pub tables : List Members
  pub are_tables : AreTables (array_at (codes "route") entries) tables
  pub wrong : IsFirstInRoutes tables key

-- All known keys are right, and there is another.
pub record HasUnknownKey (entries : Members) : Type 0 where
  pub right : AreRight table_keys entries
  pub tables : List Members
  pub are_tables : AreTables (array_at (codes "route") entries) tables
  pub routes : AllByRecursion (AreRight route_keys) tables
  pub unknown : has_known entries tables ≡ false

-- Why a table configures nothing, unless memory ran out.
abbrev pub IsNoConfig : Members → ConfigFault → Type 0
IsNoConfig entries NotToml = ⊥
IsNoConfig entries (Bad key) = IsFirstWrong table_keys entries key ⊎ IsWrongInRoutes entries key
IsNoConfig entries UnknownKey = HasUnknownKey entries
IsNoConfig entries Memory = ⊤

-- What TOML's reading of a text configures: a table, or none where it isn't TOML.
abbrev pub Configures : Option Members → Config → Type 0
Configures None config = ⊥
Configures (Some entries) config = IsConfig entries config

-- Why it configures nothing, unless memory ran out.
abbrev pub ConfiguresNothing : Option Members → ConfigFault → Type 0
ConfiguresNothing None fault = (fault ≡ NotToml) ⊎ (fault ≡ Memory)
ConfiguresNothing (Some entries) fault = IsNoConfig entries fault
