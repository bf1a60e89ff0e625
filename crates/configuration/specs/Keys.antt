-- What the keys of a configuration say: one relation for each, from what stands at the key.
use Rattle.std.specs.Prelude.{◌≡◌, ◌≤◌, ℕ, ℤ, pos, Bool, false, List, [], ◌++◌, length, map, Option, Some, None, option_map, codes}
use Rattle.std.specs.declared.net.socket_addr.SocketAddr.{SocketAddr}
use Rattle.std.specs.Net.Grammar.{IsSocketText}
use Rattle.toml.specs.Data.{Members, Items, table, get_member, as_str, as_integer, as_bool, as_array}
use Rattle.toml.specs.View.{items_of}
use Rattle.gateway.specs.declared.config.Policy.{Policy}
use Rattle.gateway.specs.declared.config.Policy.TheVariants.{Plain, Indexing}
use Rattle.gateway.specs.declared.config.Passing.{Passing}
use Rattle.gateway.specs.declared.config.Passing.TheVariants.{Whole, Streaming}
use Rattle.configuration.specs.declared.faults.Key.{Key}
use Rattle.configuration.specs.declared.faults.Key.TheVariants as key

-- Nothing is such.
abbrev pub Lacks : {A : Type 0} → (A → Type 0) → Type 0
Lacks {A} Is = (a : A) → Is a → ⊥

-- What stands at a key: nothing, or a value, which is a text or not. Numbers, truth values and arrays likewise.
abbrev pub text_at : List ℕ → Members → Option (Option (List ℕ))
text_at key entries = option_map as_str (get_member key entries)

abbrev pub number_at : List ℕ → Members → Option (Option ℤ)
number_at key entries = option_map as_integer (get_member key entries)

abbrev pub bool_at : List ℕ → Members → Option (Option Bool)
bool_at key entries = option_map as_bool (get_member key entries)

abbrev pub array_at : List ℕ → Members → Option (Option Items)
array_at key entries = option_map as_array (get_member key entries)

-- how a policy is written
abbrev pub name_of_policy : Policy → List ℕ
name_of_policy Plain = codes "plain"
name_of_policy Indexing = codes "indexing"

-- `policy`: the name of one, and "plain" by default.
abbrev pub IsPolicy : Option (Option (List ℕ)) → Policy → Type 0
IsPolicy None policy = policy ≡ Plain
IsPolicy (Some text) policy = text ≡ Some (name_of_policy policy)

-- how a way of passing bodies on is written
abbrev pub name_of_passing : Passing → List ℕ
name_of_passing Whole = codes "whole"
name_of_passing Streaming = codes "streaming"

-- `passing`: the name of one, and "whole" by default.
abbrev pub IsPassing : Option (Option (List ℕ)) → Passing → Type 0
IsPassing None passing = passing ≡ Whole
IsPassing (Some text) passing = text ≡ Some (name_of_passing passing)

-- `max_body` and `max_response`: 0 to 1,073,741,824, and 1,048,576 by default.
abbrev pub IsMost : Option (Option ℤ) → ℕ → Type 0
IsMost None most = most ≡ 1048576
IsMost (Some number) most = (number ≡ Some (pos most)) × (most ≤ 1073741824)

-- `keep`: true or false, and false by default.
abbrev pub IsKeep : Option (Option Bool) → Bool → Type 0
IsKeep None keep = keep ≡ false
IsKeep (Some value) keep = value ≡ Some keep

-- `idle`: 0 to 100, and 8 by default.
abbrev pub IsIdle : Option (Option ℤ) → ℕ → Type 0
IsIdle None idle = idle ≡ 8
IsIdle (Some number) idle = (number ≡ Some (pos idle)) × (idle ≤ 100)

-- `window`: 65,535 to 1,048,576, and 65,535 by default.
abbrev pub IsWindow : Option (Option ℤ) → ℕ → Type 0
IsWindow None window = window ≡ 65535
IsWindow (Some number) window = (number ≡ Some (pos window)) × (65535 ≤ window) × (window ≤ 1048576)

-- `route`: an array of tables, and none by default. A route's place is a number of 32 bits, so there are at most 4,294,967,295.
abbrev pub AreTables : Option (Option Items) → List Members → Type 0
AreTables None tables = tables ≡ []
AreTables (Some items) tables = (items ≡ Some (items_of (map table tables))) × (length tables ≤ 4294967295)

-- `authority` of a route: a text, and empty by default.
abbrev pub IsAuthority : Option (Option (List ℕ)) → List ℕ → Type 0
IsAuthority None authority = authority ≡ []
IsAuthority (Some text) authority = text ≡ Some authority

-- `prefix` of a route: a text that begins with `/`.
abbrev pub IsPrefix : Option (Option (List ℕ)) → List ℕ → Type 0
IsPrefix text prefix = (text ≡ Some (Some prefix)) × (rest : List ℕ) × (prefix ≡ codes "/" ++ rest)

-- `upstream` of a route: the text of a numeric address and port.
abbrev pub IsUpstream : Option (Option (List ℕ)) → List ℕ → Type 0
IsUpstream text upstream = (text ≡ Some (Some upstream)) × (address : SocketAddr) × IsSocketText upstream address

-- A value stands at the key, or is its default, that the key can have.
abbrev pub IsRight : Members → Key → Type 0
IsRight entries key.Policy = (policy : Policy) × IsPolicy (text_at (codes "policy") entries) policy
IsRight entries key.Passing = (passing : Passing) × IsPassing (text_at (codes "passing") entries) passing
IsRight entries key.MaxBody = (most : ℕ) × IsMost (number_at (codes "max_body") entries) most
IsRight entries key.MaxResponse = (most : ℕ) × IsMost (number_at (codes "max_response") entries) most
IsRight entries key.Keep = (keep : Bool) × IsKeep (bool_at (codes "keep") entries) keep
IsRight entries key.Idle = (idle : ℕ) × IsIdle (number_at (codes "idle") entries) idle
IsRight entries key.Window = (window : ℕ) × IsWindow (number_at (codes "window") entries) window
IsRight entries key.Route = (tables : List Members) × AreTables (array_at (codes "route") entries) tables
IsRight entries key.Authority = (authority : List ℕ) × IsAuthority (text_at (codes "authority") entries) authority
IsRight entries key.Prefix = (prefix : List ℕ) × IsPrefix (text_at (codes "prefix") entries) prefix
IsRight entries key.Upstream = (upstream : List ℕ) × IsUpstream (text_at (codes "upstream") entries) upstream
