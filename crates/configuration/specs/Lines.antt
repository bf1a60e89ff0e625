-- What a program says of a configuration that it doesn't take.
use Rattle.std.specs.Prelude.{ℕ, List, ◌++◌, codes}
use Rattle.configuration.specs.declared.faults.Key.{Key}
use Rattle.configuration.specs.declared.faults.Key.TheVariants as key
use Rattle.configuration.specs.declared.faults.ConfigFault.{ConfigFault}
use Rattle.configuration.specs.declared.faults.ConfigFault.TheVariants.{NotToml, Bad, UnknownKey, Memory}

-- how a key is written
abbrev pub name_of : Key → List ℕ
name_of key.Policy = codes "policy"
name_of key.Passing = codes "passing"
name_of key.MaxBody = codes "max_body"
name_of key.MaxResponse = codes "max_response"
name_of key.Keep = codes "keep"
name_of key.Idle = codes "idle"
name_of key.Window = codes "window"
name_of key.Route = codes "route"
name_of key.Authority = codes "authority"
name_of key.Prefix = codes "prefix"
name_of key.Upstream = codes "upstream"

-- one line, without its end
abbrev pub line_of : ConfigFault → List ℕ
line_of NotToml = codes "config: not TOML"
line_of (Bad key) = codes "config: bad " ++ name_of key
line_of UnknownKey = codes "config: unknown key"
line_of Memory = codes "config: no memory"
