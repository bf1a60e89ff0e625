-- What is to be replayed.
use Rattle.std.specs.Prelude.{ℕ, List}
use Rattle.toml.specs.Parse.{parse_document}
use Rattle.gateway.specs.declared.config.Config.{Config}
use Rattle.configuration.specs.Configs.{Configures}

-- The text says a configuration.
abbrev pub SaysConfig : List ℕ → Type 0
SaysConfig text = (config : Config) × Configures (parse_document text) config
