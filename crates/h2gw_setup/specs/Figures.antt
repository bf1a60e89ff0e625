-- What serving clients by a configuration can come to.
use Rattle.std.specs.Prelude.{◌+◌, ◌*◌, ℕ, if◌then◌else◌}
use Rattle.gateway.specs.Held.{held_bound}
use Rattle.gateway.specs.Setups.{setup_of}
use Rattle.gateway.specs.declared.config.Config.{Config}

-- how many connections to servers a client has at once: one for each active stream, and, where they are kept, those that are idle
abbrev pub most_upstreams : Config → ℕ
most_upstreams config = 100 + (if config.keep then config.idle else 0)

-- how many octets of messages are held for so many clients, how many connections to servers they have, and how many files are open: one for each client
-- and each of these connections, and some ten of the program's own
abbrev pub most_octets : Config → ℕ → ℕ
most_octets config clients = clients * held_bound (setup_of config)

abbrev pub most_connections : Config → ℕ → ℕ
most_connections config clients = clients * most_upstreams config

abbrev pub most_files : Config → ℕ → ℕ
most_files config clients = 10 + clients * (1 + most_upstreams config)
