use Rattle.upstream_connections.proofs.HeldInside.{held_is}
use Rattle.upstream_connections.proofs.laws.what_is_held_is_seen.Goals as goal

pub returns-clause-held : goal.returns-clause-held
returns-clause-held c = λ held. held_is held.way
