-- What a service's turn leaves.
use Rattle.std.proofs.Common.{Bool, Option, List, ℕ}
use Rattle.model.specs.Logs.{Step}
use Rattle.model.specs.Setup.{Setup}
use Rattle.gateway.specs.Stands.{Standing}
use Rattle.gateway.proofs.Running.{promised_at}
use Rattle.driver.specs.Worlds.{Handed, Serves, AddsPromised}

-- What is promised holds of what was added.
pub serves_promised : (setup : Setup) (closed : Bool) (log : Option (List Step)) (g : Standing) (rooms : List (ℕ × ℕ)) (old handed : Option (List Handed)) (before : List Step) → Serves setup closed log g rooms old handed before → AddsPromised setup closed before log
serves_promised setup closed log g rooms old handed before s = (s.added, s.is, (promised_at setup g s.added s.run s.stands).0, s.has_closed_is)
