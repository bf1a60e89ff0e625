-- A gateway between events.
use Rattle.std.specs.Prelude.{◌≡◌, false, List}
use Rattle.model.specs.Logs.{Step}
use Rattle.model.specs.Setup.{Setup}
use Rattle.theory.specs.Moves.{Move}
use Rattle.gateway.specs.Stands.{Standing, Stands, is_dead}

-- Unless memory was refused, it stands for some log.
abbrev pub IsDriven : Standing → Type 0
IsDriven gateway = is_dead gateway.phase ≡ false → (setup : Setup) × (log : List Step) × (run : List Move) × Stands setup gateway log run
