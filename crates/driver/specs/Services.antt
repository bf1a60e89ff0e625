-- What a service is seen as, and what is promised of what it adds to a log.
use Rattle.std.specs.Prelude.{◌≡◌, ℕ, Bool, Option, Some, None, Result, Ok, Err, List, []}
use Rattle.model.specs.Logs.{Step}
use Rattle.model.specs.Setup.{Setup}
use Rattle.gateway.specs.Stands.{Standing, Stands}
use Rattle.driver.specs.Worlds.{Handed, Serves}
use Rattle.driver.specs.declared.services.ServiceEnd.{ServiceEnd}
use Rattle.driver.specs.declared.services.ServeFault.{ServeFault}

-- What a clause sees of a service: where its gateway stands, the rooms behind that, and how it ended, if it did.
pub record Served : Type 0 where
  pub gateway : Standing
  pub rooms : List (ℕ × ℕ)
  pub outcome : Option (Result ServiceEnd ServeFault)

-- A service took no turn yet.
pub record Begins (setup : Setup) (service : Served) : Type 0 where
  pub stands : Stands setup service.gateway [] []
  pub no_rooms : service.rooms ≡ []
  pub going : service.outcome ≡ None

-- what a turn answers of a service that ended so
abbrev pub turn_of : Result ServiceEnd ServeFault → Result (Option ServiceEnd) ServeFault
turn_of (Ok ended) = Ok (Some ended)
turn_of (Err fault) = Err fault

-- how a service ended, by what its turn answered, if it did
abbrev pub outcome_of : Result (Option ServiceEnd) ServeFault → Option (Result ServiceEnd ServeFault)
outcome_of (Ok None) = None
outcome_of (Ok (Some ended)) = Some (Ok ended)
outcome_of (Err fault) = Some (Err fault)

-- The service stands for what was added to this log, in which the client is closed or not, and what was handed since was right.
abbrev pub Goes : Setup → Bool → Served → Option (List Step) → Option (List Handed) → List Step → Option (List Handed) → Type 0
Goes setup closed service log handed before earlier = Serves setup closed log service.gateway service.rooms earlier handed before
