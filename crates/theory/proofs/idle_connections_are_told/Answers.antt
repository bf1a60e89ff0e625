use Rattle.theory.proofs.Idling as idling
use Rattle.theory.proofs.idle_connections_are_told.Goals as goal

pub returns-clause-idle : goal.returns-clause-idle
returns-clause-idle c known run knows all answered k line found is = idling.idle_by_state known run (record { knows = knows; all = all; answered = answered }) k line found is

pub returns-clause-octets : goal.returns-clause-octets
returns-clause-octets c known t k piece idle plain = idling.octets_so known t k piece idle plain

pub returns-clause-ended : goal.returns-clause-ended
returns-clause-ended c known t k idle = idling.end_so known t k idle

pub returns-clause-failed : goal.returns-clause-failed
returns-clause-failed c known t k idle = idling.failure_so known t k idle
