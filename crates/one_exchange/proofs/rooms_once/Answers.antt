use Rattle.one_exchange.proofs.Alone.{stands}
use Rattle.one_exchange.proofs.Judged.{admitted_once}
use Rattle.one_exchange.proofs.rooms_once.Goals as goal

pub returns : goal.returns
returns c known t event n = admitted_once known t (stands known t n) event
