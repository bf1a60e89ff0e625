-- What is promised of a log.
use Rattle.std.specs.Prelude.{List}
use Rattle.model.specs.Logs.{Step}
use Rattle.model.specs.Setup.{Setup}
use Rattle.model.specs.Tables.{Table}
use Rattle.model.specs.Tapes.{Entry}
use Rattle.model.specs.Known.{Known}
use Rattle.model.specs.Headline.{Headline}
use Rattle.model.specs.Synchrony.{InStep}
use Rattle.nothing_smuggled.specs.Smuggling.{NothingSmuggled}
use Rattle.refinement.specs.View.{View}

-- Tables are in step behind a tape: those of the gateway are those of the other side, and turns were fair.
pub record AreInStep (known : Known) (t : List Entry) : Type 0 where
  pub encoding : Table
  pub decoding : Table
  pub in_step : InStep known t encoding decoding

-- What is promised of a log, the oldest step first: the headline, by a tape of it, so that nothing is smuggled; and behind that tape
-- tables are in step.
pub record Promise (setup : Setup) (log : List Step) : Type 0 where
  pub headline : Headline setup log
  pub safe : NothingSmuggled log
  pub in_step : AreInStep headline.known headline.tape

-- The tables of a gateway's own are those: behind that tape the table of its encoder is what all header blocks that were sent leave, and that of its
-- decoder what all that came leave.
pub record OwnInStep (setup : Setup) (log : List Step) (kept : View) : Type 0 where
  pub promise : Promise setup log
  pub in_step : InStep promise.headline.known promise.headline.tape kept.encoding.table kept.inbound.table
