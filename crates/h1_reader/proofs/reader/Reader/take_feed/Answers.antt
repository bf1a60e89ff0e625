use Rattle.std.proofs.Common.{refl, ap}
use Rattle.h1_reader.specs.Standing.{State}
use Rattle.response_texts.specs.declared.chunk_line.LinePlace.TheVariants.{Size}
use Rattle.h1_reader.specs.declared.reader.Place.TheVariants.{Line}
use Rattle.h1_reader.proofs.ChunkSteps.{hears_feed}
use Rattle.h1_reader.proofs.FaultSteps.{fails_feed}
use Rattle.h1_reader.proofs.reader.Reader.take_feed.Goals as goal

pub returns-then-octet-ne10-clause-fault : goal.returns-then-octet-ne10-clause-fault
returns-then-octet-ne10-clause-fault c = fails_feed c.args.self.now c.args.octet c.requires c.if-octet-ne10.true

pub returns-clause-ok : goal.returns-clause-ok
returns-clause-ok c = (
  refl,
  hears_feed c.args.self.now _ c.args.octet c.requires c.if-octet-ne10.false (ap (λ (s : State). record { to_head = s.to_head; place = Line (Size 0 0); held = s.held }) c.self.view_is),
)
