use Rattle.h1_reader.proofs.KeepSteps.{kept_open, kept_closed}
use Rattle.h1_reader.proofs.laws.what_is_kept.Goals as goal

pub returns : goal.returns
returns c = record { may = kept_open; must = kept_closed }
