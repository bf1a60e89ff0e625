use Rattle.h1_reader.proofs.Keepable.{kept, not_kept}
use Rattle.h1_reader.proofs.laws.what_may_be_kept.Goals as goal

pub returns : goal.returns
returns c = record { kept = kept; not_kept = not_kept }
