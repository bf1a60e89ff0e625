use Rattle.h1_reader.proofs.Noticed.{not_bad}
use Rattle.h1_reader.proofs.Hopes.{hope}
use Rattle.h1_reader.proofs.laws.faults_are_noticed.Goals as goal

pub returns : goal.returns
returns c = record { noticed = not_bad; early = hope }
