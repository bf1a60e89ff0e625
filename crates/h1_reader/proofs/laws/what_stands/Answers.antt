use Rattle.h1_reader.proofs.Telling.{tells, done, not_done}
use Rattle.h1_reader.proofs.laws.what_stands.Goals as goal

pub returns : goal.returns
returns c = record { told = tells; done = done; not_done = not_done }
