use Rattle.h1_writer.proofs.Wholes.{lacks_one}
use Rattle.h1_writer.proofs.laws.lacks_at_most_one.Goals as goal

pub returns : goal.returns
returns c = lacks_one
