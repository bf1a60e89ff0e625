use Rattle.h1_writer.proofs.Wholes.{whole_read}
use Rattle.h1_writer.proofs.laws.whole_is_read.Goals as goal

pub returns : goal.returns
returns c = whole_read
