use Rattle.h1_reader.proofs.Telling.{whole}
use Rattle.h1_reader.proofs.laws.what_is_whole.Goals as goal

pub returns : goal.returns
returns c = whole
