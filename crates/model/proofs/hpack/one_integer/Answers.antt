use Rattle.model.proofs.IntegerLemmas.{one_int}
use Rattle.model.proofs.hpack.one_integer.Goals as goal

pub returns : goal.returns
returns c = one_int
