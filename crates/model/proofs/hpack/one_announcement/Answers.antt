use Rattle.model.proofs.MaximaLaws.{one_maxima}
use Rattle.model.proofs.hpack.one_announcement.Goals as goal

pub returns : goal.returns
returns c = one_maxima
