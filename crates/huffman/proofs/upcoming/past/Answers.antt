use Rattle.std.proofs.Common.{refl}
use Rattle.huffman.proofs.UpcomingLemmas.{is_past}
use Rattle.huffman.proofs.upcoming.past.Goals as goal

pub returns-clause-aligned : goal.returns-clause-aligned
returns-clause-aligned c = (is_past c.args.coming _ c.args.width c.requires.aligned c.requires.within refl refl).0

pub returns-clause-bits : goal.returns-clause-bits
returns-clause-bits c = (is_past c.args.coming _ c.args.width c.requires.aligned c.requires.within refl refl).1
