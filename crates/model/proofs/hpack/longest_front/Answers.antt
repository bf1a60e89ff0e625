use Rattle.model.proofs.KeepLemmas as kept
use Rattle.model.proofs.hpack.longest_front.Goals as goal

pub returns-clause-fits : goal.returns-clause-fits
returns-clause-fits c = λ max fields. kept.keep_fits max fields

pub returns-clause-front : goal.returns-clause-front
returns-clause-front c = λ max fields. kept.keep_front max fields

pub returns-clause-longest : goal.returns-clause-longest
returns-clause-longest c = λ max fields front rest. kept.keep_longest max fields front rest
