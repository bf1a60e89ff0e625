use Rattle.model.proofs.LifeLaws as laws
use Rattle.model.proofs.streams.lives_stay.Goals as goal

pub returns-clause-opened : goal.returns-clause-opened
returns-clause-opened c = laws.opened_stays

pub returns-clause-over : goal.returns-clause-over
returns-clause-over c = laws.over_stays

pub returns-clause-lost : goal.returns-clause-lost
returns-clause-lost c = laws.lost_stays

pub returns-clause-ended : goal.returns-clause-ended
returns-clause-ended c = laws.ended_stays
